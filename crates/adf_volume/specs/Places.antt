-- Places in the list of all extension blocks and in that of all data blocks, and the owners that are kept by them.
-- Letters: n, m nodes; k a number within a file, from 1.
use Rattle.std.specs.Prelude.{◌≡◌, ℕ, List, ◌+◌, ◌-◌, ◌<◌, ◌≤◌, count_by, length, nat_le, slice_index_or}
use Rattle.std.specs.List.Sorted.{IsNonDecreasingBy}
use Rattle.adf_volume.specs.declared.owner.Owner.{Owner}
use Rattle.adf_volume.specs.declared.owner.Owner.TheVariants as owner
use Rattle.adf_volume.specs.{declared.kept_owner.KeptOwner.KeptOwner, declared.node_start.NodeStart.NodeStart, OwnerClass.class_of}
use Rattle.adf_volume.specs.declared.owner_class.OwnerClass.{OwnerClass}
use Rattle.adf_volume.specs.declared.owner_class.OwnerClass.TheVariants.{Free, Boot, Root, Page, MapExt, Head, Ext, Data}

-- where a node's extension blocks begin
abbrev pub first_ext : NodeStart → ℕ
first_ext start = start.exts

-- where a node's data blocks begin
abbrev pub first_data : NodeStart → ℕ
first_data start = start.datas

-- where the blocks of node n begin
abbrev pub start_of : List NodeStart → ℕ → NodeStart
start_of starts n = slice_index_or starts n (record { exts = 0; datas = 0 })

-- the blocks of the first node begin at place 0, and those of a later node never before those of an earlier one
pub record AreStarts (first : NodeStart → ℕ) (starts : List NodeStart) : Type 0 where
  pub some : 0 < length starts
  pub zero : first (start_of starts 0) ≡ 0
  pub rising : IsNonDecreasingBy first starts

-- node n is the last one whose blocks begin at the place or before it
pub record IsLastStart (first : NodeStart → ℕ) (starts : List NodeStart) (place n : ℕ) : Type 0 where
  pub within : n < length starts
  pub begins : first (start_of starts n) ≤ place
  pub last : (m : ℕ) → n < m → m < length starts → place < first (start_of starts m)

-- the last node whose blocks begin at a place or before it, where later ones begin at later places
abbrev pub last_start : (NodeStart → ℕ) → List NodeStart → ℕ → ℕ
last_start first starts place = count_by (λ s. nat_le (first s) place) starts - 1

-- the owner of a class at a place
abbrev pub owner_with : List NodeStart → OwnerClass → ℕ → Owner
owner_with starts Free i = owner.Free
owner_with starts Boot i = owner.Boot
owner_with starts Root i = owner.Root
owner_with starts Page i = owner.Page i
owner_with starts MapExt i = owner.MapExt i
owner_with starts Head i = owner.Head i
owner_with starts Ext i = let n = last_start first_ext starts i in owner.Ext n (i - (start_of starts n).exts + 1)
owner_with starts Data i = let n = last_start first_data starts i in owner.Data n (i - (start_of starts n).datas + 1)

-- the owner that is kept so
abbrev pub owner_kept : List NodeStart → KeptOwner → Owner
owner_kept starts kept = owner_with starts kept.class kept.place

-- the place of an owner in the list of its class, where those of extension blocks and data blocks are given
abbrev pub place_in_class : (ℕ → ℕ → ℕ) → (ℕ → ℕ → ℕ) → Owner → ℕ
place_in_class ext_at data_at (owner.Page k) = k
place_in_class ext_at data_at (owner.MapExt k) = k
place_in_class ext_at data_at (owner.Head n) = n
place_in_class ext_at data_at (owner.Ext n k) = ext_at n k
place_in_class ext_at data_at (owner.Data n k) = data_at n k
place_in_class ext_at data_at _ = 0

-- what is kept of an owner, where the places of extension blocks and data blocks are given
abbrev pub kept_by : (ℕ → ℕ → ℕ) → (ℕ → ℕ → ℕ) → Owner → KeptOwner
kept_by ext_at data_at o = record { class = class_of o; place = place_in_class ext_at data_at o }

-- what is kept of an owner: of an extension block or a data block, its place among those of all files
abbrev pub kept_as : List NodeStart → Owner → KeptOwner
kept_as starts = kept_by (λ n k. (start_of starts n).exts + (k - 1)) (λ n k. (start_of starts n).datas + (k - 1))

-- an extension block or a data block has a number from 1, and its place is behind the start of its file and of no later node
abbrev pub IsNumbered : List NodeStart → Owner → Type 0
IsNumbered starts (owner.Ext n k) = (1 ≤ k) × IsLastStart first_ext starts ((start_of starts n).exts + (k - 1)) n
IsNumbered starts (owner.Data n k) = (1 ≤ k) × IsLastStart first_data starts ((start_of starts n).datas + (k - 1)) n
IsNumbered starts _ = Unit {0}
