-- The owners of the blocks of a walk, and the places that are given to extension blocks and data blocks.
-- Letters: p, q places that are given; n, m nodes; i a place.
use Rattle.std.specs.Prelude.{◌≡◌, ◌≤◌, ◌<◌, ◌^◌, ℕ, List, length}
use Rattle.adf_volume.specs.declared.owner.Owner.{Owner}
use Rattle.adf_volume.specs.declared.owner.Owner.TheVariants as owner
use Rattle.adf_findings.specs.declared.given_places.GivenPlaces.{GivenPlaces}
use Rattle.adf_volume.specs.{declared.kept_owner.KeptOwner.KeptOwner, Places.AreStarts, Places.first_data, Places.first_ext, Places.owner_kept, Places.start_of}
use Rattle.adf_volume.specs.declared.owner_class.OwnerClass.{OwnerClass, TheVariants.Free, TheVariants.Ext, TheVariants.Data}

-- the owners of blocks, and the last node of which an extension block or a data block has an owner; 0 if there is none
pub record OwnersValue : Type 0 where
  pub owners : List Owner
  pub node : ℕ

-- the number of the data block that an owner is, from 1; 0 of others
abbrev pub data_number_of : Owner → ℕ
data_number_of (owner.Data n k) = k
data_number_of _ = 0

-- the node of an extension block or a data block; another one of others
abbrev pub node_after : Owner → ℕ → ℕ
node_after (owner.Ext n k) m = n
node_after (owner.Data n k) m = n
node_after _ m = m

-- an extension block or a data block is numbered from 1
abbrev pub HasNumber : Owner → Type 0
HasNumber (owner.Ext n k) = 1 ≤ k
HasNumber (owner.Data n k) = 1 ≤ k
HasNumber _ = Unit {0}

-- the place of an extension block or a data block is one of so many, and that of a free block is 0
abbrev pub IsGiven : ℕ → ℕ → OwnerClass → ℕ → Type 0
IsGiven exts datas Free i = i ≡ 0
IsGiven exts datas Ext i = i < exts
IsGiven exts datas Data i = i < datas
IsGiven exts datas _ i = Unit {0}

-- the place of a kept owner is one of so many
abbrev pub IsInside : ℕ → ℕ → KeptOwner → Type 0
IsInside exts datas k = IsGiven exts datas k.class k.place

-- the blocks of nodes begin in order, at places that are given
pub record AreFit (p : GivenPlaces) : Type 0 where
  pub exts : AreStarts first_ext p.starts.items
  pub datas : AreStarts first_data p.starts.items
  pub ends : (n : ℕ) → n < length p.starts.items → ((start_of p.starts.items n).exts ≤ p.exts) × ((start_of p.starts.items n).datas ≤ p.datas)
  pub short : (p.exts ≤ 2 ^ 29) × (p.datas ≤ 2 ^ 29)

-- more nodes are begun, or more places are given: what was kept is the same owner still
pub record AreGrown (p q : GivenPlaces) : Type 0 where
  pub fit : AreFit q
  pub same : (k : KeptOwner) → IsInside p.exts p.datas k → owner_kept q.starts.items k ≡ owner_kept p.starts.items k
  pub more : (p.exts ≤ q.exts) × (p.datas ≤ q.datas)

-- the owner is kept so, by the places that are given
pub record IsKeptBy (p : GivenPlaces) (o : Owner) (k : KeptOwner) : Type 0 where
  pub owner : owner_kept p.starts.items k ≡ o
  pub inside : IsInside p.exts p.datas k
  pub short : k.place < 2 ^ 29
