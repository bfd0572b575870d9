-- Volumes that are built from a table of additions.
-- Letters: v a new volume; xs the table of its additions; bytes the contents of the files; t a tree; n a number of blocks.
use Rattle.std.specs.Prelude.{◌≡◌, ◌≤◌, ◌<◌, ◌*◌, ◌-◌, ◌%◌, ◌==◌, ℕ, true, false, List, [], cond, length, take}
use Rattle.adf_base.specs.declared.hash.Letters.{Letters}
use Rattle.adf_names.specs.{VolumeTypes.letters_of_type, declared.kind.Kind.Kind, declared.kind.Kind.TheVariants.Ffs, declared.kind.Kind.TheVariants.Ofs}
use Rattle.adf_tree.specs.Tree.{Tree}
use Rattle.adf_blocks.specs.{Sizes.is_allowed, declared.layout.TheConstants.MOST_BLOCKS}
use Rattle.adf_build.specs.{Building.IsBuildable, Building.need_of, Laid.IsLaid}
use Rattle.adf_memory.specs.{Rooms.filled, declared.building.Built.Built, declared.building.NewVolume.NewVolume, declared.building.Refusal.Refusal}
use Rattle.adf_memory.specs.declared.table_additions.TableAddition.{TableAddition}
use Rattle.adf_memory.specs.TableAdditions.{AreSound, IsFirstAdditionFault, addition_fault_number, stamp_of, tree_with}
use Rattle.adf_memory.specs.declared.building.Refusal.TheVariants as refusal

-- the kind of a volume of this type: FFS if it is odd
abbrev pub kind_of_type : ℕ → Kind
kind_of_type n = cond (n % 2 == 0) Ofs Ffs

-- the tree of a new volume, without entries
abbrev pub new_tree : NewVolume → Tree
new_tree v = record {
  kind = kind_of_type v.kind;
  letters = letters_of_type v.kind;
  label = take v.label_length v.label;
  stamps = record { root = stamp_of v.root; altered = stamp_of v.altered; created = stamp_of v.created };
  entries = [];
}

-- the tree that is built
abbrev pub tree_of : NewVolume → List ℕ → List TableAddition → Tree
tree_of v bytes xs = tree_with (new_tree v) bytes xs

-- the volume has a kind and a label, and no addition has a fault
pub record IsSoundVolume (v : NewVolume) (bytes : List ℕ) (xs : List TableAddition) : Type 0 where
  pub kind : v.kind ≤ 3
  pub label : v.label_length ≤ 30
  pub additions : AreSound (letters_of_type v.kind) bytes xs

-- why no volume is begun: its kind, or its label
abbrev pub IsBadVolume : NewVolume → Refusal → Type 0
IsBadVolume v refusal.BadKind = 3 < v.kind
IsBadVolume v refusal.BadLabel = (v.kind ≤ 3) × (30 < v.label_length)
IsBadVolume v _ = ⊥

-- why the additions of a table are not built: the first fault, or memory is refused
abbrev pub IsTableRefusal : Letters → List ℕ → List TableAddition → Refusal → Type 0
IsTableRefusal letters bytes xs (refusal.Addition n fault) = IsFirstAdditionFault letters bytes xs n fault
IsTableRefusal letters bytes xs refusal.NoMemory = Unit {0}
IsTableRefusal letters bytes xs _ = ⊥

-- the volume has a kind and a label
abbrev pub HasKindAndLabel : NewVolume → Type 0
HasKindAndLabel v = (v.kind ≤ 3) × (v.label_length ≤ 30)

-- what a refusal means, where it is of the volume or of its additions
abbrev pub Explains : NewVolume → List ℕ → List TableAddition → Refusal → Type 0
Explains v bytes xs refusal.BadKind = 3 < v.kind
Explains v bytes xs refusal.BadLabel = (v.kind ≤ 3) × (30 < v.label_length)
Explains v bytes xs (refusal.Addition n fault) = HasKindAndLabel v × IsFirstAdditionFault (letters_of_type v.kind) bytes xs n fault
Explains v bytes xs refusal.NoMemory = HasKindAndLabel v
Explains v bytes xs _ = ⊥

-- what a refusal to build means, where the image has so many bytes of room
abbrev pub ExplainsBuild : NewVolume → List ℕ → List TableAddition → ℕ → Refusal → Type 0
ExplainsBuild v bytes xs room refusal.BadSize = HasKindAndLabel v × (is_allowed v.blocks ≡ false)
ExplainsBuild v bytes xs room refusal.SmallRoom = HasKindAndLabel v × (is_allowed v.blocks ≡ true) × (room < v.blocks * 512)
ExplainsBuild v bytes xs room (refusal.Full need have) =
    IsSoundVolume v bytes xs × (need ≡ need_of (tree_of v bytes xs) v.blocks) × (have ≡ v.blocks - 2) × (have < need)
ExplainsBuild v bytes xs room fault = Explains v bytes xs fault

-- what a refusal means where the fewest blocks are asked for: not even the largest volume has room, which needs and has so many blocks
abbrev pub ExplainsNeed : NewVolume → List ℕ → List TableAddition → Refusal → Type 0
ExplainsNeed v bytes xs (refusal.Full need have) =
    IsSoundVolume v bytes xs × (need ≡ need_of (tree_of v bytes xs) MOST_BLOCKS) × (have ≡ MOST_BLOCKS - 2) × (have < need)
ExplainsNeed v bytes xs fault = Explains v bytes xs fault

-- the number of a refusal
abbrev pub refusal_number : Refusal → ℕ
refusal_number refusal.BadKind = 1
refusal_number refusal.BadLabel = 2
refusal_number refusal.BadSize = 3
refusal_number refusal.SmallRoom = 4
refusal_number (refusal.Addition n fault) = addition_fault_number fault
refusal_number (refusal.Full need have) = 11
refusal_number refusal.NoMemory = 23

-- what is told of a refusal beside its number
abbrev pub told : Refusal → Built
told (refusal.Addition n fault) = record { addition = n; need = 0; have = 0; blocks = 0 }
told (refusal.Full need have) = record { addition = 0; need = need; have = have; blocks = 0 }
told _ = record { addition = 0; need = 0; have = 0; blocks = 0 }

-- what is told of a volume of so many blocks
abbrev pub built_in : ℕ → Built
built_in n = record { addition = 0; need = 0; have = 0; blocks = n }

-- a number and what is told are those of a refusal that has this meaning
abbrev pub Refuses : (Refusal → Type 0) → ℕ → Built → Type 0
Refuses meaning n b = (r : Refusal) × (n ≡ refusal_number r) × (b ≡ told r) × meaning r

-- the room begins with the image that is laid for a tree in so many blocks, and is otherwise as it was
pub record HasVolume (t : Tree) (n : ℕ) (old new : List ℕ) : Type 0 where
  pub image : List ℕ
  pub laid : IsLaid image t
  pub size : length image ≡ n * 512
  pub room : new ≡ filled image old

-- n is the smallest number of blocks of a volume that has room for a tree
pub record IsFewest (t : Tree) (n : ℕ) : Type 0 where
  pub room : IsBuildable t n
  pub fewest : (m : ℕ) → IsBuildable t m → n ≤ m
