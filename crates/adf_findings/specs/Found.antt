-- The state of a survey, as a course.
-- Letters: w a walk, s a course; q, r roles; b, c blocks; i the number of a page; n, p nodes; f a state; fs, gs, bits findings.
use Rattle.std.specs.Prelude.{◌≡◌, ◌≤◌, ◌<◌, ◌+◌, ◌-◌, ◌==◌, ◌&&◌, ◌||◌, ℕ, Bool, true, false, cond, not, List, [], ◌∷◌, ◌++◌, ◌⊎◌, length, nat_lt, replicate}
use Rattle.std.specs.Prelude.{set, slice_index, slice_index_or, Option, Some, None, IsTrue, ◌↔◌}
use Rattle.std.proofs.Common.{zero, suc}
use Rattle.std.specs.{Ordering.nat_cmp, Str.bytes_eq, BTreeMap.BTreeMap, BTreeMap.Updates, BTreeMap.get}
use Rattle.adf_tree.specs.NameSet.{Names, has}
use Rattle.adf_names.specs.Texts.{is_name}
use Rattle.adf_blocks.specs.{declared.cause.Cause.Cause, declared.cause.Cause.TheVariants.LostBlock, declared.cause.Cause.TheVariants.OwnedFree, Sizes.blocks}
use Rattle.adf_volume.specs.{Demands.AllHold, Demands.FirstFails, Image.IsFreeAt, Image.name_of, LayoutRoles.owner_of, Positions.Position, Parts.role_of}
use Rattle.adf_volume.specs.declared.owner.Owner.{Owner, TheVariants.Free, TheVariants.Boot}
use Rattle.adf_volume.specs.Walk.{Role, Has, bitmap_demands, heads, node_block, Walk, Role.Page, Role.Head}
use Rattle.adf_volume.specs.Owners.{is_part, owned_count, owner_at}
use Rattle.adf_findings.specs.{WalkOwners.HasNumber, WalkOwners.OwnersValue, WalkOwners.node_after, Demands.uppers_in, declared.found.ChainPlace.ChainPlace}
use Rattle.adf_findings.specs.{declared.found.Found.Found, Members.at_role, Members.owns, Members.parent_node}
use Rattle.adf_volume.specs.declared.part.Part.{Part, TheVariants.Page as PagePart, TheVariants.Head as HeadPart}
use Rattle.adf_findings.specs.Survey.{BitsTell, Course, FindingValue, IsCompared, IsCourse, IsDone}

-- whether the role at block c is a header of the chain with this name
abbrev pub is_named : List ℕ → Role → ℕ → ℕ → ℕ → List ℕ → Bool
is_named image (Head n p s j) c parent slot name = (p == parent) && ((s == slot) && bytes_eq (uppers_in image (name_of image c)) name)
is_named image _ c parent slot name = false

-- whether a header of the chain has this name
abbrev pub has_name : List ℕ → Walk → ℕ → ℕ → List ℕ → Bool
has_name image [] parent slot name = false
has_name image (x ∷ w) parent slot name = is_named image x.0 x.1 parent slot name || has_name image w parent slot name

-- the set has the valid names of the walk's headers in the chain at a position, if there are any
abbrev pub AreNamed : List ℕ → Walk → Position → Names → Type 0
AreNamed image w k names =
    (name : List ℕ) (m p s j b : ℕ) → is_name name ≡ true → suc p ≡ k.first → suc (suc s) ≡ k.second → Has w (Head m p s j) b
    → has names (uppers_in image name) ≡ has_name image w p s (uppers_in image name)

-- the walk has headers of the part's chain, unless the part is the first of them
abbrev pub IsChain : Walk → Part → Type 0
IsChain w (HeadPart n p s zero) = (m j b : ℕ) → Has w (Head m p s j) b → ⊥
IsChain w (HeadPart n p s (suc j)) = (m b : ℕ) × Has w (Head m p s j) b
IsChain w _ = Unit {0}

-- whether the name of the part is new, if it is a header
abbrev pub new_in : List ℕ → Walk → Part → ℕ → Bool
new_in image w (HeadPart n p s j) b = not (has_name image w p s (uppers_in image (name_of image b)))
new_in image w _ b = true

-- the name of the part is valid, if it is a header
abbrev pub HasValidName : List ℕ → Part → ℕ → Type 0
HasValidName image (HeadPart n p s j) b = is_name (name_of image b) ≡ true
HasValidName image _ b = Unit {0}

-- the marks of n blocks are true for the blocks of members
abbrev pub AreMarked : ℕ → List Bool → Walk → Type 0
AreMarked n marks w = (length marks ≡ n) × ((b : ℕ) → b < n → slice_index_or marks b false ≡ owns w b)

-- the marks of n blocks, begun with none
abbrev pub begun_marks : ℕ → List Bool → List Bool
begun_marks n [] = replicate n false
begun_marks n (x ∷ marks) = x ∷ marks

-- the marks of n blocks, with that of block b
abbrev pub with_mark : ℕ → ℕ → List Bool → List Bool
with_mark n b marks = set (begun_marks n marks) b true

-- the marks of n blocks are true for the blocks of members; while none is, there may be no marks
pub record AreSkipped (n : ℕ) (marks : List Bool) (w : Walk) : Type 0 where
  pub size : (marks ≡ []) ⊎ (length marks ≡ n)
  pub marked : (b : ℕ) → b < n → slice_index_or marks b false ≡ owns w b

-- the owner of a block by the walk
abbrev pub owner_by : Walk → ℕ → Owner
owner_by [] b = cond (nat_lt b 2) Boot Free
owner_by (x ∷ w) b = cond (x.1 == b) (owner_of x.0) (owner_by w b)

-- the node of the newest extension block or data block of the walk; 0 if it has none
abbrev pub last_node : Walk → ℕ
last_node [] = 0
last_node (x ∷ w) = node_after (owner_of x.0) (last_node w)

-- the owners that are kept of n blocks are those by the walk
pub record AreOwned (n : ℕ) (owners : OwnersValue) (w : Walk) : Type 0 where
  pub size : length owners.owners ≡ n
  pub owner : (b : ℕ) → owner_at owners.owners b ≡ owner_by w b
  pub node : owners.node ≡ last_node w

-- whether a part owns block b
abbrev pub is_owned : Found → ℕ → Bool
is_owned f b = is_part (owner_at f.owners.owners b)

-- the positions of headers, with one more if the role is a header
abbrev pub with_place : Role → List ChainPlace → List ChainPlace
with_place (Head n p s j) cs = cs ++ record { slot = s; place = j } ∷ []
with_place _ cs = cs

-- the positions of the walk's headers, by their numbers from 1 on
abbrev pub places_of : Walk → List ChainPlace
places_of [] = []
places_of (x ∷ w) = with_place x.0 (places_of w)

-- the pages also have the block, if the part is one
abbrev pub IsPut : Part → ℕ → BTreeMap ℕ ℕ → BTreeMap ℕ ℕ → Type 0
IsPut (PagePart i) b old new = Updates nat_cmp old new i (Some b)
IsPut _ b old new = new ≡ old

-- the part may own the block: a block that is free, and a part after those of all nodes before its own
pub record IsNextPart (part : Part) (b : ℕ) (f : Found) : Type 0 where
  pub from : 2 ≤ b
  pub below : b < length f.owners.owners
  pub free : owner_at f.owners.owners b ≡ Free
  pub number : HasNumber (owner_of (role_of part))
  pub order : f.owners.node ≤ node_after (owner_of (role_of part)) f.owners.node
  pub some : 1 ≤ f.left

-- the part owns the block
pub record IsOwned (part : Part) (b : ℕ) (f g : Found) : Type 0 where
  pub pages : IsPut part b f.pages g.pages
  pub owners : g.owners.owners ≡ set f.owners.owners b (owner_of (role_of part))
  pub node : g.owners.node ≡ node_after (owner_of (role_of part)) f.owners.node
  pub left : g.left + 1 ≡ f.left
  pub skipped : g.skipped ≡ f.skipped

-- nodes, names, parents and positions are unchanged
pub record AreSame (f g : Found) : Type 0 where
  pub nodes : g.nodes ≡ f.nodes
  pub names : g.names ≡ f.names
  pub parents : g.parents ≡ f.parents
  pub places : g.places ≡ f.places

-- whether a name is known before position j of a chain: none is at the first
abbrev pub known_at : ℕ → Bool → Bool
known_at zero known = false
known_at (suc j) known = known

-- of valid names, the new set has those of the old one, or none if the part is the first header of a chain,
-- and that of the part if it is a header
abbrev pub KeepsName : List ℕ → Part → ℕ → Names → Names → Type 0
KeepsName image (HeadPart n p s j) b old new =
    (name : List ℕ) → is_name name ≡ true → has new (uppers_in image name)
    ≡ (bytes_eq (uppers_in image (name_of image b)) (uppers_in image name) || known_at j (has old (uppers_in image name)))
KeepsName image _ b old new = new ≡ old

-- the node, the directory p, the slot and the position j of a header are kept
pub record KeepsHead (p s j b : ℕ) (f g : Found) : Type 0 where
  pub nodes : g.nodes.items ≡ f.nodes.items ++ b ∷ []
  pub names : g.names ≡ f.names
  pub parents : g.parents.items ≡ f.parents.items ++ p ∷ []
  pub places : g.places.items ≡ f.places.items ++ record { slot = s; place = j } ∷ []

-- the facts of a part that later parts need are kept
abbrev pub IsKept : Part → ℕ → Found → Found → Type 0
IsKept (HeadPart n p s j) b f g = KeepsHead p s j b f g
IsKept _ b f g = AreSame f g

-- marks, pages and names are unchanged
abbrev pub KeepsParts : Found → Found → Type 0
KeepsParts f g = g ≡ record f { nodes = g.nodes; parents = g.parents; places = g.places }

-- the part is taken
pub record IsTaken (part : Part) (b : ℕ) (f g : Found) : Type 0 where
  pub owned : IsOwned part b f g
  pub kept : IsKept part b f g

-- the block is skipped
pub record IsBlockSkipped (b : ℕ) (f g : Found) : Type 0 where
  pub skipped : g.skipped.items ≡ with_mark (length f.owners.owners) b f.skipped.items
  pub rest : g ≡ record f { skipped = g.skipped }

-- the state is that of a course
pub record Stands (image : List ℕ) (f : Found) (s : Course) : Type 0 where
  pub pages : (i : ℕ) → get nat_cmp f.pages i ≡ at_role s.walk (Page i)
  pub owners : AreOwned (blocks image) f.owners s.walk
  pub skipped : AreSkipped (blocks image) f.skipped.items s.skipped
  pub left : f.left + owned_count f.owners.owners ≡ blocks image
  pub node : (n : ℕ) → slice_index f.nodes.items n ≡ node_block s.walk n
  pub count : length f.nodes.items ≡ suc (heads s.walk)
  pub few : length f.nodes.items + f.left ≤ suc (blocks image)
  pub parent : (n : ℕ) → slice_index f.parents.items n ≡ parent_node s.walk n
  pub parents : length f.parents.items ≡ suc (heads s.walk)
  pub places : f.places.items ≡ places_of s.walk

-- the finding of the bit of block b: none if it is not compared or agrees; otherwise the cause
abbrev pub BitTells : List ℕ → Course → ℕ → Option Cause → Type 0
BitTells image s b None = IsCompared image s b → AllHold (bitmap_demands image s.walk b 1)
BitTells image s b (Some c) = IsCompared image s b × FirstFails (bitmap_demands image s.walk b 1) b c

-- whether the page is taken, and if so whether its bit is set
abbrev pub IsBitOf : List ℕ → BTreeMap ℕ ℕ → ℕ → ℕ → Option Bool → Type 0
IsBitOf image pages page bit None = get nat_cmp pages page ≡ None
IsBitOf image pages page bit (Some t) = (at : ℕ) × (get nat_cmp pages page ≡ Some at) × (IsTrue t ↔ IsFreeAt image at bit)

-- the cause of a bit: a block in use without an owner and without an excuse, or one owned and free
abbrev pub bit_cause : Bool → Bool → Bool → Option Cause
bit_cause false false false = Some LostBlock
bit_cause false true false = None
bit_cause false skipped true = None
bit_cause true skipped true = Some OwnedFree
bit_cause true skipped false = None

-- a course is done, with these findings
abbrev pub IsFinished : List ℕ → Found → List FindingValue → Type 0
IsFinished image f fs = (s : Course) × IsCourse image s × IsDone image s × Stands image f s × (s.findings ≡ fs)

-- a course is done, and these findings are its own and those of these bits
pub record HasReported (image : List ℕ) (f : Found) (fs : List FindingValue) (s : Course) (bits : List FindingValue) : Type 0 where
  pub course : IsCourse image s
  pub done : IsDone image s
  pub stands : Stands image f s
  pub told : s.findings ++ bits ≡ fs

-- a course is done, and the bits are compared
abbrev pub IsCompleted : List ℕ → Found → List FindingValue → Type 0
IsCompleted image f fs = (s : Course) × (bits : List FindingValue) × HasReported image f fs s bits × BitsTell image s 2 (blocks image - 2) bits

-- the findings of the bits up to a block, followed by those from there on
abbrev pub TellsOn : List ℕ → Course → ℕ → List FindingValue → Type 0
TellsOn image s b gs = (n : ℕ) (fs : List FindingValue) → BitsTell image s b n fs → BitsTell image s 2 (b - 2 + n) (gs ++ fs)

-- a course is done, and the bits up to a block are compared
abbrev pub HasReportedOn : List ℕ → Found → List FindingValue → ℕ → Type 0
HasReportedOn image f fs b = (s : Course) × (gs : List FindingValue) × HasReported image f fs s gs × TellsOn image s b gs
