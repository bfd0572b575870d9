-- Walks of an image: its blocks with their roles, in the order found, as relations over the whole list.
-- Letters: w a walk; r, q roles; b, c the block with a role; a, i the block and the word that point to one;
-- n, m nodes; p a directory's node; s a slot; j a position in a chain, or the number of a bitmap extension block;
-- k the number of a page, an extension block or a data block; h a header's block.
use Rattle.std.specs.Prelude.{◌≡◌, ℕ, List, [], ◌∷◌, ◌⊎◌, ◌+◌, ◌-◌, ◌*◌, ◌/◌, ◌%◌, ◌<◌, ◌≤◌, ◌≢◌, cond, ◌==◌, ◌++◌, nat_lt}
use Rattle.std.proofs.Common.{zero, suc}
use Rattle.adf_blocks.specs.{declared.cause.Cause.Cause, Sizes.blocks, Sizes.count, Sizes.pages_needed}
use Rattle.adf_blocks.specs.declared.cause.Cause.TheVariants.{BadSize, OutOfRange, Taken, SameName, ShortFile, LostBlock, OwnedFree}
use Rattle.adf_volume.specs.{Image.word_in, Image.root_of, Image.kind_of, Image.held, Image.table_word, Image.name_of, Image.IsFreeAt, Demands.data_demands}
use Rattle.adf_blocks.specs.declared.layout.TheConstants.{EXTENSION, FIRST_MAP_EXT, FIRST_PAGE, FIRST_SLOT, MAP_EXT_NEXT, MAP_EXT_PAGES, NEXT_IN_CHAIN}
use Rattle.adf_blocks.specs.declared.layout.TheConstants.{PAGE_BITS, POINTERS, ROOT_PAGES, SECONDARY_TYPE, SIZE, SLOTS, ST_DIR, ST_FILE}
use Rattle.adf_base.specs.declared.hash.Letters.{Letters, TheVariants.Ascii}
use Rattle.adf_names.specs.Texts.{uppers_by}
use Rattle.adf_volume.specs.{Start.IsBegunBy, Types.letters_for, Types.most_blocks, declared.types.Types.Types, declared.types.Types.TheVariants.Plain}
use Rattle.adf_volume.specs.Demands.{Demand, demand, AllHold, FirstFails, boot_demands_by, root_demands, page_demands, head_demands_by, ext_demands}

-- Head n p s j is the header of node n, at position j of the chain of slot s of directory p.
pub data Role : Type 0 where
  Root : Role
  Page : (i : ℕ) → Role
  MapExt : (j : ℕ) → Role
  Head : (n p s j : ℕ) → Role
  Ext : (n k : ℕ) → Role
  Data : (n k : ℕ) → Role

-- a walk: blocks with their roles, in the order found
abbrev pub Walk : Type 0
Walk = List (Role × ℕ)

-- Roles are ordered by three numbers: pages by number, each bitmap extension block before the pages that it points to
-- (page ROOT_PAGES + MAP_EXT_PAGES * j + i is 1 + i after extension block j); then by node;
-- in a directory by slot and position; in a file
-- extensions, then data.
abbrev pub first : Role → ℕ
first (Head n p s j) = suc p
first (Ext n k) = suc n
first (Data n k) = suc n
first _ = 0

-- the second number: orders a file's extension blocks before its data blocks, and a directory's chains by slot
abbrev pub second : Role → ℕ
second Root = 0
second (Head n p s j) = suc (suc s)
second (Ext n k) = 0
second _ = 1

-- the third number: that of a block among its kind, or the position in a chain
abbrev pub third : Role → ℕ
third Root = 0
third (Page i) = i + (i + (MAP_EXT_PAGES - ROOT_PAGES)) / MAP_EXT_PAGES
third (MapExt j) = ROOT_PAGES + (1 + MAP_EXT_PAGES) * j
third (Head n p s j) = j
third (Ext n k) = k
third (Data n k) = k

-- a role comes before another in this order
abbrev pub Before : Role → Role → Type 0
Before r q = (first r ≤ first q) × (first r ≡ first q → second r ≤ second q) × (first r ≡ first q → second r ≡ second q → third r < third q)

-- two roles have the same place in this order: headers may differ in their node
abbrev pub Same : Role → Role → Type 0
Same r q = (first r ≡ first q) × (second r ≡ second q) × (third r ≡ third q)

-- A walk is a list of roles with blocks, the newest first. It has this role at this block.
abbrev pub Has : Walk → Role → ℕ → Type 0
Has [] r b = ⊥
Has (x ∷ w) r b = ((x.0 ≡ r) × (x.1 ≡ b)) ⊎ Has w r b

-- the count, plus 1 if the role is a header
abbrev pub head_count : Role → ℕ → ℕ
head_count (Head n p s j) m = suc m
head_count _ m = m

-- the number of headers in a walk
abbrev pub heads : Walk → ℕ
heads [] = 0
heads (x ∷ w) = head_count x.0 (heads w)

-- the header of node n is block a, with its directory, slot and position
pub record HeadAt (w : Walk) (n a : ℕ) : Type 0 where
  pub parent : ℕ
  pub slot : ℕ
  pub place : ℕ
  pub has : Has w (Head n parent slot place) a

-- the header of node n is block a, with secondary type t
pub record TypedAt (image : List ℕ) (w : Walk) (t n a : ℕ) : Type 0 where
  pub header : HeadAt w n a
  pub type : word_in image a SECONDARY_TYPE ≡ t

-- the block of node n is a
abbrev pub NodeAt : Walk → ℕ → ℕ → Type 0
NodeAt w zero a = Has w Root a
NodeAt w (suc i) a = HeadAt w (suc i) a

-- the block of directory p is a
abbrev pub DirAt : List ℕ → Walk → ℕ → ℕ → Type 0
DirAt image w zero a = Has w Root a
DirAt image w (suc i) a = TypedAt image w ST_DIR (suc i) a

-- the header of file n is block a
abbrev pub FileAt : List ℕ → Walk → ℕ → ℕ → Type 0
FileAt image w n a = TypedAt image w ST_FILE n a

-- block m of the table of n: its header (m = 0), then its extension blocks
abbrev pub MemberAt : List ℕ → Walk → ℕ → ℕ → ℕ → Type 0
MemberAt image w n zero a = FileAt image w n a
MemberAt image w n (suc m) a = Has w (Ext n (suc m)) a

-- the number of data blocks for the size in header h
abbrev pub data_count : List ℕ → ℕ → ℕ
data_count image h = count (kind_of image) (word_in image h SIZE)

-- word i of block a points to page k: in the root, or in a bitmap extension block of the walk
abbrev pub NamesPage : List ℕ → Walk → ℕ → ℕ → ℕ → Type 0
NamesPage image w k a i =
    ((k < ROOT_PAGES) × (a ≡ root_of image) × (i ≡ FIRST_PAGE + k))
    ⊎ ((j : ℕ) × Has w (MapExt j) a × (i < MAP_EXT_PAGES) × (k ≡ ROOT_PAGES + MAP_EXT_PAGES * j + i))

-- word i of block a asks for this role; none asks for the root
abbrev pub Asks : List ℕ → Walk → Role → ℕ → ℕ → Type 0
Asks image w (Page k) a i = (k < pages_needed (blocks image)) × NamesPage image w k a i
Asks image w (MapExt zero) a i = (ROOT_PAGES < pages_needed (blocks image)) × (a ≡ root_of image) × (i ≡ FIRST_MAP_EXT)
Asks image w (MapExt (suc j)) a i =
    (ROOT_PAGES + MAP_EXT_PAGES * suc j < pages_needed (blocks image)) × Has w (MapExt j) a × (i ≡ MAP_EXT_NEXT)
Asks image w (Head n p s zero) a i =
    (n ≡ suc (heads w)) × (s < SLOTS) × DirAt image w p a × (i ≡ FIRST_SLOT + s) × (word_in image a i ≢ 0)
Asks image w (Head n p s (suc j)) a i =
    (n ≡ suc (heads w)) × ((m : ℕ) × Has w (Head m p s j) a) × (i ≡ NEXT_IN_CHAIN) × (word_in image a i ≢ 0)
Asks image w (Ext n (suc zero)) a i = FileAt image w n a × (i ≡ EXTENSION) × (word_in image a i ≢ 0)
Asks image w (Ext n (suc (suc k))) a i = Has w (Ext n (suc k)) a × (i ≡ EXTENSION) × (word_in image a i ≢ 0)
Asks image w (Data n (suc k)) a i =
    ((h : ℕ) × FileAt image w n h × (k < data_count image h)) × MemberAt image w n (k / POINTERS) a × (i ≡ table_word k)
Asks image w _ a i = ⊥

-- the walk has no role at this place in the order
abbrev pub Lacks : Walk → Role → Type 0
Lacks w r = (q : Role) (b : ℕ) → Has w q b → Same q r → ⊥

-- the first role, in order, that is asked for and that the walk lacks
pub record IsDue (image : List ℕ) (w : Walk) (r : Role) (a i : ℕ) : Type 0 where
  pub asked : Asks image w r a i
  pub lacks : Lacks w r
  pub least : (q : Role) (c k : ℕ) → Asks image w q c k → Lacks w q → Before q r → ⊥

-- the count, plus 1 if the role is an extension block of file n
abbrev pub ext_count_of : ℕ → Role → ℕ → ℕ
ext_count_of n (Ext m k) c = cond (n == m) (suc c) c
ext_count_of n _ c = c

-- the number of extension blocks of file n in a walk
abbrev pub ext_count : Walk → ℕ → ℕ
ext_count [] n = 0
ext_count (x ∷ w) n = ext_count_of n x.0 (ext_count w n)

-- before the first data block of a file: the file has enough extension blocks for its size; else ShortFile
abbrev pub Enough : List ℕ → Walk → Role → Type 0
Enough image w (Data n k) = k ≡ 1 → (h : ℕ) → FileAt image w n h → data_count image h ≤ POINTERS * suc (ext_count w n)
Enough image w _ = Unit {0}

-- b if the role is that of node n, otherwise c
abbrev pub node_block_of : ℕ → Role → ℕ → ℕ → ℕ
node_block_of n Root b c = cond (n == 0) b c
node_block_of n (Head m p s j) b c = cond (n == m) b c
node_block_of n _ b c = c

-- the block of node n, as a function
abbrev pub node_block : Walk → ℕ → ℕ
node_block [] n = 0
node_block (x ∷ w) n = node_block_of n x.0 x.1 (node_block w n)

-- b if the role is extension block k of file n, otherwise c
abbrev pub ext_block_of : ℕ → ℕ → Role → ℕ → ℕ → ℕ
ext_block_of n k (Ext m i) b c = cond (n == m) (cond (k == i) b c) c
ext_block_of n k _ b c = c

-- extension block k of file n
abbrev pub ext_block_in : Walk → ℕ → ℕ → ℕ
ext_block_in [] n k = 0
ext_block_in (x ∷ w) n k = ext_block_of n k x.0 x.1 (ext_block_in w n k)

-- block m of the table of n: its header (m = 0), then its extension blocks
abbrev pub member_block : Walk → ℕ → ℕ → ℕ
member_block w n zero = node_block w n
member_block w n (suc m) = ext_block_in w n (suc m)

-- the pointer to data block k + 1 in the table of file n, or 0 past the last
abbrev pub next_data : List ℕ → Walk → ℕ → ℕ → ℕ
next_data image w n k =
    cond (nat_lt k (data_count image (node_block w n))) (word_in image (member_block w n (k / POINTERS)) (table_word k)) 0

-- the form of block b in this role, as demands; names have these letters
abbrev pub form_demands_by : Letters → List ℕ → Walk → Role → ℕ → List Demand
form_demands_by letters image w Root b = []
form_demands_by letters image w (Page i) b = page_demands image b
form_demands_by letters image w (MapExt j) b = []
form_demands_by letters image w (Head n p s j) b = head_demands_by letters image (kind_of image) b (node_block w p) s
form_demands_by letters image w (Ext n k) b = ext_demands image b (node_block w n)
form_demands_by letters image w (Data n k) b =
    data_demands image (kind_of image) b (node_block w n) k (held (kind_of image) (word_in image (node_block w n) SIZE) k) (next_data image w n k)

-- no earlier header of the chain has the same name, by these letters; else SameName
abbrev pub NewNameBy : Letters → List ℕ → Walk → Role → ℕ → Type 0
NewNameBy letters image w (Head n p s j) b =
    (m k c : ℕ) → Has w (Head m p s k) c → uppers_by letters (name_of image c) ≢ uppers_by letters (name_of image b)
NewNameBy letters image w _ b = Unit {0}

-- the walk does not have this block
abbrev pub IsAbsent : Walk → ℕ → Type 0
IsAbsent w b = (q : Role) → Has w q b → ⊥

-- the demands on a role at block b, which a word of block a points to; names have these letters
abbrev pub demands_by : Letters → List ℕ → Walk → Role → ℕ → ℕ → List Demand
demands_by letters image w r a b =
    demand ShortFile a (Enough image w r)
    ∷ demand OutOfRange a ((2 ≤ b) × (b < blocks image))
    ∷ demand Taken b (IsAbsent w b)
    ∷ form_demands_by letters image w r b ++ demand SameName b (NewNameBy letters image w r b) ∷ []

-- each demand of the role holds; names have these letters
abbrev pub NoCauseBy : Letters → List ℕ → Walk → Role → ℕ → ℕ → Type 0
NoCauseBy letters image w r a b = AllHold (demands_by letters image w r a b)

-- the same on volumes of types 0 and 1
abbrev pub NoCause : List ℕ → Walk → Role → ℕ → ℕ → Type 0
NoCause = NoCauseBy Ascii

-- a walk starts with the root; each further part was due and has no cause, where names have these letters
pub data IsWalkBy (letters : Letters) (image : List ℕ) : Walk → Type 0 where
  start : IsWalkBy letters image ((Root, root_of image) ∷ [])
  step : {w : Walk} {r : Role} {b a i : ℕ} → IsWalkBy letters image w → IsDue image w r a i → word_in image a i ≡ b
      → NoCauseBy letters image w r a b → IsWalkBy letters image ((r, b) ∷ w)

-- the walks of volumes of types 0 and 1
abbrev pub IsWalk : List ℕ → Walk → Type 0
IsWalk = IsWalkBy Ascii

-- the walk has all that it asks for
abbrev pub IsWhole : List ℕ → Walk → Type 0
IsWhole image w = (r : Role) (a i : ℕ) → Asks image w r a i → Lacks w r → ⊥

-- the walk has the page of block b, and its bit is set
abbrev pub IsFreeIn : List ℕ → Walk → ℕ → Type 0
IsFreeIn image w b = (page : ℕ) × Has w (Page ((b - 2) / PAGE_BITS)) page × IsFreeAt image page ((b - 2) % PAGE_BITS)

-- the demands on n blocks of the bitmap, from b on: a block is free if and only if it has no owner
abbrev pub bitmap_demands : List ℕ → Walk → ℕ → ℕ → List Demand
bitmap_demands image w b zero = []
bitmap_demands image w b (suc n) =
    demand LostBlock b (IsAbsent w b → IsFreeIn image w b)
    ∷ demand OwnedFree b (IsFreeIn image w b → IsAbsent w b)
    ∷ bitmap_demands image w (suc b) n

-- The first fault of a volume with these letters: in size, boot bytes or root; else in a part due after some walk; else in the bitmap.
pub data FirstFaultBy (letters : Letters) (image : List ℕ) (b : ℕ) (c : Cause) : Type 0 where
  at_boot : FirstFails (boot_demands_by letters image ++ root_demands image (root_of image)) b c → FirstFaultBy letters image b c
  at_due : IsBegunBy letters image → (w : Walk) (r : Role) (a i : ℕ) → IsWalkBy letters image w → IsDue image w r a i
      → FirstFails (demands_by letters image w r a (word_in image a i)) b c → FirstFaultBy letters image b c
  at_bitmap : IsBegunBy letters image → (w : Walk) → IsWalkBy letters image w → IsWhole image w
      → FirstFails (bitmap_demands image w 2 (blocks image - 2)) b c → FirstFaultBy letters image b c

-- the first fault of an image as a volume of these types: more blocks than they may have; else the first one by their letters
abbrev pub FirstFaultOf : Types → List ℕ → ℕ → Cause → Type 0
FirstFaultOf types image b c =
    ((most_blocks types < blocks image) × (b ≡ 0) × (c ≡ BadSize))
    ⊎ ((blocks image ≤ most_blocks types) × FirstFaultBy (letters_for types image) image b c)

-- the same of type 0 or 1
abbrev pub FirstFault : List ℕ → ℕ → Cause → Type 0
FirstFault = FirstFaultOf Plain
