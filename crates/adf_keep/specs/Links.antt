-- Links that are laid into a volume, and what stays as it is.
-- Letters: d, g, h, t blocks of headers; s a slot; b a block; i the number of a word.
use Rattle.std.specs.Prelude.{◌≡◌, ◌<◌, ◌≤◌, ◌+◌, ◌-◌, ◌/◌, ◌%◌, ◌==◌, ◌&&◌, ◌||◌, ◌⊎◌, ◌↔◌, ◌++◌, ◌∷◌, [], ℕ, Bool, true, false, not, nat_le, nat_lt}
use Rattle.std.specs.Prelude.{List, Some, length, map, slice_get, slice_index, slice_index_or, slice_range}
use Rattle.std.specs.List.{All}
use Rattle.adf_base.specs.Hash.{slot_by}
use Rattle.adf_base.specs.Words.{block, long_sum}
use Rattle.adf_base.specs.declared.hash.Letters.{Letters}
use Rattle.adf_blocks.specs.HeadBlock.{is_link, meta_stated}
use Rattle.adf_blocks.specs.Sizes.{blocks, pages_needed}
use Rattle.adf_blocks.specs.declared.layout.TheConstants.{FIRST_SLOT, NEXT_IN_CHAIN, OWN_KEY, PAGE_BITS, SECONDARY_TYPE, SLOTS, ST_DIR, ST_FILE}
use Rattle.adf_blocks.specs.declared.layout.TheConstants.{ST_LINK_DIR, ST_LINK_FILE, ST_SOFT_LINK, TYPE, T_SHORT}
use Rattle.adf_volume.specs.Image.{IsFreeAt, name_of, root_of, word_in}
use Rattle.adf_keep.specs.declared.links.LinkTarget.{LinkTarget, TheVariants.Hard, TheVariants.Soft}
use Rattle.adf_keep.specs.declared.links.{Linked.Linked, WantedLink.WantedLink}
use Rattle.adf_keep.specs.declared.links_places.{Place.Place, Walk.Walk}
use Rattle.adf_keep.specs.declared.links_words.TheConstants.{CHECKSUM, NEXT_LINK, ORIGINAL, PATH_ROOM, PATH_START}

-- whether a block has a mark
abbrev pub has_link_mark : List Bool → ℕ → Bool
has_link_mark marks b = slice_index_or marks b false

-- block d is that of the root, or says that it is a directory: it has slots
abbrev pub has_slots : List ℕ → ℕ → Bool
has_slots image d = (d == root_of image) || (word_in image d SECONDARY_TYPE == ST_DIR)

-- the hash chain of slot s of directory d comes to header h
pub data IsInHashChain (image : List ℕ) (d s : ℕ) : ℕ → Type 0 where
  first : {h : ℕ} → 1 ≤ h → word_in image d (FIRST_SLOT + s) ≡ h → IsInHashChain image d s h
  next : {g h : ℕ} → 1 ≤ h → IsInHashChain image d s g → word_in image g NEXT_IN_CHAIN ≡ h → IsInHashChain image d s h

-- the header in block h is that of the entry at a path: of the root, or one in a hash chain of a directory, with the last name of the path
pub data IsAtPath (image : List ℕ) : (h : ℕ) → (path : List (List ℕ)) → Type 0 where
  root : IsAtPath image (root_of image) []
  entry : {d h s : ℕ} {path : List (List ℕ)} → IsAtPath image d path → has_slots image d ≡ true → s < SLOTS → IsInHashChain image d s h
      → IsAtPath image h (path ++ name_of image h ∷ [])

-- block d is that of the root or a directory that the hash chains lead to
pub record IsDirectory (image : List ℕ) (d : ℕ) : Type 0 where
  pub path : List (List ℕ)
  pub at : IsAtPath image d path
  pub slots : has_slots image d ≡ true

-- header h is in the chain of slot s of directory d
pub record IsPlace (image : List ℕ) (d s h : ℕ) : Type 0 where
  pub directory : IsDirectory image d
  pub few : s < SLOTS
  pub chain : IsInHashChain image d s h

-- no place
abbrev pub no_place : Place
no_place = record { directory = 0; slot = 0 }

-- the place of header h
abbrev pub place_of_header : List Place → (h : ℕ) → Place
place_of_header places h = slice_index_or places h no_place

-- each place of a header is right
abbrev pub ArePlaces : List ℕ → List Place → Type 0
ArePlaces image places = (h : ℕ) → 1 ≤ (place_of_header places h).directory → IsPlace image (place_of_header places h).directory (place_of_header places h).slot h

-- a walk of the hash chains: the places that are known so far, and the directories that were come to
pub record IsPlaceWalk (image : List ℕ) (walk : Walk) : Type 0 where
  pub places : ArePlaces image walk.places.items
  pub directories : All (IsDirectory image) walk.directories.items

-- word i of a header names a header: it is a slot, the next one in the chain, or the first link
abbrev pub names_header : List ℕ → (b i : ℕ) → Bool
names_header volume b i =
    (has_slots volume b && (nat_le FIRST_SLOT i && nat_lt i (FIRST_SLOT + SLOTS)))
    || (not (b == root_of volume) && ((i == NEXT_IN_CHAIN) || (i == NEXT_LINK)))

-- a word that names no header in the volume names a link in the image
pub record NamesLink (volume image : List ℕ) (links : List Bool) (b i : ℕ) : Type 0 where
  pub word : names_header volume b i ≡ true
  pub none : word_in volume b i ≡ 0
  pub link : has_link_mark links (word_in image b i) ≡ true

-- a word of a header is that of the volume, or names a link where that names nothing, or is the checksum
abbrev pub IsWordBeside : (volume image : List ℕ) → (links : List Bool) → (b i : ℕ) → Type 0
IsWordBeside volume image links b i = (word_in image b i ≡ word_in volume b i) ⊎ (NamesLink volume image links b i ⊎ (i ≡ CHECKSUM))

-- the header of an entry of the volume, or its root, in which words that named nothing name links: its sum, its name and its metadata are the same
pub record IsHeaderBeside (volume image : List ℕ) (links : List Bool) (b : ℕ) : Type 0 where
  pub path : List (List ℕ)
  pub at : IsAtPath volume b path
  pub sum : long_sum (block image b) ≡ long_sum (block volume b)
  pub name : name_of image b ≡ name_of volume b
  pub meta : meta_stated (block image b) ≡ meta_stated (block volume b)
  pub words : (i : ℕ) → i < 128 → IsWordBeside volume image links b i

-- block b has a page of the bitmap: those behind the root
abbrev pub is_page_of : List ℕ → ℕ → Bool
is_page_of volume b = nat_lt (root_of volume) b && nat_le b (root_of volume + pages_needed (blocks volume))

-- block b is free by the bitmap
abbrev pub IsFreeBlock : List ℕ → ℕ → Type 0
IsFreeBlock image b = IsFreeAt image (root_of image + 1 + (b - 2) / PAGE_BITS) ((b - 2) % PAGE_BITS)

-- the bitmap has a block free if the volume has it free and it is that of no link; that of a link is free in the volume
pub record IsBitBeside (volume image : List ℕ) (links : List Bool) (b : ℕ) : Type 0 where
  pub taken : has_link_mark links b ≡ true → IsFreeBlock volume b × (IsFreeBlock image b → ⊥)
  pub same : has_link_mark links b ≡ false → IsFreeBlock image b ↔ IsFreeBlock volume b

-- the header of a link in block b: the next one in its chain is a link too, or there is none
pub record IsLinkHeader (image : List ℕ) (links : List Bool) (b : ℕ) : Type 0 where
  pub sum : long_sum (block image b) ≡ 0
  pub type : word_in image b TYPE ≡ T_SHORT
  pub own : word_in image b OWN_KEY ≡ b
  pub kind : is_link (word_in image b SECONDARY_TYPE) ≡ true
  pub next : (word_in image b NEXT_IN_CHAIN ≡ 0) ⊎ (has_link_mark links (word_in image b NEXT_IN_CHAIN) ≡ true)

-- what block b of an image is beside a volume: the header of a link, a page of the bitmap with the same sum, a header that names links, or the
-- same block
pub data IsBlockBeside (volume image : List ℕ) (links : List Bool) (b : ℕ) : Type 0 where
  a_link : has_link_mark links b ≡ true → IsLinkHeader image links b → IsBlockBeside volume image links b
  a_page : has_link_mark links b ≡ false → is_page_of volume b ≡ true → long_sum (block image b) ≡ long_sum (block volume b) → IsBlockBeside volume image links b
  a_header : has_link_mark links b ≡ false → is_page_of volume b ≡ false → IsHeaderBeside volume image links b → IsBlockBeside volume image links b
  the_same : has_link_mark links b ≡ false → is_page_of volume b ≡ false → block image b ≡ block volume b → IsBlockBeside volume image links b

-- header h is that of the root, or has a place
abbrev pub is_known : List ℕ → List Place → (h : ℕ) → Bool
is_known volume places h = nat_lt h (blocks volume) && ((h == root_of volume) || nat_le 1 (place_of_header places h).directory)

-- header b is in the block of neither a link nor a page, and what it names is known
pub record IsClosed (volume : List ℕ) (places : List Place) (links : List Bool) (b : ℕ) : Type 0 where
  pub none : has_link_mark links b ≡ false
  pub page : is_page_of volume b ≡ false
  pub slots : has_slots volume b ≡ true → (s : ℕ) → s < SLOTS → 1 ≤ word_in volume b (FIRST_SLOT + s)
      → is_known volume places (word_in volume b (FIRST_SLOT + s)) ≡ true
  pub next : 1 ≤ word_in volume b NEXT_IN_CHAIN → is_known volume places (word_in volume b NEXT_IN_CHAIN) ≡ true

-- so is each header that is known
abbrev pub AreClosed : List ℕ → List Place → List Bool → Type 0
AreClosed volume places links = (b : ℕ) → is_known volume places b ≡ true → IsClosed volume places links b

-- an image is a volume with links, which are marked by the blocks of their headers, and is the same otherwise
pub record HasLinks (volume image : List ℕ) (links : List Bool) : Type 0 where
  pub long : length image ≡ length volume
  pub each : (b : ℕ) → b < blocks volume → IsBlockBeside volume image links b
  pub bits : (b : ℕ) → 2 ≤ b → b < blocks volume → IsBitBeside volume image links b
  pub inside : (b : ℕ) → has_link_mark links b ≡ true → b < blocks volume

-- each entry of a volume is in an image, in the same block at the same path, and each other entry of that is a link
pub record HasEntries (volume image : List ℕ) (links : List Bool) : Type 0 where
  pub all : (h : ℕ) (path : List (List ℕ)) → IsAtPath volume h path → IsAtPath image h path
  pub others : (h : ℕ) (path : List (List ℕ)) → IsAtPath image h path → IsAtPath volume h path ⊎ (has_link_mark links h ≡ true)

-- a soft link has this path, and a zero behind it
pub record HasPath (image : List ℕ) (b : ℕ) (path : List ℕ) : Type 0 where
  pub room : length path < PATH_ROOM
  pub is : slice_range (block image b) PATH_START (PATH_START + length path) ≡ path
  pub end : slice_index (block image b) (PATH_START + length path) ≡ 0

-- secondary types of a hard link and of what it leads to: it says of which kind that is
abbrev pub AreLinkedKinds : (link target : ℕ) → Type 0
AreLinkedKinds link target = ((link ≡ ST_LINK_DIR) × (target ≡ ST_DIR)) ⊎ ((link ≡ ST_LINK_FILE) × (target ≡ ST_FILE))

-- the chain of links of header t comes to the link in block b
pub data IsInLinkChain (image : List ℕ) (t : ℕ) : ℕ → Type 0 where
  first : {b : ℕ} → 1 ≤ b → word_in image t NEXT_LINK ≡ b → IsInLinkChain image t b
  next : {a b : ℕ} → 1 ≤ b → IsInLinkChain image t a → word_in image a NEXT_LINK ≡ b → IsInLinkChain image t b

-- of each link a header whose chain of links comes to it, or 0
abbrev pub AreLed : List ℕ → (led : List ℕ) → Type 0
AreLed image led = (b : ℕ) → 1 ≤ slice_index led b → IsInLinkChain image (slice_index led b) b

-- a hard link leads to the header of the entry at this path, of the kind that it says, and the chain of links of that comes to it
pub record LeadsToEntry (image : List ℕ) (b : ℕ) (path : List (List ℕ)) : Type 0 where
  pub at : IsAtPath image (word_in image b ORIGINAL) path
  pub chain : IsInLinkChain image (word_in image b ORIGINAL) b
  pub kind : AreLinkedKinds (word_in image b SECONDARY_TYPE) (word_in image (word_in image b ORIGINAL) SECONDARY_TYPE)

-- a link leads to what is wanted
abbrev pub LinkLeadsTo : List ℕ → (b : ℕ) → LinkTarget → Type 0
LinkLeadsTo image b (Soft path) = (word_in image b SECONDARY_TYPE ≡ ST_SOFT_LINK) × HasPath image b path.items
LinkLeadsTo image b (Hard path) = LeadsToEntry image b path.items

-- the header in block b is that of a wanted link: in its directory, in the chain of the slot of its name, with its name and metadata
pub record IsWanted (image : List ℕ) (letters : Letters) (want : WantedLink) (b : ℕ) : Type 0 where
  pub inside : b < blocks image
  pub directory : ℕ
  pub at : IsAtPath image directory want.directory.items
  pub chain : IsInHashChain image directory (slot_by letters want.name) b
  pub name : name_of image b ≡ want.name
  pub meta : meta_stated (block image b) ≡ want.meta
  pub leads : LinkLeadsTo image b want.to

-- the marks of links, by the blocks of their headers: `owns` has that of each wanted link, or 0
pub record AreMarkedLinks (count : ℕ) (owns : List ℕ) (links : List Bool) : Type 0 where
  pub each : (k : ℕ) → 1 ≤ slice_index owns k → slice_index owns k < count → has_link_mark links (slice_index owns k) ≡ true
  pub only : (b : ℕ) → has_link_mark links b ≡ true → (k : ℕ) × (1 ≤ b) × (slice_index owns k ≡ b)

-- an image is a volume with those of the wanted links that have a block in `owns`, and is the same otherwise
pub record IsLinked (volume : List ℕ) (letters : Letters) (wanted : List WantedLink) (image owns : List ℕ) : Type 0 where
  pub size : length owns ≡ length wanted
  pub links : List Bool
  pub marked : AreMarkedLinks (blocks volume) owns links
  pub beside : HasLinks volume image links
  pub entries : HasEntries volume image links
  pub each : (k : ℕ) (want : WantedLink) → slice_get wanted k ≡ Some want → 1 ≤ slice_index owns k
      → IsWanted image letters want (slice_index owns k)

-- an image is a volume with the wanted links that are kept, and is the same otherwise
pub record HasKept (volume : List ℕ) (letters : Letters) (wanted : List WantedLink) (l : Linked) : Type 0 where
  pub owns : List ℕ
  pub kept : l.kept.items ≡ map (λ b. not (b == 0)) owns
  pub linked : IsLinked volume letters wanted l.image.items owns

-- so it is, or it is the volume, and no link is kept
abbrev pub AreLaid : (volume : List ℕ) → Letters → (wanted : List WantedLink) → Linked → Type 0
AreLaid volume letters wanted l =
    ((l.image.items ≡ volume) × ((k : ℕ) → has_link_mark l.kept.items k ≡ false)) ⊎ HasKept volume letters wanted l
