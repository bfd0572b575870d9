-- When a tree and a layout fit an image.
-- Letters: ls the letters whose case is ignored in names; t a tree; l a layout; n an entry's number; e an entry; h its header's block; b, a blocks;
-- k, m, j, i indices in lists of blocks, or of words;
-- p a directory's node; s a slot; o an owner.
use Rattle.std.specs.Prelude.{◌≡◌, ℕ, List, [], ◌+◌, ◌-◌, ◌*◌, ◌/◌, ◌%◌, ◌<◌, ◌≤◌, ◌↔◌, map, length, slice_index}
use Rattle.std.proofs.Common.{zero, suc}
use Rattle.adf_volume.specs.{Lists.At, Lists.In, Lists.Spelled, Lists.NoBlockTwice, declared.owner.Owner.Owner}
use Rattle.adf_names.specs.declared.kind.Kind.{Kind}
use Rattle.adf_blocks.specs.Sizes.{blocks, count, pages_needed}
use Rattle.adf_volume.specs.Image.{word_in, root_of, map_exts_needed, kind_of, held, table_word, name_of, meta_of, stamps_of, content, IsFreeAt}
use Rattle.adf_base.specs.{Hash.slot_by, declared.hash.Letters.Letters, declared.hash.Letters.TheVariants.Ascii}
use Rattle.adf_blocks.specs.declared.layout.TheConstants.{EXTENSION, FIRST_MAP_EXT, FIRST_PAGE, FIRST_SLOT, MAP_EXT_NEXT, MAP_EXT_PAGES, NEXT_IN_CHAIN}
use Rattle.adf_blocks.specs.declared.layout.TheConstants.{PAGE_BITS, POINTERS, ROOT_PAGES, SECONDARY_TYPE, SIZE, SLOTS, ST_DIR, ST_FILE}
use Rattle.adf_volume.specs.Demands.{AllHold, boot_demands_by, root_demands, page_demands, head_demands_by, ext_demands, data_demands}
use Rattle.adf_tree.specs.declared.entry.Body.{Body, TheVariants.Dir, TheVariants.File}
use Rattle.adf_tree.specs.{declared.entry.Entry.Entry, Tree.Tree, Tree.IsDir, Tree.IsTreeBy}
use Rattle.adf_volume.specs.{Types.letters_for, Types.most_blocks, declared.types.Types.Types, declared.types.Types.TheVariants.Plain}
use Rattle.adf_volume.specs.Layout.{EntryAt, chain_nodes_by, Layout, at_node, exts_of, datas_of, owned}

-- block m of a file's table: the header (m = 0), then the extension blocks
abbrev pub TableAt : List ℕ → Layout → ℕ → ℕ → ℕ → Type 0
TableAt image l n zero a = at_node image l n ≡ a
TableAt image l n (suc m) a = At (exts_of l n) m a

-- the bit of block b is set
abbrev pub IsFree : List ℕ → List ℕ → ℕ → Type 0
IsFree image pages b = (page : ℕ) × At pages ((b - 2) / PAGE_BITS) page × IsFreeAt image page ((b - 2) % PAGE_BITS)

-- the body of entry n, with header h, agrees with the image
abbrev pub BodyFits : List ℕ → Kind → Layout → ℕ → ℕ → Body → Type 0
BodyFits image kind l n h Dir = (word_in image h SECONDARY_TYPE ≡ ST_DIR) × (exts_of l n ≡ []) × (datas_of l n ≡ [])
BodyFits image kind l n h (File bytes) =
    (word_in image h SECONDARY_TYPE ≡ ST_FILE) × (bytes ≡ content image kind h (datas_of l n)) × (length bytes ≡ word_in image h SIZE)

-- entry n, with header h, agrees with the image; its name has these letters
pub record EntryFitsBy (ls : Letters) (image : List ℕ) (t : Tree) (l : Layout) (n h : ℕ) (e : Entry) : Type 0 where
  pub form : AllHold (head_demands_by ls image t.kind h (at_node image l e.parent) (slot_by ls e.name))
  pub name : e.name ≡ name_of image h
  pub meta : e.meta ≡ meta_of image h
  pub body : BodyFits image t.kind l n h e.body

-- the same on volumes of types 0 and 1
abbrev pub EntryFits : List ℕ → Tree → Layout → ℕ → ℕ → Entry → Type 0
EntryFits = EntryFitsBy Ascii

-- the blocks of file n, with header h, agree with the image
pub record FileFits (image : List ℕ) (t : Tree) (l : Layout) (n h : ℕ) (bytes : List ℕ) : Type 0 where
  pub exts : Spelled (λ b. word_in image b EXTENSION) (word_in image h EXTENSION) (exts_of l n)
  pub ext_form : (k b : ℕ) → At (exts_of l n) k b → AllHold (ext_demands image b h)
  pub enough : count t.kind (length bytes) ≤ POINTERS * suc (length (exts_of l n))
  pub datas : length (datas_of l n) ≡ count t.kind (length bytes)
  pub named : (k b a : ℕ) → At (datas_of l n) k b → TableAt image l n (k / POINTERS) a → word_in image a (table_word k) ≡ b
  pub data_form : (k b : ℕ) → At (datas_of l n) k b
      → AllHold (data_demands image t.kind b h (suc k) (held t.kind (length bytes) (suc k)) (slice_index (datas_of l n) (suc k)))

-- the image is a volume with these letters and this tree, at the blocks of this layout
pub record FitsBy (ls : Letters) (image : List ℕ) (t : Tree) (l : Layout) : Type 0 where
  pub boots : AllHold (boot_demands_by ls image)
  pub kind : t.kind ≡ kind_of image
  pub letters : t.letters ≡ ls
  pub root : AllHold (root_demands image (root_of image))
  pub label : t.label ≡ name_of image (root_of image)
  pub stamps : t.stamps ≡ stamps_of image (root_of image)
  pub tree : IsTreeBy ls t.entries
  pub places : length l.places ≡ length t.entries
  pub pages : length l.pages ≡ pages_needed (blocks image)
  pub map_exts : length l.map_exts ≡ map_exts_needed (pages_needed (blocks image))
  pub map_first : (b : ℕ) → At l.map_exts 0 b → word_in image (root_of image) FIRST_MAP_EXT ≡ b
  pub map_next : (j a b : ℕ) → At l.map_exts j a → At l.map_exts (suc j) b → word_in image a MAP_EXT_NEXT ≡ b
  pub page_named : (k b : ℕ) → k < ROOT_PAGES → At l.pages k b → word_in image (root_of image) (FIRST_PAGE + k) ≡ b
  pub page_listed : (j i a b : ℕ) → i < MAP_EXT_PAGES → At l.map_exts j a → At l.pages (ROOT_PAGES + MAP_EXT_PAGES * j + i) b → word_in image a i ≡ b
  pub page_form : (k b : ℕ) → At l.pages k b → AllHold (page_demands image b)
  pub entries : (n : ℕ) (e : Entry) → EntryAt t n e → EntryFitsBy ls image t l n (at_node image l n) e
  pub chains : (p s : ℕ) → IsDir t.entries p → s < SLOTS
      → Spelled (λ b. word_in image b NEXT_IN_CHAIN) (word_in image (at_node image l p) (FIRST_SLOT + s)) (map (at_node image l) (chain_nodes_by ls t p s))
  pub files : (n : ℕ) (e : Entry) (bytes : List ℕ) → EntryAt t n e → e.body ≡ File bytes → FileFits image t l n (at_node image l n) bytes
  pub once : NoBlockTwice (owned image l)
  pub range : (o : Owner) (b : ℕ) → In (owned image l) (o, b) → (2 ≤ b) × (b < blocks image)
  pub bitmap : (b : ℕ) → 2 ≤ b → b < blocks image → IsFree image l.pages b ↔ ((o : Owner) → In (owned image l) (o, b) → ⊥)

-- the image is a volume of these types with this tree, at the blocks of this layout, and no larger than they may be
abbrev pub FitsOf : Types → List ℕ → Tree → Layout → Type 0
FitsOf types image t l = (blocks image ≤ most_blocks types) × FitsBy (letters_for types image) image t l

-- the same of type 0 or 1, in at most MOST_PLAIN_BLOCKS blocks
abbrev pub Fits : List ℕ → Tree → Layout → Type 0
Fits = FitsOf Plain
