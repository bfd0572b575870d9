-- The content of an image, by block number.
use Rattle.std.specs.Prelude.{ℕ, List, [], ◌∷◌, ◌++◌, ◌+◌, ◌-◌, ◌*◌, ◌/◌, ◌%◌, ◌==◌, cond, nat_lt, slice_index, slice_range, take}
use Rattle.std.proofs.Common.{suc}
use Rattle.adf_base.specs.Words.{block, word}
use Rattle.adf_base.specs.declared.hash.Letters.{Letters, TheVariants.Ascii, TheVariants.International}
use Rattle.adf_names.specs.declared.kind.Kind.{Kind, TheVariants.Ofs, TheVariants.Ffs}
use Rattle.adf_names.specs.{declared.meta.Meta.Meta, declared.meta.Stamps.Stamps}
use Rattle.adf_blocks.specs.declared.layout.TheConstants.{DATA_BYTES, FIRST_POINTER, MAP_EXT_PAGES, NAME, POINTERS, ROOT_PAGES, SIZE}
use Rattle.adf_blocks.specs.{Forms.text_at, HeadBlock.meta_at, PageBlock.IsFreeBit, RootBlock.stamps_at, Sizes.blocks, Sizes.chunk, Sizes.middle}

-- word i of block b
abbrev pub word_in : List ℕ → ℕ → ℕ → ℕ
word_in image b i = word (block image b) i

-- the block of the root
abbrev pub root_of : List ℕ → ℕ
root_of image = middle (blocks image)

-- the kind in the boot bytes: FFS if the type is odd
unfoldable pub kind_of : List ℕ → Kind
kind_of image = cond (slice_index (block image 0) 3 % 2 == 0) Ofs Ffs

-- the letters of the volume, by the type in the boot bytes: international from type 2 on
unfoldable pub letters_of : List ℕ → Letters
letters_of image = cond (nat_lt (slice_index (block image 0) 3) 2) Ascii International

-- the name in a header, or the label in a root
unfoldable pub name_of : List ℕ → ℕ → List ℕ
name_of image b = text_at (block image b) NAME

-- the metadata in a header: comment, protection bits and date
unfoldable pub meta_of : List ℕ → ℕ → Meta
meta_of image b = meta_at (block image b)

-- the three dates in a root
unfoldable pub stamps_of : List ℕ → ℕ → Stamps
stamps_of image b = stamps_at (block image b)

-- the number of bytes in data block k, counted from 1, of a file of this size
unfoldable pub held : Kind → ℕ → ℕ → ℕ
held kind size k = cond (nat_lt (chunk kind * k) size) (chunk kind) (size - chunk kind * (k - 1))

-- the word of the header or an extension block that points to data block k + 1 of a file
abbrev pub table_word : ℕ → ℕ
table_word k = FIRST_POINTER - k % POINTERS

-- the data area of a block
unfoldable pub area : Kind → List ℕ → List ℕ
area Ofs b = slice_range b DATA_BYTES 512
area Ffs b = slice_range b 0 512

-- the data areas of blocks, joined
abbrev pub joined : List ℕ → Kind → List ℕ → List ℕ
joined image kind [] = []
joined image kind (b ∷ bs) = area kind (block image b) ++ joined image kind bs

-- the content of the file with header h: its data areas joined, cut at the size in the header
unfoldable pub content : List ℕ → Kind → ℕ → List ℕ → List ℕ
content image kind h datas = take (word_in image h SIZE) (joined image kind datas)

-- the bytes of data block k, counted from 1, of a file of this size
abbrev pub piece : Kind → ℕ → ℕ → List ℕ → List ℕ
piece kind size k b = take (held kind size k) (area kind b)

-- the pieces of a file of this size, from data block k on
abbrev pub pieces : List ℕ → Kind → ℕ → ℕ → List ℕ → List (List ℕ)
pieces image kind size k [] = []
pieces image kind size k (b ∷ bs) = piece kind size k (block image b) ∷ pieces image kind size (suc k) bs

-- the bitmap extension blocks for this many pages: the root points to ROOT_PAGES, each of them to MAP_EXT_PAGES
unfoldable pub map_exts_needed : ℕ → ℕ
map_exts_needed pages = (pages - ROOT_PAGES + (MAP_EXT_PAGES - 1)) / MAP_EXT_PAGES

-- the bit in the page at this block is set
abbrev pub IsFreeAt : List ℕ → ℕ → ℕ → Type 0
IsFreeAt image page bit = IsFreeBit (block image page) bit
