-- The files of an image, by their headers alone.
-- Letters: h the block of a file's header; m a position in its table; k the number of a data block, from 0; b a block.
use Rattle.std.specs.Prelude.{◌≡◌, ◌==◌, ◌&&◌, ◌+◌, ◌*◌, ◌/◌, ◌<◌, ◌≤◌, ℕ, Bool, true, List, [], ◌∷◌, ◌++◌, min, take}
use Rattle.adf_base.specs.Words.{block, long_sum, word}
use Rattle.std.proofs.Common.{zero, suc}
use Rattle.adf_names.specs.declared.kind.Kind.{Kind, TheVariants.Ffs, TheVariants.Ofs}
use Rattle.adf_tree.specs.declared.entry.Body.{Body, TheVariants.File}
use Rattle.adf_blocks.specs.{Sizes.blocks, Sizes.count}
use Rattle.adf_build.specs.Plan.{exts_needed}
use Rattle.adf_blocks.specs.declared.layout.TheConstants.{DATA_HEAD, DATA_NUMBER, EXTENSION, POINTERS, SECONDARY_TYPE, SIZE, ST_FILE, TYPE, T_DATA}
use Rattle.adf_volume.specs.{Demands.AllHold, Demands.ext_demands, Image.content, Image.table_word, Image.word_in, Lists.At}

-- the first blocks of an image: `held`, or all whole ones if it has fewer
abbrev pub held_part : List ℕ → ℕ → List ℕ
held_part image held = take (512 * min (blocks image) held) image

-- block m of a table: a header, then its extension blocks, each with a pointer to the next
abbrev pub table_at : List ℕ → ℕ → ℕ → ℕ
table_at image h zero = h
table_at image h (suc m) = word_in image (table_at image h m) EXTENSION

-- the pointer to data block k + 1 in the table of a file
abbrev pub named_at : List ℕ → ℕ → ℕ → ℕ
named_at image h k = word_in image (table_at image h (k / POINTERS)) (table_word k)

-- the first n values of a function
abbrev pub firsts : (ℕ → ℕ) → ℕ → List ℕ
firsts f zero = []
firsts f (suc n) = firsts f n ++ f n ∷ []

-- the data blocks that the table of the file with header h names, as many as its size asks for
abbrev pub datas_from : Kind → List ℕ → ℕ → List ℕ
datas_from kind image h = firsts (named_at image h) (count kind (word_in image h SIZE))

-- the number of blocks of the table of n data blocks
abbrev pub tables_needed : ℕ → ℕ
tables_needed n = 1 + exts_needed n

-- the blocks of the table of the file with header h, as many as its size asks for: the header, then its extension blocks
abbrev pub tables_from : Kind → List ℕ → ℕ → List ℕ
tables_from kind image h = firsts (table_at image h) (tables_needed (count kind (word_in image h SIZE)))

-- the bytes of a block say that it is OFS data block k, counted from 1, of the file with its header at block h: by its type, words 1 and 2, and
-- its checksum
abbrev pub says_data : List ℕ → ℕ → ℕ → Bool
says_data bytes h k = (word bytes TYPE == T_DATA) && (word bytes DATA_HEAD == h) && (word bytes DATA_NUMBER == k) && (long_sum bytes == 0)

-- block b says that of itself
abbrev pub says_ofs_data : List ℕ → ℕ → ℕ → ℕ → Bool
says_ofs_data image h k b = says_data (block image b) h k

-- a block has the form of data block k of the file with header h: on OFS it says so of itself; on FFS a data block has no form
abbrev pub is_ofs_data_of : Kind → List ℕ → ℕ → ℕ → ℕ → Bool
is_ofs_data_of Ofs image h k b = says_ofs_data image h k b
is_ofs_data_of Ffs image h k b = true

-- the data blocks of a file have their form. How many bytes an OFS one states, and which next one, is left to the judge: the size and the table of
-- the file say both
abbrev pub HaveForms : Kind → List ℕ → ℕ → List ℕ → Type 0
HaveForms kind image h datas = (k b : ℕ) → At datas k b → is_ofs_data_of kind image h (suc k) b ≡ true

-- a block is held, and is no boot block
abbrev pub IsHeld : List ℕ → ℕ → Type 0
IsHeld image b = (2 ≤ b) × (b < blocks image)

-- a block is held, and has the form of an extension block of the file with header h
abbrev pub IsExtOf : List ℕ → ℕ → ℕ → Type 0
IsExtOf image h b = IsHeld image b × AllHold (ext_demands image b h)

-- of the first n blocks of a table all but the header are extension blocks
abbrev pub HasExts : List ℕ → ℕ → ℕ → Type 0
HasExts image h n = (m : ℕ) → suc m < n → IsExtOf image h (table_at image h (suc m))

-- a file: its data blocks are those that its header's table names, each is held and has its form, and its bytes are their data areas, joined
-- and cut at the size that the header states; it claims its table and its data blocks
pub record IsFileOf (kind : Kind) (image : List ℕ) (h : ℕ) (body : Body) (claimed : List ℕ) : Type 0 where
  pub type : word_in image h SECONDARY_TYPE ≡ ST_FILE
  pub table : HasExts image h (tables_needed (count kind (word_in image h SIZE)))
  pub all : claimed ≡ tables_from kind image h ++ datas_from kind image h
  pub inside : (k b : ℕ) → At (datas_from kind image h) k b → IsHeld image b
  pub forms : HaveForms kind image h (datas_from kind image h)
  pub bytes : body ≡ File (content image kind h (datas_from kind image h))
