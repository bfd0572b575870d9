-- The blocks of files.
use Rattle.std.specs.Prelude.{◌≡◌, ◌≤◌, ℕ, List, ◌+◌, ◌*◌, ◌/◌, cond, length, nat_lt, slice_index}
use Rattle.adf_blocks.specs.declared.layout.TheConstants.{POINTERS}
use Rattle.adf_volume.specs.{Demands.Demand, Demands.data_demands, Image.held, Image.kind_of, Image.table_word, Image.word_in, Walk.data_count}
use Rattle.adf_check.specs.{declared.claims.Link.Link, declared.datas.Datas.Datas, declared.file.File.File}

-- the word of a file's header that points to its first extension block
abbrev pub ext_link : File → Link
ext_link file = record { holder = file.head; block = file.ext }

-- the number of data blocks is that of the file's header, and the table has as many pointers
pub record AreDatas (image : List ℕ) (datas : Datas) : Type 0 where
  pub count : datas.count ≡ data_count image datas.file.head
  pub enough : datas.count ≤ POINTERS * length datas.table.now

-- the link is pointer k of the table
pub record IsDataLink (image : List ℕ) (table : List ℕ) (k : ℕ) (link : Link) : Type 0 where
  pub holder : link.holder ≡ slice_index table (k / POINTERS)
  pub block : link.block ≡ word_in image (slice_index table (k / POINTERS)) (table_word k)

-- the pointer to data block k + 1 in the table of a file with this many data blocks, or 0 past the last
abbrev pub next_of : List ℕ → List ℕ → ℕ → ℕ → ℕ
next_of image table count k = cond (nat_lt k count) (word_in image (slice_index table (k / POINTERS)) (table_word k)) 0

-- the demands on block b as data block k + 1 of a file
abbrev pub data_asked : List ℕ → Datas → ℕ → ℕ → List Demand
data_asked image datas b k =
    data_demands image (kind_of image) b datas.file.head (k + 1) (held (kind_of image) datas.file.size (k + 1))
    (next_of image datas.table.now datas.count (k + 1))
