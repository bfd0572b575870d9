-- What is read of an image of which some blocks were not read: these have zeros, and no table of a file names them, as far as blocks do not say
-- themselves whose they are.
-- Letters: marks whether each block was not read; b, p blocks, h the header of a file; s a pointer of a table; k a number of pointers or of blocks.
use Rattle.std.specs.Prelude.{ℕ, ◌+◌, ◌%◌, ◌^◌, ◌==◌, ◌&&◌, ◌||◌, min, nat_lt, not, Bool, false, cond, List, replicate, slice_index_or}
use Rattle.std.proofs.Common.{zero, suc}
use Rattle.adf_base.specs.Words.{block, with_block, with_word, word}
use Rattle.adf_blocks.specs.Sizes.{blocks}
use Rattle.adf_blocks.specs.declared.layout.TheConstants.{CHECKSUM, DATA_HEAD, MOST_BLOCKS, OWN_KEY, PARENT, SECONDARY_TYPE, ST_FILE}
use Rattle.adf_blocks.specs.declared.layout.TheConstants.{TYPE, T_DATA, T_LIST, T_SHORT}

-- block b was not read
abbrev pub unread_at : List Bool → ℕ → Bool
unread_at marks b = slice_index_or marks b false

-- the image with zeros in block b, if it was not read
abbrev pub zeroed_at : List Bool → List ℕ → ℕ → List ℕ
zeroed_at marks image b = cond (unread_at marks b) (with_block image b (replicate 512 0)) image

-- so are the first k blocks
unfoldable pub zeroed : List Bool → List ℕ → ℕ → List ℕ
zeroed marks image zero = image
zeroed marks image (suc k) = zeroed_at marks (zeroed marks image k) k

-- block b claims to be the header or an extension block of a file, with its own number
abbrev pub is_table_at : List ℕ → ℕ → Bool
is_table_at image b =
    let v = block image b in ((word v TYPE == T_SHORT) || (word v TYPE == T_LIST)) && ((word v SECONDARY_TYPE == ST_FILE) && (word v OWN_KEY == b))

-- the header of the file of a table in block b
abbrev pub table_header : List ℕ → ℕ → ℕ
table_header v b = cond (word v TYPE == T_SHORT) b (word v PARENT)

-- block p says that it is an OFS data block of the file with header h
abbrev pub is_data_of_file : List ℕ → (h p : ℕ) → Bool
is_data_of_file image h p = nat_lt p (blocks image) && ((word (block image p) TYPE == T_DATA) && (word (block image p) DATA_HEAD == h))

-- pointer s of the table in block b
abbrev pub pointer : List ℕ → (b s : ℕ) → ℕ
pointer image b s = word (block image b) (6 + s)

-- one of the first k pointers of the table in block b leads to such a block
unfoldable pub names_data_of : List ℕ → (h b k : ℕ) → Bool
names_data_of image h b zero = false
names_data_of image h b (suc k) = names_data_of image h b k || is_data_of_file image h (pointer image b k)

-- the image with word i of block b made v
abbrev pub word_put : List ℕ → (b i v : ℕ) → List ℕ
word_put image b i v = with_block image b (with_word (block image b) i v)

-- the image with pointer s of block b made 0, and the sum of that block as it was: word 5 makes up for it
abbrev pub without_pointer : List ℕ → (b s : ℕ) → List ℕ
without_pointer image b s =
    word_put (word_put image b CHECKSUM ((word (block image b) CHECKSUM + pointer image b s) % 2 ^ 32)) b (6 + s) 0

-- so is the pointer, if it leads to a block that was not read
abbrev pub pointer_dropped : List Bool → List ℕ → (b s : ℕ) → List ℕ
pointer_dropped marks image b s = cond (unread_at marks (pointer image b s)) (without_pointer image b s) image

-- so are the first k pointers
unfoldable pub pointers_dropped : List Bool → List ℕ → (b k : ℕ) → List ℕ
pointers_dropped marks image b zero = image
pointers_dropped marks image b (suc k) = pointer_dropped marks (pointers_dropped marks image b k) b k

-- block b is such a table, and none of its blocks says that it is an OFS data block of its file
abbrev pub is_plain_table : List ℕ → ℕ → Bool
is_plain_table image b = is_table_at image b && not (names_data_of image (table_header (block image b) b) b 72)

-- the image without the pointers of the table in block b to what was not read
abbrev pub table_dropped : List Bool → List ℕ → ℕ → List ℕ
table_dropped marks image b = cond (is_plain_table image b) (pointers_dropped marks image b 72) image

-- so are those of the first k blocks
unfoldable pub tables_dropped : List Bool → List ℕ → ℕ → List ℕ
tables_dropped marks image zero = image
tables_dropped marks image (suc k) = table_dropped marks (tables_dropped marks image k) k

-- the image that is read, as far as the largest volume reaches
abbrev pub without_unread : List Bool → List ℕ → List ℕ
without_unread marks image = let n = min MOST_BLOCKS (blocks image) in tables_dropped marks (zeroed marks image n) n
