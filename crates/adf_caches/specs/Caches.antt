-- Directory caches, and which are right.
-- Letters: w the walk of an image's survey; d a directory, n an entry, by their nodes; b a block; r a record.
use Rattle.std.specs.Prelude.{◌%◌, ◌==◌, ◌&&◌, ◌||◌, ℕ, Bool, false, not, nat_le, cond, List, is_some, Option, Some, None}
use Rattle.std.specs.Prelude.{count_by, map, slice_index}
use Rattle.std.specs.{List.flat_map, List.list_all, List.range_with_len, Option.option_and_then, Str.bytes_eq}
use Rattle.adf_base.specs.Words.{block, long_sum, word}
use Rattle.adf_blocks.specs.Sizes.{blocks, in_range}
use Rattle.adf_blocks.specs.declared.layout.TheConstants.{EXTENSION, OWN_KEY, SECONDARY_TYPE, SIZE, ST_DIR, ST_FILE, TYPE, T_DIR_CACHE}
use Rattle.adf_volume.specs.Image.{name_of, root_of, word_in}
use Rattle.adf_volume.specs.Walk.{Walk, heads, node_block}
use Rattle.adf_findings.specs.Members.{owns, parent_node}
use Rattle.adf_caches.specs.Entries.{has_entry, headed_at, is_entry_at}
use Rattle.adf_caches.specs.declared.{records.TheConstants.RECORD_START, blocks.TheConstants.DIRECTORY, blocks.TheConstants.NEXT_CACHE}
use Rattle.adf_caches.specs.declared.blocks.TheConstants.{RECORD_COUNT}
use Rattle.adf_caches.specs.Paths.{way_by}
use Rattle.adf_caches.specs.Records.{RecordValue, records_fit, records_from}

-- the volume has directory caches: its type is 4 or 5
abbrev pub has_caches : List ℕ → Bool
has_caches image = nat_le 4 (slice_index (block image 0) 3)

-- d is a directory that is found: the root, or an entry of that type
abbrev pub is_found_directory : List ℕ → Walk → (d : ℕ) → Bool
is_found_directory image w d =
    cond (d == 0) (owns w (root_of image)) (has_entry w d && (word_in image (node_block w d) SECONDARY_TYPE == ST_DIR))

-- the block of the header of directory d
abbrev pub directory_header : List ℕ → Walk → (d : ℕ) → ℕ
directory_header image w d = cond (d == 0) (root_of image) (node_block w d)

-- the directory with its header in block b
abbrev pub directory_headed : List ℕ → Walk → (b : ℕ) → Option ℕ
directory_headed image w b = cond (b == root_of image) (Some 0) (headed_at w b)

-- the directory that a cache block names
abbrev pub directory_named : List ℕ → Walk → (b : ℕ) → Option ℕ
directory_named image w b = directory_headed image w (word_in image b DIRECTORY)

-- what the bytes of block b say: that it is a directory cache, at its own number, with its sum and its records
unfoldable pub says_cache : List ℕ → (b : ℕ) → Bool
says_cache c b = (word c TYPE == T_DIR_CACHE) && ((word c OWN_KEY == b)
    && ((long_sum c == 0) && records_fit c (word c RECORD_COUNT) RECORD_START))

-- block b is a cache block of directory d: it is in range, no part of the volume has it, it says so, and it names d
unfoldable pub is_cache_block : List ℕ → Walk → (d b : ℕ) → Bool
is_cache_block image w d b = in_range image b && (not (owns w b) && (says_cache (block image b) b && is_entry_at d (directory_named image w b)))

-- the first cache block of directory d
abbrev pub first_cache : List ℕ → Walk → (d : ℕ) → ℕ
first_cache image w d = word_in image (directory_header image w d) EXTENSION

-- the cache block behind one
abbrev pub next_cache : List ℕ → (b : ℕ) → ℕ
next_cache image b = word_in image b NEXT_CACHE

-- the chain of directory d, if each of its blocks is a cache block of it and it ends
abbrev pub cache_chain : List ℕ → Walk → (d : ℕ) → Option (List ℕ)
cache_chain image w d = way_by (is_cache_block image w d) (next_cache image) (blocks image) (first_cache image w d)

-- the records in the bytes of a cache block
abbrev pub records_in : List ℕ → List RecordValue
records_in c = records_from c (word c RECORD_COUNT) RECORD_START

-- a record says what the header in block b says: the type, the name, and of a file the size
unfoldable pub is_record_of : List ℕ → (b : ℕ) → RecordValue → Bool
is_record_of image b r =
    (r.kind == word_in image b SECONDARY_TYPE % 256) && (bytes_eq r.name (name_of image b)
    && (not (word_in image b SECONDARY_TYPE == ST_FILE) || (r.size == word_in image b SIZE)))

-- entry n, if it is in directory d and the record is right about it
abbrev pub if_recorded : List ℕ → Walk → (d : ℕ) → RecordValue → (n : ℕ) → Option ℕ
if_recorded image w d r n = cond (has_entry w n && ((parent_node w n == d) && is_record_of image (node_block w n) r)) (Some n) None

-- the entry of directory d that a record names, if it is right about it
unfoldable pub entry_recorded : List ℕ → Walk → (d : ℕ) → RecordValue → Option ℕ
entry_recorded image w d r = option_and_then (if_recorded image w d r) (headed_at w r.header)

-- the entries that the records of a cache block name
unfoldable pub entries_named : List ℕ → Walk → (d b : ℕ) → List (Option ℕ)
entries_named image w d b = map (entry_recorded image w d) (records_in (block image b))

-- the same of blocks
abbrev pub entries_recorded : List ℕ → Walk → (d : ℕ) → List ℕ → List (Option ℕ)
entries_recorded image w d bs = flat_map (entries_named image w d) bs

-- n is an entry of directory d
abbrev pub is_entry_of : Walk → (d n : ℕ) → Bool
is_entry_of w d n = has_entry w n && (parent_node w n == d)

-- each record is right about an entry, and each entry of directory d has one record
abbrev pub do_agree : Walk → (d : ℕ) → List (Option ℕ) → Bool
do_agree w d named =
    list_all is_some named && list_all (λ n. not (is_entry_of w d n) || (count_by (is_entry_at n) named == 1)) (range_with_len 1 (heads w))

-- the blocks are a chain, and their records agree with directory d
abbrev pub agree : List ℕ → Walk → (d : ℕ) → Option (List ℕ) → Bool
agree image w d None = false
agree image w d (Some bs) = do_agree w d (entries_recorded image w d bs)

-- the cache of directory d is wrong: its chain, or what its records say
abbrev pub is_wrong_cache : List ℕ → Walk → (d : ℕ) → Bool
is_wrong_cache image w d = has_caches image && (is_found_directory image w d && not (agree image w d (cache_chain image w d)))
