-- What is left of a file that may be damaged.
-- Letters: w the walk of a survey, fs its findings; n a file's node, h the block of its header; k the number of a data block, from 0; b its block;
-- size how many bytes are stated; found the block of each data block, if any; end a block.
use Rattle.std.specs.Prelude.{ℕ, ◌+◌, ◌-◌, ◌*◌, ◌==◌, ◌&&◌, nat_lt, List, [], ◌∷◌, ◌++◌, Option, Some, None, cond, length, min, replicate}
use Rattle.std.proofs.Common.{suc, zero}
use Rattle.adf_base.specs.Words.{block}
use Rattle.adf_names.specs.declared.kind.Kind.{Kind, TheVariants.Ofs, TheVariants.Ffs}
use Rattle.adf_blocks.specs.{declared.layout.TheConstants.SIZE, Sizes.blocks, Sizes.chunk, Sizes.count}
use Rattle.adf_volume.specs.{Image.held, Image.kind_of, Image.piece, Image.word_in, Walk.node_block, Walk.Walk, Walk.Role.Data, Parts.entry_of}
use Rattle.adf_volume.specs.Owners.{owner_at}
use Rattle.adf_findings.specs.{declared.remains.Gap.Gap, Concerned.is_contested, Members.at_role, Files.named_from, Sound.says_data_of, Survey.FindingValue}
use Rattle.adf_findings.specs.SurveyResult.{SurveyValue, alone_in}

-- the block that is taken as data block k of file n
abbrev pub data_found : Walk → ℕ → ℕ → Option ℕ
data_found w n k = at_role w (Data n (suc k))

-- a block, where no finding is that it is taken
abbrev pub unless_contested : List FindingValue → Option ℕ → Option ℕ
unless_contested fs None = None
unless_contested fs (Some b) = cond (is_contested fs b) None (Some b)

-- the same block, if no other part asks for it
abbrev pub data_alone : Walk → List FindingValue → ℕ → ℕ → Option ℕ
data_alone w fs n k = unless_contested fs (data_found w n k)

-- Data block k of a file, by its kind and by the block that is found, if any.
-- An OFS one is the block that the table names, if it says so itself; an FFS one is the block found.
abbrev pub own_data : Kind → List ℕ → ℕ → ℕ → Option ℕ → Option ℕ
own_data Ofs image h k found = let b = named_from image h k in cond (says_data_of image h (k + 1) b) (Some b) None
own_data Ffs image h k found = found

-- the block of data block k of file n that is left
abbrev pub data_left : List ℕ → Walk → List FindingValue → ℕ → ℕ → ℕ → Option ℕ
data_left image w fs n h k = own_data (kind_of image) image h k (data_alone w fs n k)

-- how many bytes are stated: as many as the header says, but no more than the image has
abbrev pub size_stated : List ℕ → ℕ → ℕ
size_stated image h = min (word_in image h SIZE) (length image)

-- how many data blocks these bytes need
abbrev pub blocks_stated : List ℕ → ℕ → ℕ
blocks_stated image h = count (kind_of image) (size_stated image h)

-- the bytes of data block k: those in its block, or as many zeros where none is left
abbrev pub bytes_in : List ℕ → ℕ → ℕ → Option ℕ → List ℕ
bytes_in image size k None = replicate (held (kind_of image) size (k + 1)) 0
bytes_in image size k (Some b) = piece (kind_of image) size (k + 1) (block image b)

-- the bytes of the first k data blocks
abbrev pub bytes_left : List ℕ → ℕ → (ℕ → Option ℕ) → ℕ → List ℕ
bytes_left image size found zero = []
bytes_left image size found (suc k) = bytes_left image size found k ++ bytes_in image size k (found k)

-- the bytes of data block k, by the first and the last
abbrev pub gap_at : List ℕ → ℕ → ℕ → Gap
gap_at image size k =
    let first = chunk (kind_of image) * k in record { first = first; last = first + (held (kind_of image) size (k + 1) - 1) }

-- a gap and another behind it: one, where that begins right behind the first
abbrev pub joined_gaps : Gap → Gap → List Gap
joined_gaps x g = cond (x.last + 1 == g.first) (record { first = x.first; last = g.last } ∷ []) (x ∷ g ∷ [])

-- gaps, with one more behind them, which goes on with the last or not
abbrev pub with_gap : List Gap → Gap → List Gap
with_gap [] g = g ∷ []
with_gap (x ∷ []) g = joined_gaps x g
with_gap (x ∷ y ∷ xs) g = x ∷ with_gap (y ∷ xs) g

-- gaps, with that of data block k behind them where no block is left
abbrev pub with_lost : List ℕ → ℕ → List Gap → ℕ → Option ℕ → List Gap
with_lost image size gs k None = with_gap gs (gap_at image size k)
with_lost image size gs k (Some b) = gs

-- the runs of bytes that are no data, among those of the first k data blocks
abbrev pub gaps_left : List ℕ → ℕ → (ℕ → Option ℕ) → ℕ → List Gap
gaps_left image size found zero = []
gaps_left image size found (suc k) = with_lost image size (gaps_left image size found k) k (found k)

-- a block, if it is before this one
abbrev pub below : ℕ → Option ℕ → Option ℕ
below end None = None
below end (Some b) = cond (nat_lt b end) (Some b) None

-- the block of data block k of file n that is left, if it is before block `end`
abbrev pub left_below : ℕ → List ℕ → Walk → List FindingValue → ℕ → ℕ → ℕ → Option ℕ
left_below end image w fs n h k = below end (data_left image w fs n h k)

-- the bytes of file n: those of the data blocks that are left before block `end`, and zeros for the others
abbrev pub left_of : List ℕ → Walk → List FindingValue → ℕ → ℕ → List ℕ
left_of image w fs end n =
    let h = node_block w n in bytes_left image (size_stated image h) (left_below end image w fs n h) (blocks_stated image h)

-- the runs of these zeros
abbrev pub gaps_of : List ℕ → Walk → List FindingValue → ℕ → ℕ → List Gap
gaps_of image w fs end n =
    let h = node_block w n in gaps_left image (size_stated image h) (left_below end image w fs n h) (blocks_stated image h)

-- block b, if it is taken as data block k of entry n, and no other part asks for it, by what is kept of blocks
abbrev pub data_at : List ℕ → SurveyValue → ℕ → ℕ → ℕ → Option ℕ
data_at image v n k b = cond (nat_lt b (blocks image) && ((entry_of (owner_at v.owners b) == n) && (alone_in v b == k + 1))) (Some b) None

-- the block that the table of a file names as data block k, if it is taken as that
abbrev pub data_named : List ℕ → SurveyValue → ℕ → ℕ → ℕ → Option ℕ
data_named image v n h k = data_at image v n k (named_from image h k)

-- the block of data block k that is left by these, if it is before block `end`
abbrev pub named_below : ℕ → List ℕ → SurveyValue → ℕ → ℕ → ℕ → Option ℕ
named_below end image v n h k = below end (own_data (kind_of image) image h k (data_named image v n h k))
