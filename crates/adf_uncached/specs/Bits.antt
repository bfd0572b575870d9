-- The bits of blocks in the bitmap of an image, on the pages that its survey found: they are in range, no other part, and have a right checksum.
-- Letters: w the walk of the survey; b a block; i a word, v its value; page the block of a page; copy the bytes of a copy of an image.
use Rattle.std.specs.Prelude.{◌+◌, ◌-◌, ◌/◌, ◌%◌, ◌^◌, ◌==◌, ◌&&◌, ℕ, Bool, false, List, Option, Some, None, cond, nat_lt, not}
use Rattle.std.specs.Int.{bit_at, RustNames.bit_or}
use Rattle.adf_base.specs.Words.{block, with_block, with_word}
use Rattle.adf_blocks.specs.Sizes.{blocks}
use Rattle.adf_blocks.specs.declared.layout.TheConstants.{PAGE_BITS, PAGE_CHECKSUM, PAGE_FIRST}
use Rattle.adf_volume.specs.{Image.word_in, Walk.Role.Page, Walk.Walk}
use Rattle.adf_findings.specs.Members.{at_role}

-- word i of block b; 0 if the image has no such block
abbrev pub word_at : List ℕ → (b i : ℕ) → ℕ
word_at image b i = cond (nat_lt b (blocks image)) (word_in image b i) 0

-- the page with the bit of block b, if it is found; the word there, and the bit in the word
abbrev pub page_of : Walk → (b : ℕ) → Option ℕ
page_of w b = at_role w (Page ((b - 2) / PAGE_BITS))

abbrev pub word_of : (b : ℕ) → ℕ
word_of b = PAGE_FIRST + (b - 2) % PAGE_BITS / 32

abbrev pub bit_of : (b : ℕ) → ℕ
bit_of b = (b - 2) % PAGE_BITS % 32

-- whether the bit of block b is set in a page; it is not where none is found
abbrev pub is_free_on : List ℕ → Option ℕ → (b : ℕ) → Bool
is_free_on image None b = false
is_free_on image (Some page) b = bit_at (word_at image page (word_of b)) (bit_of b) == 1

-- whether block b is free in the bitmap: its bit is set
abbrev pub is_free : List ℕ → Walk → (b : ℕ) → Bool
is_free image w b = is_free_on image (page_of w b) b

-- the image with word i of block b replaced by v
abbrev pub with_word_in : List ℕ → (b i v : ℕ) → List ℕ
with_word_in image b i v = with_block image b (with_word (block image b) i v)

-- the bytes with a bit of word i of a page set that is not, and the checksum less by as much: the sum of the words stays modulo 2 ^ 32
abbrev pub with_bit : List ℕ → (page i bit : ℕ) → List ℕ
with_bit copy page i bit =
    with_word_in (with_word_in copy page i (bit_or (word_at copy page i) (2 ^ bit))) page PAGE_CHECKSUM
    ((word_at copy page PAGE_CHECKSUM + (2 ^ 32 - 2 ^ bit)) % 2 ^ 32)

-- the copy with block b free in a page that it has; where none is found, as it is
abbrev pub with_free_on : List ℕ → Option ℕ → (b : ℕ) → List ℕ
with_free_on copy None b = copy
with_free_on copy (Some page) b =
    cond (nat_lt page (blocks copy) && not (bit_at (word_at copy page (word_of b)) (bit_of b) == 1)) (with_bit copy page (word_of b) (bit_of b)) copy

-- a copy of the image with block b free in the bitmap, if its page is found
abbrev pub with_free : Walk → (copy : List ℕ) → (b : ℕ) → List ℕ
with_free w copy b = with_free_on copy (page_of w b) b
