-- The lines of an image's words that are not 0.
use Rattle.std.specs.Prelude.{ℕ, ◌/◌, ◌==◌, Bool, List, [], if◌then◌else◌, length}
use Rattle.std.specs.List.{flat_map, range_with_len}
use Rattle.adf_base.specs.Words.{block, word}
use Rattle.adf_texts.specs.Lines.{word_line}

-- the line of word i of a block with the number b, where the word is not 0
abbrev pub line_of_word : ℕ → List ℕ → ℕ → List ℕ
line_of_word b bytes i = if word bytes i == 0 then [] else word_line b i (word bytes i)

-- the lines of the first n words of a block with the number b
unfoldable pub lines_of : ℕ → List ℕ → ℕ → List ℕ
lines_of b bytes n = flat_map (line_of_word b bytes) (range_with_len 0 n)

-- the lines of block b of an image
abbrev pub lines_of_block : List ℕ → ℕ → List ℕ
lines_of_block image b = lines_of b (block image b) 128

-- the lines of the first n blocks of an image
unfoldable pub lines_of_blocks : List ℕ → ℕ → List ℕ
lines_of_blocks image n = flat_map (lines_of_block image) (range_with_len 0 n)

-- the lines of an image: each block ascending, and each word ascending that is not 0
abbrev pub listing : List ℕ → List ℕ
listing image = lines_of_blocks image (length image / 512)

-- an image, or its lines
abbrev pub image_or_lines : Bool → List ℕ → List ℕ
image_or_lines lines image = if lines then listing image else image
