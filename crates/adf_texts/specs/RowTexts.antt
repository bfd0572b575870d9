-- The texts of a row.
use Rattle.std.specs.Prelude.{ℕ, List, ◌++◌, codes}
use Rattle.std.specs.Fmt.{decimal}
use Rattle.adf_base.specs.declared.dates.Stamp.{Stamp}
use Rattle.adf_names.specs.declared.meta.Meta.{Meta}
use Rattle.adf_blocks.specs.declared.head.HeadBody.{HeadBody}
use Rattle.adf_volume.specs.{Rows.row_body, declared.row.RowBody.RowBody, declared.row.RowBody.TheVariants.Dir, declared.row.RowBody.TheVariants.File}
use Rattle.adf_names.specs.Digits.{hex_word, right_in_ten}
use Rattle.adf_texts.specs.VolumeLines.{lines_with}

-- the word of a row, left-aligned in four columns
abbrev pub row_word : RowBody → List ℕ
row_word Dir = codes "dir "
row_word (File size) = codes "file"

-- the size of a row
abbrev pub row_size : RowBody → List ℕ
row_size Dir = codes "-"
row_size (File size) = decimal size

-- the columns before the path in the line of an entry
abbrev pub columns : (Stamp → List ℕ) → RowBody → Meta → List ℕ
columns date body meta = row_word body ++ (codes " " ++ (hex_word meta.protect ++ (codes " " ++ (right_in_ten (row_size body) ++ (codes " "
    ++ (date meta.stamp ++ codes " "))))))

-- the line of an entry with this text of its path, and this header, and the line of its note
abbrev pub head_lines : (Stamp → List ℕ) → (path : List ℕ) → HeadBody → Meta → List ℕ
head_lines date path body meta = lines_with date path (row_word (row_body body)) (row_size (row_body body)) meta
