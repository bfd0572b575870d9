-- The lines of `list`: of a row, and of the first entries.
use Rattle.std.proofs.Common.{◌≡◌, ◌≤◌, ◌+◌, ℕ, List, [], ◌++◌, refl, arith}
use Rattle.std.proofs.lemmas.Grind.{common_steps}
use Rattle.adf_base.specs.declared.dates.Stamp.{Stamp}
use Rattle.adf_tree.specs.{declared.entry.Body.Body, declared.entry.Body.TheVariants.Dir, declared.entry.Body.TheVariants.File, declared.entry.Entry.Entry}
use Rattle.adf_names.specs.PathTexts.{path_text}
use Rattle.adf_volume.specs.{Rows.row_of_body, Rows.row_of_entry, declared.row.Row.Row}
use Rattle.adf_texts.proofs.Ranges.{flat_map_front, flat_map_next}
use Rattle.adf_texts.specs.RowTexts.{row_size, row_word}
use Rattle.adf_texts.specs.VolumeLines.{body_word, entry_lines, lines_of_entries, lines_of_entry, lines_with, size_text}

body_words : (body : Body) → (row_word (row_of_body body) ≡ body_word body) × (row_size (row_of_body body) ≡ size_text body)
body_words Dir = (refl, refl)
body_words (File bytes) = (refl, refl)

-- the lines of a row are those of the entry of which it tells
pub row_lines_told : (date : Stamp → List ℕ) (names : List (List ℕ)) (r : Row) (e : Entry) → r ≡ row_of_entry e
    → lines_with date (path_text names) (row_word r.body) (row_size r.body) r.meta ≡ entry_lines date names e
row_lines_told date names r e told = grind (arith, common_steps, body_words)

pub lines_of_none : (date : Stamp → List ℕ) (es : List Entry) → lines_of_entries date es 0 ≡ []
unfolding lines_of_entries
lines_of_none date es = refl

pub lines_of_more : (date : Stamp → List ℕ) (es : List Entry) (k : ℕ)
    → lines_of_entries date es (k + 1) ≡ lines_of_entries date es k ++ lines_of_entry date es (k + 1)
unfolding lines_of_entries
lines_of_more date es k = flat_map_next (lines_of_entry date es) 1 k (k + 1) (omega arith)

-- the lines of fewer entries stand in front
pub lines_front : (date : Stamp → List ℕ) (es : List Entry) (k n : ℕ) → k ≤ n
    → (rest : List ℕ) × (lines_of_entries date es n ≡ lines_of_entries date es k ++ rest)
unfolding lines_of_entries
lines_front date es k n h = flat_map_front (lines_of_entry date es) 1 k n h
