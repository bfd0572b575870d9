-- The lines of the first entries of a tree, behind a text.
use Rattle.std.proofs.Common.{◌≡◌, ◌≤◌, ◌+◌, ◌++◌, ℕ, List, append_assoc, append-nil, length}
use Rattle.adf_base.specs.declared.dates.Stamp.{Stamp}
use Rattle.adf_tree.specs.{declared.entry.Entry.Entry, Tree.Tree}
use Rattle.adf_texts.specs.VolumeLines.{lines_of_entries, lines_of_entry}
use Rattle.adf_texts.proofs.VolumeTexts.{lines_front, lines_of_more, lines_of_none}

pub entries_none : (date : Stamp → List ℕ) (es : List Entry) (text : List ℕ) → text ++ lines_of_entries date es 0 ≡ text
entries_none date es text = rw lines_of_none (append-nil text)

pub entries_more : (date : Stamp → List ℕ) (es : List Entry) (text : List ℕ) (i : ℕ)
    → text ++ lines_of_entries date es (i + 1) ≡ (text ++ lines_of_entries date es i) ++ lines_of_entry date es (i + 1)
entries_more date es text i = rw (lines_of_more date es i, append_assoc)

-- the lines of fewer entries stand in front
pub entries_front : (date : Stamp → List ℕ) (t : Tree) (text : List ℕ) (k : ℕ) → k ≤ length t.entries
    → (rest : List ℕ) × (text ++ lines_of_entries date t.entries (length t.entries) ≡ (text ++ lines_of_entries date t.entries k) ++ rest)
entries_front date t text k h = let front = lines_front date t.entries k (length t.entries) h in (front.0, rw (front.1, append_assoc))
