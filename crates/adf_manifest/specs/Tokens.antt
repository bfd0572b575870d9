-- Tokens of a line.
use Rattle.std.specs.Prelude.{◌≡◌, ◌==◌, ◌&&◌, ◌||◌, not, nat_lt, ℕ, Bool, false, List, ◌++◌, codes, length, slice_index}
use Rattle.std.specs.List.{All}
use Rattle.adf_base.specs.Dates.{plain_text}
use Rattle.adf_names.specs.declared.meta.Stamps.{Stamps}

-- the text does not contain the byte
abbrev pub LacksByte : ℕ → List ℕ → Type 0
LacksByte byte text = All (λ c. (c == byte) ≡ false) text

-- the text is not empty and does not start with `+` or a leading zero
abbrev pub has_number_front : List ℕ → Bool
has_number_front text = nat_lt 0 (length text) && (not (slice_index text 0 == 43) && (not (slice_index text 0 == 48) || (length text == 1)))

-- the root's date, the last change and the creation, joined by spaces
abbrev pub stamps_text : Stamps → List ℕ
stamps_text s = plain_text s.root ++ (codes " " ++ (plain_text s.altered ++ (codes " " ++ plain_text s.created)))
