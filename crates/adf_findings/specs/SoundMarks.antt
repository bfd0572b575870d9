-- The marks of the sound entries.
-- Letters: w the walk of a survey, fs its findings; n an entry's node; v a result.
use Rattle.std.specs.Prelude.{◌≡◌, ◌↔◌, ◌&&◌, ℕ, Bool, true, List, nat_le}
use Rattle.adf_volume.specs.Walk.{node_block, Walk}
use Rattle.adf_findings.specs.{Members.has_mark, Sound.IsSound, Survey.FindingValue, SurveyResult.SurveyValue}

-- an entry is marked if and only if it is sound
abbrev pub AreMarks : List ℕ → Walk → List FindingValue → (ℕ → Bool) → Type 0
AreMarks image w fs sound = (n : ℕ) → (sound n ≡ true) ↔ IsSound image w fs n (node_block w n)

-- the marks of the entries that are sound but for harmless findings of headers, in a result
abbrev pub whole_in : SurveyValue → ℕ → Bool
whole_in v n = nat_le 1 n && has_mark v.whole n

-- the marks in a result
abbrev pub mark_in : SurveyValue → ℕ → Bool
mark_in v n = nat_le 1 n && has_mark v.sound n
