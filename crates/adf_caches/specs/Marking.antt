-- Marks of entries that are named one after another.
-- Letters: o an entry that is named, or none; os those of some records; n an entry, d a directory, by their nodes; w a walk.
use Rattle.std.specs.Prelude.{◌≡◌, ◌&&◌, Bool, true, not, nat_lt, ℕ, cond, List, [], ◌∷◌, Option, Some, None, length, set}
use Rattle.std.specs.Option.{option_and_then}
use Rattle.adf_volume.specs.Walk.{Walk}
use Rattle.adf_findings.specs.Members.{has_mark, parent_node}

-- the marks with one more, of an entry that has none
abbrev pub mark_one : Option ℕ → List Bool → Option (List Bool)
mark_one None marks = None
mark_one (Some n) marks = cond (nat_lt n (length marks) && not (has_mark marks n)) (Some (set marks n true)) None

-- the marks with one more for each that is named
abbrev pub mark_each : List (Option ℕ) → List Bool → Option (List Bool)
mark_each [] marks = Some marks
mark_each (o ∷ os) marks = option_and_then (mark_each os) (mark_one o marks)

-- there are as many marks, and those of entries outside directory d are as they were
pub record KeepsOthers (w : Walk) (d : ℕ) (old new : List Bool) : Type 0 where
  pub size : length new ≡ length old
  pub others : (n : ℕ) → (parent_node w n ≡ d → ⊥) → has_mark new n ≡ has_mark old n
