use Rattle.std.proofs.Common.{◌≡◌, ◌++◌, ℕ, List, length, map}
use Rattle.std.specs.List.{All}
use Rattle.adf_names.specs.{Escapes.escaped, PathTexts.between_slashes, PathTexts.IsName}
use Rattle.adf_names.proofs.path_texts.has_names.Given as goal

abbrev pub invariant-loop-after : goal.invariant-loop-after
invariant-loop-after l = (names : List (List ℕ)) × (between_slashes l.text ≡ map escaped names ++ between_slashes l.rest) × All IsName names

abbrev pub decreases-loop-after : goal.decreases-loop-after
decreases-loop-after l = length l.rest
