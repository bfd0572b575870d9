use Rattle.std.proofs.Common.{◌≡◌, ◌++◌, length, map}
use Rattle.std.specs.List.{All}
use Rattle.adf_names.specs.{Escapes.escaped, PathTexts.between_slashes, PathTexts.IsName}
use Rattle.adf_names.proofs.path_texts.names_of.Given as goal

abbrev pub invariant-loop-name : goal.invariant-loop-name
invariant-loop-name l = record {
  split : between_slashes l.text ≡ map escaped l.path.items ++ between_slashes l.rest;
  names : All IsName l.path.items;
}

abbrev pub decreases-loop-name : goal.decreases-loop-name
decreases-loop-name l = length l.rest
