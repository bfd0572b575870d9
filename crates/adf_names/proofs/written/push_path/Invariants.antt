use Rattle.std.proofs.Common.{◌≡◌, ◌++◌, take}
use Rattle.adf_names.specs.PathTexts.{path_text}
use Rattle.adf_names.proofs.written.push_path.Given as goal

abbrev pub invariant-loop-i : goal.invariant-loop-i
invariant-loop-i l = l.text.items ≡ l.initial.text.items ++ path_text (take l.i l.path)
