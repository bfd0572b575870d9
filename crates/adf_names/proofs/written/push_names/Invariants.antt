use Rattle.std.proofs.Common.{◌≡◌, ◌++◌, map, take}
use Rattle.adf_names.specs.Written.{names_text}
use Rattle.adf_names.proofs.written.push_names.Given as goal

abbrev pub invariant-loop-i : goal.invariant-loop-i
invariant-loop-i l = l.text.items ≡ l.initial.text.items ++ names_text (map (λ name. name.now) (take l.i l.path))
