use Rattle.std.proofs.Common.{◌≡◌, ◌++◌, take}
use Rattle.adf_names.specs.Escapes.{escaped}
use Rattle.adf_names.proofs.written.push_escaped.Given as goal

abbrev pub invariant-loop-c : goal.invariant-loop-c
invariant-loop-c l = l.text.items ≡ l.initial.text.items ++ escaped (take l.c-index l.bytes)
