use Rattle.std.proofs.Common.{◌≡◌, ◌++◌, take}
use Rattle.adf_names.specs.Written.{name_bytes}
use Rattle.adf_names.proofs.written.push_name_bytes.Given as goal

abbrev pub invariant-loop-c : goal.invariant-loop-c
invariant-loop-c l = l.text.items ≡ l.initial.text.items ++ name_bytes (take l.c-index l.bytes)
