use Rattle.std.proofs.Common.{◌≡◌, ◌++◌, drop}
use Rattle.adf_merge_cmd.specs.Answers.{mapped}
use Rattle.adf_merge_cmd.proofs.maps.mapped.Given as goal

abbrev pub invariant-loop-i : goal.invariant-loop-i
invariant-loop-i l = l.all.items ++ mapped (drop l.i l.readings) (drop l.i l.maps) ≡ mapped l.readings l.maps
