use Rattle.std.proofs.Common.{◌≡◌, ◌≤◌, drop}
use Rattle.adf_maps.specs.{Maps.number_behind, declared.numbers.TheConstants.MOST_NUMBER}
use Rattle.adf_maps.proofs.numbers.number_from.Given as goal

abbrev pub invariant-loop-i : goal.invariant-loop-i
invariant-loop-i l = record {
  small : l.number ≤ MOST_NUMBER;
  number : number_behind l.radix l.number (drop l.i l.digits) ≡ number_behind l.radix 0 l.digits;
}
