use Rattle.std.proofs.Common.{◌≡◌, ◌≤◌, ◌*◌, All, [], drop}
use Rattle.adf_maps.specs.{Maps.AreRising, declared.numbers.TheConstants.MOST_NUMBER}
use Rattle.adf_maps.proofs.HoleLaws.{map_behind}
use Rattle.adf_maps.proofs.map.map_with.Given as goal

abbrev pub invariant-loop-stretch : goal.invariant-loop-stretch
invariant-loop-stretch l = record {
  told : map_behind l.holes.items l.end (drop l.stretch-index l.stretches) ≡ map_behind [] 0 l.stretches;
  rising : AreRising l.holes.items;
  within : All (λ h. (h.start ≤ l.end) × (h.end ≤ l.end)) l.holes.items;
  small : l.end ≤ 2 * MOST_NUMBER;
}
