use Rattle.std.proofs.Common.{◌≡◌, ◌≤◌, All, drop, map}
use Rattle.adf_maps.specs.{Maps.stretches_of, declared.numbers.TheConstants.MOST_NUMBER}
use Rattle.adf_maps.proofs.RowLaws.{behind}
use Rattle.adf_maps.proofs.stretch.stretches_of.Given as goal

abbrev pub invariant-loop-row : goal.invariant-loop-row
invariant-loop-row l = record {
  told : behind l.stretches.items (stretches_of (map (λ r. map (λ w. w.now) r.items) (drop l.row-index l.rows))) ≡ stretches_of (map (λ r. map (λ w. w.now) r.items) l.rows);
  most : All (λ s. (s.start ≤ MOST_NUMBER) × (s.size ≤ MOST_NUMBER)) l.stretches.items;
}
