use Rattle.std.proofs.Common.{◌≡◌, ◌++◌, drop, map}
use Rattle.adf_maps.specs.Maps.{rows_in}
use Rattle.adf_maps.proofs.rows.rows_in.Given as goal

abbrev pub invariant-loop-line : goal.invariant-loop-line
invariant-loop-line l = map (λ r. map (λ w. w.now) r.items) l.rows.items ++ rows_in (map (λ t. t.now) (drop l.line-index l.lines)) ≡ rows_in (map (λ t. t.now) l.lines)
