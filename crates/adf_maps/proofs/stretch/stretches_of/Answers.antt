use Rattle.std.proofs.Common.{◌≡◌, ◌<◌, ◌≤◌, ◌+◌, ◌∷◌, ◌∙◌, ℕ, List, length, Bor, Global, Some, None, Vec, arith, ap, drop, map, slice_index_or, sym}
use Rattle.std.proofs.{lemmas.Grind.common_steps, lemmas.List.Elements.All-push, lemmas.List.drop_all}
use Rattle.adf_maps.specs.{Maps.stretch_of, Maps.stretches_of, declared.numbers.TheConstants.MOST_NUMBER}
use Rattle.adf_maps.proofs.{Fronts.front_at, RowLaws.behind, RowLaws.no_stretch, RowLaws.stretch_kept, RowLaws.stretches_done}
use Rattle.adf_maps.proofs.stretch.stretches_of.Goals as goal

front : (rows : List (Vec (Bor (List ℕ)) Global)) (i : ℕ) (row : Vec (Bor (List ℕ)) Global) → i < length rows → row ≡ slice_index_or rows i row
    → map (λ r. map (λ w. w.now) r.items) (drop i rows) ≡ map (λ w. w.now) row.items ∷ map (λ r. map (λ w. w.now) r.items) (drop (i + 1) rows)
front rows i row lt e = ap (map (λ r. map (λ w. w.now) r.items)) (front_at rows i row lt) ∙ ap (λ r. map (λ w. w.now) r.items ∷ map (λ r. map (λ w. w.now) r.items) (drop (i + 1) rows)) (sym e)

pub returns-in-None-clause-value : goal.returns-in-None-clause-value
returns-in-None-clause-value c =
    let none : stretch_of (map (λ w. w.now) c.row-item.result.items) ≡ None = grind (arith, common_steps) in
    no_stretch c.loop-row.stretches.items (map (λ w. w.now) c.row-item.result.items) _ _ _ none
    (front c.args.rows.now c.loop-row.row-index c.row-item.result c.loop-row-test.true c.row-item.is) c.loop-row.invariant.told

pub loop-row-preserved : goal.loop-row-preserved
loop-row-preserved c =
    let some : stretch_of (map (λ w. w.now) c.row-item.result.items) ≡ Some c.in-Some.stretch = grind (arith, common_steps) in
    record {
      told = ap (λ ss. behind ss (stretches_of (map (λ r. map (λ w. w.now) r.items) (drop (c.loop-row.row-index + 1) c.args.rows.now)))) c.in_ok-push-in-Some.ensures.items
          ∙ stretch_kept c.loop-row.stretches.items c.in-Some.stretch (map (λ w. w.now) c.row-item.result.items) _ _ _ some
          (front c.args.rows.now c.loop-row.row-index c.row-item.result c.loop-row-test.true c.row-item.is) c.loop-row.invariant.told;
      most = rw c.in_ok-push-in-Some.ensures.items (All-push (λ s. (s.start ≤ MOST_NUMBER) × (s.size ≤ MOST_NUMBER)) c.loop-row.stretches.items
          c.in-Some.stretch c.loop-row.invariant.most c.in-Some.ensures.most);
    }

pub returns-clause-value : goal.returns-clause-value
returns-clause-value c = stretches_done c.loop-row.stretches.items _ _ (ap (map (λ r. map (λ w. w.now) r.items)) (drop_all c.loop-row.row-index c.args.rows.now (omega arith))) c.loop-row.invariant.told
