use Rattle.std.proofs.Common.{◌+◌, ◌∙◌, ℕ, List, arith, drop, ap, false, slice_index_or, sym}
use Rattle.std.proofs.{lemmas.List.drop_all}
use Rattle.adf_maps.specs.declared.stretch.Stretch.{Stretch}
use Rattle.adf_maps.proofs.{Fronts.front_at, HoleLaws.map_behind, HoleLaws.map_done, HoleLaws.stretch_refused, HoleLaws.stretch_taken}
use Rattle.adf_maps.proofs.map.map_with.Goals as goal

pub returns-then-stretch-end : goal.returns-then-stretch-end
returns-then-stretch-end c =
    let ss : List Stretch = c.args.stretches.now in
    let i : ℕ = c.loop-stretch.stretch-index in
    let d : Stretch = record { start = 0; size = 0; is_read = false } in
    stretch_refused c.loop-stretch.holes.items c.loop-stretch.end (slice_index_or ss i d) (drop (i + 1) ss) (drop i ss) _ c.if-stretch-end.true
    (front_at ss i d c.loop-stretch-test.true) c.loop-stretch.invariant.told

pub loop-stretch-preserved : goal.loop-stretch-preserved
loop-stretch-preserved c =
    let ss : List Stretch = c.args.stretches.now in
    let i : ℕ = c.loop-stretch.stretch-index in
    let d : Stretch = record { start = 0; size = 0; is_read = false } in
    record {
      told = ap (λ hs. map_behind hs ((slice_index_or ss i d).start + (slice_index_or ss i d).size) (drop (i + 1) ss)) c.in_ok-push_holes.ensures.items
          ∙ stretch_taken c.loop-stretch.holes.items c.loop-stretch.end (slice_index_or ss i d) (drop (i + 1) ss) (drop i ss) _ (omega arith)
          (front_at ss i d c.loop-stretch-test.true) c.loop-stretch.invariant.told;
      rising = c.in_ok-push_holes.ensures.rising;
      within = c.in_ok-push_holes.ensures.within;
      small = let most = c.requires i d c.loop-stretch-test.true in omega arith;
    }

pub returns : goal.returns
returns c = sym (map_done c.loop-stretch.holes.items c.loop-stretch.end)
    ∙ (ap (map_behind c.loop-stretch.holes.items c.loop-stretch.end) (sym (drop_all c.loop-stretch.stretch-index c.args.stretches.now (omega arith))) ∙ c.loop-stretch.invariant.told)
