use Rattle.std.proofs.Common.{◌-◌, ◌∙◌, ap, arith, rules, slice_index}
use Rattle.adf_base.specs.Hash.{slot_by}
use Rattle.adf_build.proofs.Order.{slots_step}
use Rattle.adf_build.proofs.chains.slots_between.Goals as goal

pub loop-at-preserved : goal.loop-at-preserved
loop-at-preserved c = record {
  start = omega arith;
  within = omega (arith, c.loop-at.invariant.within);
  whole = search rules;
  filled = slots_step c.args.tree.now.letters c.loop-at.slots (slice_index c.args.nodes.now) c.args.tree.now.entries (c.loop-at.at - 1) c.loop-at.at
      c.args.p c.args.from c.args.end c.slot_by.result c.entry_at-entry.result.now (omega arith) c.entry_at-entry.ensures c.requires.mine
      (omega arith) (omega (arith, c.loop-at.invariant.within)) (c.slot_by.ensures.exact ∙ ap (slot_by c.letters-letters.result) c.bytes.ensures.bytes
      ∙ ap (λ l. slot_by l c.entry_at-entry.result.now.name) c.letters-letters.ensures) c.loop-at.invariant.whole
      c.loop-at.invariant.filled;
}
