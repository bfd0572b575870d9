use Rattle.std.proofs.Common.{refl}
use Rattle.adf_caches.proofs.ChainWays.{chain_begins, chain_goes, chain_stops, named_both, named_same}
use Rattle.adf_caches.proofs.RecordSteps.{keeps_both, keeps_none}
use Rattle.adf_caches.proofs.chains.judge_chain.Goals as goal

pub loop-b-init : goal.loop-b-init
loop-b-init c = record {
  on = λ w fs survey fresh. chain_begins c.args.survey.now.image w c.args.d c.args.first c.args.marks.now fresh;
  blocks = λ w fs survey. named_same c.args.survey.now.image w c.args.d _ _ refl;
  others = λ w fs survey. keeps_none w c.args.d c.args.marks.now.entries.items;
}

pub loop-b-preserved : goal.loop-b-preserved
loop-b-preserved c = record {
  on = λ w fs survey fresh.
      chain_goes c.args.survey.now.image w c.args.d c.args.first c.args.marks.now c.loop-b.marks c.pass_block.new.marks c.loop-b.b c.in-Some.next
      (c.loop-b.invariant.on w fs survey fresh) (c.in-Some.ensures.passed w fs survey) c.in-Some.ensures.next;
  blocks = λ w fs survey.
      named_both c.args.survey.now.image w c.args.d _ c.loop-b.marks.blocks.items _ (c.loop-b.invariant.blocks w fs survey)
      (c.pass_block.ensures.blocks w fs survey);
  others = λ w fs survey.
      keeps_both w c.args.d _ c.loop-b.marks.entries.items _ (c.loop-b.invariant.others w fs survey) (c.pass_block.ensures.others w fs survey);
}

pub returns-in-None-clause-wrong : goal.returns-in-None-clause-wrong
returns-in-None-clause-wrong c = λ w fs survey fresh e.
    chain_stops c.args.survey.now.image w c.args.d c.args.first c.args.marks.now c.loop-b.marks c.loop-b.b (c.loop-b.invariant.on w fs survey fresh)
    c.loop-b-test.true (c.in-None.ensures.stopped w fs survey)
