use Rattle.std.proofs.Common.{◌+◌, ◌∙◌, sym, rules, arith}
use Rattle.adf_base.proofs.Results.{on_err}
use Rattle.adf_cmd.proofs.Lines.{blocks_more, blocks_none, listing_front, listing_whole}
use Rattle.adf_runs.proofs.PendingText.{pending_begun, pending_end, pending_fails, pending_more}
use Rattle.adf_cmd.proofs.listing.write_listing.Goals as goal

pub loop-b-init : goal.loop-b-init
loop-b-init g c = record {
  works = c.requires.works;
  so_far = pending_begun _ _ _ (blocks_none c.args.image.now ∙ sym c.new-text.ensures.items);
}

pub loop-b-preserved : goal.loop-b-preserved
loop-b-preserved g c = record {
  works = search rules;
  so_far = c.in_ok-list_block.ensures.ok _ _ (pending_more _ _ _ _ _ _ (blocks_more c.args.image.now c.loop-b.b) c.loop-b.invariant.so_far);
}

pub returns-in_err-list_block-clause-err : goal.returns-in_err-list_block-clause-err
returns-in_err-list_block-clause-err g c =
    let more = pending_more _ _ _ _ _ _ (blocks_more c.args.image.now c.loop-b.b) c.loop-b.invariant.so_far in
    let front = listing_front c.args.image.now (c.loop-b.b + 1) (omega arith) in
    on_err c.from_residual.result (pending_fails _ _ _ _ _ front.0 _ front.1 more c.in_err-list_block.ensures.err)

pub returns-clause-ok : goal.returns-clause-ok
returns-clause-ok g c = rw (listing_whole c.args.image.now c.loop-b.b (omega arith))
    (pending_end _ _ _ _ _ c.loop-b.invariant.so_far (rw c.deref.ensures.value at c.in_ok-write_all.ensures.ok))

pub returns-in_err-write_all-clause-err : goal.returns-in_err-write_all-clause-err
returns-in_err-write_all-clause-err g c =
    let front = listing_front c.args.image.now c.loop-b.b (omega arith) in
    on_err c.from_residual-in_err-write_all.result (pending_fails _ _ _ _ _ front.0 _ front.1 c.loop-b.invariant.so_far
    (rw c.deref.ensures.value at c.in_err-write_all.ensures.err))
