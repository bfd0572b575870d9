use Rattle.std.proofs.Common.{◌≡◌, ◌+◌, ◌-◌, ◌*◌, min, subst, ◌∙◌, arith, rules}
use Rattle.adf_blocks.specs.Sizes.{blocks}
use Rattle.adf_check.specs.{Reading.IsMapped, Store.store_value}
use Rattle.adf_check.proofs.BitmapSteps.{bit_agrees, bit_refused, word_agrees}
use Rattle.adf_check.proofs.bitmap.check_word.Goals as goal

pub returns-then-agree-clause-state : goal.returns-then-agree-clause-state
returns-then-agree-clause-state c =
    let first : 2 + 32 * c.args.i + (c.min-end.result - (2 + 32 * c.args.i)) ≡ min (2 + 32 * (c.args.i + 1)) (blocks c.args.image.now) = omega arith in
    subst (IsMapped c.args.image.now (store_value c.args.store.now)) first
    (word_agrees c.args.i (c.min-end.result - (2 + 32 * c.args.i)) (omega arith) (omega arith) c.block.ensures.begun c.requires.pages
    (rw (c.over-page.ensures ∙ c.block.ensures.block) at c.word-word.ensures)
    (λ b lo hi. c.agree.ensures c.if-agree.true b lo (omega arith)) c.requires.state)

pub returns-in_err-check_block-clause-fault : goal.returns-in_err-check_block-clause-fault
returns-in_err-check_block-clause-fault c =
    bit_refused c.args.i c.loop-b.b (omega arith) (omega arith) (omega arith) c.block.ensures.begun c.requires.pages c.loop-b.invariant
    (rw (c.over-page.ensures ∙ c.block.ensures.block) at c.word-word.ensures) c.is_set.ensures c.from_residual.result (search rules)

pub loop-b-preserved : goal.loop-b-preserved
loop-b-preserved c =
    bit_agrees c.args.i c.loop-b.b (omega arith) (omega arith) (omega arith) c.block.ensures.begun c.requires.pages c.loop-b.invariant
    (rw (c.over-page.ensures ∙ c.block.ensures.block) at c.word-word.ensures) c.is_set.ensures c.in_ok-check_block.ensures.ok
