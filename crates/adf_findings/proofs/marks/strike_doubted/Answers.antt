use Rattle.std.specs.Prelude.{not, ◌&&◌}
use Rattle.std.proofs.Common.{◌≡◌, ◌+◌, ◌*◌, min, subst, arith}
use Rattle.std.proofs.lemmas.Grind.{common_steps}
use Rattle.adf_blocks.specs.Sizes.{blocks}
use Rattle.adf_findings.specs.{Marks.is_doubted, Members.has_mark}
use Rattle.adf_findings.proofs.Doubts.{kept}
use Rattle.adf_findings.proofs.marks.strike_doubted.Goals as goal

pub loop-i-init : goal.loop-i-init
loop-i-init c = grind (arith, common_steps, min, kept)

pub loop-i-preserved : goal.loop-i-preserved
loop-i-preserved c = λ m.
    let image = c.args.image.now in
    let f = c.args.found.now in
    let i = c.loop-i.i in
    let x = has_mark c.args.marks.now.items m in
    let first : min (256 * i) (blocks image) ≡ 256 * i =
    omega (arith, c.loop-i-test.true, c.div_ceil-i-end.ensures, c.blocks-blocks.ensures.blocks) in
    let end : c.min.result ≡ min (256 * (i + 1)) (blocks image) = omega (arith, c.min.ensures, c.blocks-blocks.ensures.blocks) in
    subst (λ k. has_mark c.strike_doubted_among.new.marks.items m ≡ (x && not (is_doubted image f k m))) end
    (c.strike_doubted_among.ensures m x
    (subst (λ k. has_mark c.loop-i.marks.items m ≡ (x && not (is_doubted image f k m))) first (c.loop-i.invariant m)))

pub returns : goal.returns
returns c = λ m.
    let image = c.args.image.now in
    let x = has_mark c.args.marks.now.items m in
    let end : min (256 * c.loop-i.i) (blocks image) ≡ blocks image =
    omega (arith, c.loop-i-test.false, c.div_ceil-i-end.ensures, c.blocks-blocks.ensures.blocks) in
    subst (λ k. has_mark c.loop-i.marks.items m ≡ (x && not (is_doubted image c.args.found.now k m))) end (c.loop-i.invariant m)
