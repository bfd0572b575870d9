use Rattle.std.proofs.Common.{◌≡◌, ◌+◌, ◌-◌, ℕ, ap, ◌∙◌, arith, Bool}
use Rattle.adf_build.specs.Bits.{bits_from, is_free_bit}
use Rattle.adf_build.proofs.pages.mixed_word.Goals as goal

pub returns : goal.returns
returns c =
    let f : ℕ → Bool = is_free_bit c.args.plan.blocks c.args.total in
    let e : c.loop-i.i ≡ 0 = omega arith in
    let z : c.args.q + 0 ≡ c.args.q = omega arith in
    c.loop-i.invariant.work ∙ ap (λ i. bits_from f (c.args.q + i) (32 - i)) e ∙ ap (λ p. bits_from f p 32) z
