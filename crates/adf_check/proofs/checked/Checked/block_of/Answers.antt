use Rattle.std.proofs.Common.{refl, arith}
use Rattle.adf_check.proofs.StoreStands.{stands_as}
use Rattle.adf_check.proofs.checked.Checked.block_of.Goals as goal

pub returns-then-len-n-clause-some : goal.returns-then-len-n-clause-some
returns-then-len-n-clause-some c = λ letters t l fits.
    let count = (stands_as c.self.invariant.tells c.self.view_is fits).headers.count in
    (λ some. cc, λ le. absurd (omega (arith, count, c.n.view_is, c.if-len-n.true, c.len.ensures)))

pub returns-clause-some : goal.returns-clause-some
returns-clause-some c = λ letters t l fits.
    let count = (stands_as c.self.invariant.tells c.self.view_is fits).headers.count in
    (λ some. omega (arith, count, c.n.view_is, c.if-len-n.false, c.len.ensures), λ le. refl)
