use Rattle.std.proofs.Common.{◌≡◌, ◌+◌, arith, length, subst}
use Rattle.adf_keep.specs.Rescued.{TellsDeleted}
use Rattle.adf_keep.proofs.preparing.prepared.Goals as goal

pub returns-clause-deleted : goal.returns-clause-deleted
returns-clause-deleted c =
    let out = c.in_ok-deleted_out.field-0.items in
    let first : c.len-first.result + 1 ≡ length c.args.judgement.now.claims.items + 1 = omega (arith, c.len-first.ensures) in
    subst (λ outs. TellsDeleted c.args.judgement.now.deleted.items (length c.args.judgement.now.claims.items + 1) outs out) c.deref-4.ensures.value
    (subst (λ ds. TellsDeleted ds (length c.args.judgement.now.claims.items + 1) c.deref-4.result.now out) c.deref-3.ensures.value
    (subst (λ n. TellsDeleted c.deref-3.result.now n c.deref-4.result.now out) first c.in_ok-deleted_out.ensures))
