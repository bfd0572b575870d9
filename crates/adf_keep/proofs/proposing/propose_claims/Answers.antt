use Rattle.std.proofs.Common.{◌≡◌, ◌∙◌, ◌∷◌, ◌++◌, [], Some, ap, arith, length, refl, sym}
use Rattle.std.proofs.lemmas.List.{length-append}
use Rattle.std.proofs.lemmas.Option.{slice_get_read}
use Rattle.std.specs.List.{slice_get}
use Rattle.adf_keep.proofs.Rescues.{proposes_next}
use Rattle.adf_keep.proofs.proposing.propose_claims.Goals as goal

pub loop-claim-preserved : goal.loop-claim-preserved
loop-claim-preserved c =
    let cs = c.args.claims.now in
    let ps = c.loop-claim.entries.items in
    let q = c.proposed_for.result in
    let before = c.loop-claim.invariant in
    let all : c.push.new.self.items ≡ ps ++ q ∷ [] = c.in_ok-push.ensures.items in
    let at : slice_get cs (length ps) ≡ Some c.claim-item.result =
    ap (slice_get cs) before.0 ∙ slice_get_read cs (length cs) c.loop-claim.claim-index c.claim-item.result refl (omega arith) c.claim-item.is in (
      ap length all ∙ omega (arith, before.0, length-append ps (q ∷ [])),
      (λ i d x claim entry. proposes_next cs ps c.claim-item.result q at c.proposed_for.ensures before.1 i d x claim (ap (λ xs. slice_get xs i) (sym all) ∙ entry)),
    )
