use Rattle.std.proofs.Common.{◌≡◌, ℕ, Some, length}
use Rattle.std.specs.List.{slice_get}
use Rattle.adf_judge.specs.declared.judgement.Claim.{Claim}
use Rattle.adf_keep.specs.{Proposing.IsProposalOf, declared.proposal.Proposed.Proposed}
use Rattle.adf_keep.proofs.proposing.propose_claims.Given as goal

abbrev pub invariant-loop-claim : goal.invariant-loop-claim
invariant-loop-claim l = (length l.entries.items ≡ l.claim-index)
    × ((i : ℕ) (c : Claim) (q : Proposed) → slice_get l.claims i ≡ Some c → slice_get l.entries.items i ≡ Some q → IsProposalOf c q)
