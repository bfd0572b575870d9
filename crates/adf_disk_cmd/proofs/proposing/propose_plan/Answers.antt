use Rattle.std.proofs.Common.{[], arith, inl}
use Rattle.adf_disk_cmd.specs.{Proposals.Proposes, Replies.WritesOutput}
use Rattle.adf_runs.proofs.Endings.{does_weaker, silently}
use Rattle.adf_disk_cmd.proofs.proposing.propose_plan.Goals as goal

pub returns-then-is_empty : goal.returns-then-is_empty
returns-then-is_empty g c =
    does_weaker (WritesOutput 1 []) Proposes (λ reply h. record { status = omega (arith, h.0); output = inl h.1 })
    (silently c.requires c.refuse.ensures)
