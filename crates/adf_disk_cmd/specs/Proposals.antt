-- What `survey --search --plan` answers: a plan of volumes that are found by their roots.
use Rattle.std.specs.Prelude.{◌≡◌, ◌⊎◌, ◌≤◌, List, ℕ, []}
use Rattle.adf_partitions.specs.Plans.{PlanValue}
use Rattle.adf_plans.specs.PlanTexts.{IsText}
use Rattle.adf_runs.specs.Commands.{Reply}

-- a text is read as a plan
abbrev pub IsProposal : List ℕ → Type 0
IsProposal text = (plan : PlanValue) × IsText text plan []

-- the answer to a search for a plan: at status 0 or 1, a plan on output, or nothing
pub record Proposes (reply : Reply) : Type 0 where
  pub status : reply.status ≤ 1
  pub output : (reply.output ≡ []) ⊎ IsProposal reply.output
