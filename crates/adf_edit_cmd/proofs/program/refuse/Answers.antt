use Rattle.std.proofs.Common.{[], inr, refl}
use Rattle.adf_runs.proofs.PendingText.{appends_nil}
use Rattle.adf_edit_cmd.proofs.program.refuse.Goals as goal

pub returns-in-Ok : goal.returns-in-Ok
returns-in-Ok c = λ input. record { ends = λ o. ([], inr (refl, refl), appends_nil o); read = refl; written = refl }
