use Rattle.std.proofs.{Common.arith, lemmas.Grind.common_steps}
use Rattle.adf_drafts.proofs.draft.Draft.room.Goals as goal

pub returns-in_err-parent-clause-fault : goal.returns-in_err-parent-clause-fault
returns-in_err-parent-clause-fault c = grind (arith, common_steps)

pub returns-clause-some : goal.returns-clause-some
returns-clause-some c = grind (arith, common_steps)
