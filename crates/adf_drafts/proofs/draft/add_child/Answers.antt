use Rattle.std.proofs.{Common.arith, lemmas.Grind.common_steps}
use Rattle.adf_drafts.proofs.draft.add_child.Goals as goal

pub returns-then-is_err-clause-entries : goal.returns-then-is_err-clause-entries
returns-then-is_err-clause-entries c = grind (arith, common_steps)
