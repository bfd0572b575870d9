use Rattle.std.proofs.{lemmas.Grind.common_steps, Common.arith}
use Rattle.adf_tree.proofs.lookup.room_for.Goals as goal

pub returns-in_err-parent : goal.returns-in_err-parent
returns-in_err-parent c = grind (arith, common_steps)

pub returns-then-is_taken : goal.returns-then-is_taken
returns-then-is_taken c = grind (arith, common_steps)

pub returns : goal.returns
returns c = grind (arith, common_steps)
