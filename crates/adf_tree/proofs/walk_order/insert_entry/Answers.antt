use Rattle.std.proofs.{lemmas.Grind.common_steps, Common.arith}
use Rattle.adf_tree.proofs.WalkOrder.{inserted_mapped, written_whole}
use Rattle.adf_tree.proofs.walk_order.insert_entry.Goals as goal

pub place_of-at-requires-clause-order : goal.place_of-at-requires-clause-order
place_of-at-requires-clause-order c = rw c.deref.ensures.value c.requires.tree.order

pub returns-then-is_err-clause-entries : goal.returns-then-is_err-clause-entries
returns-then-is_err-clause-entries c = grind (arith, common_steps)

pub renumber-requires-clause-within : goal.renumber-requires-clause-within
renumber-requires-clause-within c = grind (arith, common_steps)

pub renumber-requires-clause-parents : goal.renumber-requires-clause-parents
renumber-requires-clause-parents c = grind (arith, common_steps)

pub returns-clause-entries : goal.returns-clause-entries
returns-clause-entries c = grind (arith, inserted_mapped, written_whole)
