use Rattle.std.proofs.{Common.arith, lemmas.Grind.common_steps}
use Rattle.adf_drafts.proofs.ChildMaps.{has_number, same_number_in}
use Rattle.adf_drafts.proofs.child_map.ChildMap.put.Goals as goal

pub returns-in-Ok-clause-more : goal.returns-in-Ok-clause-more
returns-in-Ok-clause-more c = grind (arith, has_number)

pub returns-in-Err-clause-same : goal.returns-in-Err-clause-same
returns-in-Err-clause-same c = grind (arith, common_steps, same_number_in)
