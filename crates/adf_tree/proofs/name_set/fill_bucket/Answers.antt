use Rattle.std.proofs.{Common.arith, lemmas.Grind.common_steps}
use Rattle.adf_tree.proofs.NameBuckets.{stored_new}
use Rattle.adf_tree.proofs.name_set.fill_bucket.Goals as goal

pub returns-clause-stored : goal.returns-clause-stored
returns-clause-stored c = grind (arith, common_steps, stored_new)
