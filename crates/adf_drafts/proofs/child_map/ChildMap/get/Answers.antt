use Rattle.std.proofs.{Common.arith, lemmas.Grind.common_steps}
use Rattle.adf_drafts.proofs.ChildMaps.{in_bucket, no_bucket}
use Rattle.adf_drafts.proofs.child_map.ChildMap.get.Goals as goal

pub returns-then-len-bucket : goal.returns-then-len-bucket
returns-then-len-bucket c = grind (arith, common_steps, no_bucket)

pub returns : goal.returns
returns c = grind (arith, common_steps, in_bucket)
