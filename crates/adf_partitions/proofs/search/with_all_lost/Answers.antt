use Rattle.std.proofs.{Common.arith, lemmas.Grind.common_steps}
use Rattle.adf_base.proofs.Results.{on_err}
use Rattle.adf_partitions.proofs.Searches.{none_searched, put_lost, put_none, some_lost}
use Rattle.adf_partitions.proofs.search.with_all_lost.Goals.{then-is_lost_partition+in_ok-push}
use Rattle.adf_partitions.proofs.search.with_all_lost.Goals as goal

pub loop-b-init : goal.loop-b-init
loop-b-init c = none_searched c.args.bytes.now c.args.blocks c.args.tables c.args.partitions.items

pub loop-b-preserved : goal.loop-b-preserved
loop-b-preserved c = grind (arith, common_steps, then-is_lost_partition+in_ok-push, put_lost, put_none)

pub returns-in_err-push-clause-begun : goal.returns-in_err-push-clause-begun
returns-in_err-push-clause-begun c = grind (arith, common_steps, on_err, some_lost)

pub returns-clause-all : goal.returns-clause-all
returns-clause-all c = grind (arith, common_steps)
