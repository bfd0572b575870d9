use Rattle.std.proofs.Common.{arith}
use Rattle.adf_check.proofs.DataSteps.{table_inside}
use Rattle.adf_check.proofs.datas.read_named.Goals as goal

pub block-requires : goal.block-requires
block-requires c = table_inside c.requires.state c.args.m (omega arith)
