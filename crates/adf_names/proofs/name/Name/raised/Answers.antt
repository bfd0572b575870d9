use Rattle.std.proofs.{Common.arith, lemmas.Grind.common_steps}
use Rattle.adf_names.proofs.RaisedNames.{raised_steps}
use Rattle.adf_names.proofs.name.Name.raised.Goals as goal

pub push-requires : goal.push-requires
push-requires c = grind (arith, common_steps)

pub loop-c-preserved : goal.loop-c-preserved
loop-c-preserved c = grind (arith, common_steps)

pub invariant_of-result : goal.invariant_of-result
invariant_of-result c = grind (arith, raised_steps)

pub returns : goal.returns
returns c = grind (arith, common_steps)
