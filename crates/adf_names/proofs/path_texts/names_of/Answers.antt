use Rattle.std.proofs.{Common.arith, lemmas.Grind.common_steps}
use Rattle.adf_names.proofs.PathParts.{name_steps}
use Rattle.adf_names.proofs.path_texts.names_of.Goals as goal

pub returns-in_default-clause-err : goal.returns-in_default-clause-err
returns-in_default-clause-err c = grind (arith, name_steps)

pub loop-name-preserved : goal.loop-name-preserved
loop-name-preserved c = grind (arith, common_steps)

pub returns-in-None-clause-ok : goal.returns-in-None-clause-ok
returns-in-None-clause-ok c = grind (arith, name_steps)
