use Rattle.std.proofs.{Common.rules, Common.arith, lemmas.List.take_at, lemmas.Grind.common_steps}
use Rattle.adf_build.proofs.WholeVolume.{is_laid, laid_as_planned, laid_bytes}
use Rattle.adf_build.proofs.builder.build_types.Goals as goal

pub returns-clause-bytes : goal.returns-clause-bytes
returns-clause-bytes c = grind (arith, common_steps, take_at, laid_bytes)

pub returns-clause-laid : goal.returns-clause-laid
returns-clause-laid c = is_laid c.args.tree.now c.args.blocks (returns-clause-bytes c) (search rules)

pub returns-clause-fits : goal.returns-clause-fits
returns-clause-fits c = laid_as_planned c.args.tree.now c.args.blocks (returns-clause-bytes c) (search rules)
