use Rattle.std.proofs.Common.{rules}
use Rattle.adf_build.proofs.WholeVolume.{well_formed}
use Rattle.adf_build.proofs.builder.fields_fit.Goals as goal

pub returns : goal.returns
returns c = well_formed c.args.tree.now (search rules) (search rules)
