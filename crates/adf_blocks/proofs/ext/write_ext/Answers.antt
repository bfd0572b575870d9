use Rattle.std.proofs.{Common.arith, lemmas.Grind.common_steps}
use Rattle.adf_blocks.specs.ExtBlock.{ext_fields}
use Rattle.adf_blocks.proofs.ExtLaws.{written_ext_form}
use Rattle.adf_blocks.proofs.ext.write_ext.Goals as goal

pub returns-clause-form : goal.returns-clause-form
returns-clause-form c = grind (arith, common_steps, written_ext_form c.args.image.now c.args.b (ext_fields c.args.e.now) c.ext_bytes.ensures.fits)
