use Rattle.std.proofs.{Common.arith, lemmas.Grind.common_steps}
use Rattle.adf_blocks.specs.DataBlock.{data_fields}
use Rattle.adf_blocks.proofs.DataLaws.{written_data_form}
use Rattle.adf_blocks.proofs.data.write_data.Goals as goal

pub returns-clause-form : goal.returns-clause-form
returns-clause-form c = grind (arith, common_steps, written_data_form c.args.image.now c.args.b (data_fields c.args.d.now))
