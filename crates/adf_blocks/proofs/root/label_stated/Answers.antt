use Rattle.std.proofs.Common.{arith}
use Rattle.adf_blocks.proofs.FieldLaws.{cut_text}
use Rattle.adf_blocks.specs.declared.layout.TheConstants.{NAME}
use Rattle.adf_blocks.proofs.root.label_stated.Goals as goal

pub returns : goal.returns
returns c = grind (arith, cut_text c.args.b.now NAME 30)
