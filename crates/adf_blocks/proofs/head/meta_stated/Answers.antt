use Rattle.std.proofs.Common.{arith}
use Rattle.adf_blocks.proofs.FieldLaws.{cut_text}
use Rattle.adf_blocks.specs.declared.layout.TheConstants.{COMMENT}
use Rattle.adf_blocks.proofs.head.meta_stated.Goals as goal

pub returns-clause-stated : goal.returns-clause-stated
returns-clause-stated c = grind (arith, cut_text c.args.b.now COMMENT 79)
