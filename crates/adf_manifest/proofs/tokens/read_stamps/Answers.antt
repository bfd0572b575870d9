use Rattle.std.proofs.{Common.arith, lemmas.Grind.common_steps}
use Rattle.adf_manifest.proofs.TokenLaws.{if_none, stamp_lacks, stamps_parts}
use Rattle.adf_manifest.proofs.tokens.read_stamps.Goals as goal

pub returns-in_err-root-clause-none : goal.returns-in_err-root-clause-none
returns-in_err-root-clause-none c = grind (arith, common_steps, if_none, stamp_lacks)

pub returns-in_err-root-2-clause-none : goal.returns-in_err-root-2-clause-none
returns-in_err-root-2-clause-none c = grind (arith, common_steps, if_none, stamps_parts)

pub returns-in_err-altered-clause-none : goal.returns-in_err-altered-clause-none
returns-in_err-altered-clause-none c = grind (arith, if_none, stamps_parts)

pub returns-in_err-created-clause-none : goal.returns-in_err-created-clause-none
returns-in_err-created-clause-none c = grind (arith, if_none, stamps_parts)
