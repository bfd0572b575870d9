use Rattle.std.proofs.{Common.arith, lemmas.Grind.common_steps}
use Rattle.adf_manifest.proofs.TokenLaws.{colon_lacks, if_none, stamp_parts}
use Rattle.adf_manifest.proofs.tokens.read_stamp.Goals as goal

pub returns-in_err-days-clause-none : goal.returns-in_err-days-clause-none
returns-in_err-days-clause-none c = grind (arith, common_steps, if_none, colon_lacks)

pub returns-in_err-days-2-clause-none : goal.returns-in_err-days-2-clause-none
returns-in_err-days-2-clause-none c = grind (arith, common_steps, if_none, stamp_parts)

pub returns-in_err-mins-clause-none : goal.returns-in_err-mins-clause-none
returns-in_err-mins-clause-none c = grind (arith, common_steps, if_none, stamp_parts)

pub returns-in_err-ticks-clause-none : goal.returns-in_err-ticks-clause-none
returns-in_err-ticks-clause-none c = grind (arith, common_steps, if_none, stamp_parts)
