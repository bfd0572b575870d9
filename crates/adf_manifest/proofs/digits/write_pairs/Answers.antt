use Rattle.std.proofs.{Common.arith, lemmas.Bool.cases_eq, lemmas.List.get_or-set_other}
use Rattle.std.proofs.lemmas.Grind.{get_or-set_at, same_number_lists, common_steps}
use Rattle.adf_manifest.proofs.DigitLaws.{unpaired_at, unpaired_length}
use Rattle.adf_manifest.proofs.digits.write_pairs.Goals as goal

pub loop-i-preserved : goal.loop-i-preserved
loop-i-preserved c = grind (arith, unpaired_at, cases_eq, get_or-set_at, get_or-set_other)

pub returns : goal.returns
returns c = grind (arith, common_steps, same_number_lists, unpaired_length c.args.text.now)
