use Rattle.std.proofs.Common.{◌∙◌, arith, lit<, lit≤}
use Rattle.std.proofs.{lemmas.Fmt.length-decimal-le, lemmas.List.take-replicate, lemmas.List.take-set-le}
use Rattle.adf_names.proofs.digits.decimal_digits.Goals as goal

pub write_digits-at-requires : goal.write_digits-at-requires
write_digits-at-requires c = (length-decimal-le 10 c.from.result (lit< tt) (omega arith) (omega arith), lit≤ tt)

pub returns-clause-spaces : goal.returns-clause-spaces
returns-clause-spaces c = c.write_digits-at.ensures.before ∙ take-set-le _ _ 10 c.args.end (omega arith) ∙ take-replicate _ 11 32 (omega arith)
