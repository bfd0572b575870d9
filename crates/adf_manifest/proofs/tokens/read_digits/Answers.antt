use Rattle.std.proofs.Common.{◌∙◌, ap, sym}
use Rattle.adf_manifest.specs.Tokens.{has_number_front}
use Rattle.adf_manifest.proofs.TokenLaws.{number_is, number_utf8}
use Rattle.adf_manifest.proofs.tokens.read_digits.Goals as goal

pub returns-in-Ok-parse-clause-some : goal.returns-in-Ok-parse-clause-some
returns-in-Ok-parse-clause-some c =
    let digits = c.in-Ok.ensures.cases.0 in
    sym digits ∙ number_is c.in-Ok.digits.now c.in-Ok-parse.number c.parse.result (ap has_number_front digits ∙ sym c.if-not-has_number_front.ensures)
    c.parse.ensures.value.0 c.in-Ok-parse.is

pub returns-in-Err-clause-none : goal.returns-in-Err-clause-none
returns-in-Err-clause-none c = λ n lt e. c.in-Err.ensures.cases.0 (number_utf8 c.args.text.now n lt e)
