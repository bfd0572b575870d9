use Rattle.std.proofs.Common.{◌∙◌, sym, string_bytes}
use Rattle.std.proofs.lemmas.Result.{IfOk-weaker}
use Rattle.adf_fields.proofs.Digits.{civil_case}
use Rattle.adf_fields.proofs.date_texts.text_of.Goals as goal

pub returns-then-is_civil : goal.returns-then-is_civil
returns-then-is_civil c =
    IfOk-weaker c.civil_text.result _ _ (λ t e. civil_case c.args.s c.civil_day.result (string_bytes t)
    (sym c.if-is_civil.true ∙ c.is_civil.ensures) c.civil_day.ensures e) c.civil_text.ensures
