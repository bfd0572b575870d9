use Rattle.std.proofs.Common.{◌∙◌, sym}
use Rattle.adf_fields.proofs.{CivilDates.civil_year, DateTexts.appends_where, Digits.civil_case}
use Rattle.adf_fields.proofs.date_texts.push_stamp.Goals as goal

pub civil_digits-requires-clause-year : goal.civil_digits-requires-clause-year
civil_digits-requires-clause-year c = civil_year _ c.civil_day.result c.civil_day.ensures

pub returns-then-is_civil : goal.returns-then-is_civil
returns-then-is_civil c =
    appends_where c.extend_from_slice.result c.args.s c.args.text.now.items c.extend_from_slice.new.self.items c.civil_digits.result
    (civil_case c.args.s c.civil_day.result c.civil_digits.result (sym c.if-is_civil.true ∙ c.is_civil.ensures) c.civil_day.ensures
    c.civil_digits.ensures)
    c.extend_from_slice.ensures.items
