use Rattle.std.proofs.Common.{arith, ◌∙◌, FitsSigned, w64}
use Rattle.jiff.proofs.SpanFacts.{signed_arith, date_add-days, can_add-days}
use Rattle.std.proofs.lemmas.Int.{to_z-of_z}
use Rattle.adf_fields.proofs.Digits.{epoch_day_1970}
use Rattle.adf_fields.proofs.date_texts.civil_day.Goals as goal

pub unwrap-requires : goal.unwrap-requires
unwrap-requires c =
    let sum : FitsSigned w64 c.from.result = omega (arith, signed_arith, c.from.ensures) in
    let only = simp to_z-of_z at c.days.ensures in
    let zero = epoch_day_1970 c.date.result c.date.ensures in
    c.checked_add.ensures.succeeds.1 ((can_add-days c.date.result c.from.result c.days.result only).1 (omega (arith, signed_arith, zero, c.from.ensures)))

pub returns : goal.returns
returns c =
    let sum : FitsSigned w64 c.from.result = omega (arith, signed_arith, c.from.ensures) in
    let only = simp to_z-of_z at c.days.ensures in
    let zero = epoch_day_1970 c.date.result c.date.ensures in
    let value = rw c.unwrap.ensures at c.checked_add.ensures.value in
    value ∙ date_add-days c.date.result c.from.result c.days.result only ∙ omega (arith, signed_arith, zero, c.from.ensures)
