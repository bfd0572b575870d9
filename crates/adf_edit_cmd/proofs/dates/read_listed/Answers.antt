use Rattle.std.proofs.Common.{◌≡◌, Some, subst, sym}
use Rattle.adf_fields.specs.Dates.{IsStampText}
use Rattle.adf_edit_cmd.proofs.ListedDates.{civil_where}
use Rattle.adf_edit_cmd.proofs.dates.read_listed.Goals as goal

pub returns-in_default-clause-bad : goal.returns-in_default-clause-bad
returns-in_default-clause-bad c = λ _ s civil is.
    c.in_default.not-Some s (c.stamp_written.ensures s (civil_where s c.args.text.now civil is))

pub returns-in-Ok-false-clause-bad : goal.returns-in-Ok-false-clause-bad
returns-in-Ok-false-clause-bad c = λ _ s civil is.
    let e : c.stamp_written.result ≡ Some s = c.stamp_written.ensures s (civil_where s c.args.text.now civil is) in
    let same : c.in-Some.stamp ≡ s = cc in
    c.in-Ok-false.ensures.no c.in-Ok-false.field-0-test (subst (λ x. IsStampText x c.args.text.now) (sym same) is)
