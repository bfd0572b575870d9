use Rattle.std.proofs.Common.{◌≡◌, ◌∙◌, List, ℕ, Result, Ok, Err, IfErr, sym}
use Rattle.std.specs.Result.{IsErrAnd}
use Rattle.adf_base.specs.declared.dates.Stamp.{Stamp}
use Rattle.adf_edits.specs.Edits.{EditValue}
use Rattle.adf_names.specs.declared.path_texts.PathFault.{PathFault, TheVariants.BadText}
use Rattle.adf_edit_cmd.specs.Lines.{SaysBehindVerb, SaysDate, value_in}
use Rattle.adf_edit_cmd.specs.declared.lines.Verb.TheVariants.{Date}
use Rattle.adf_edit_cmd.proofs.ScriptLines.{no_date}
use Rattle.adf_edit_cmd.proofs.lines.read_date.Goals as goal

none_dated : {T : Type 0} (result : Result T PathFault) (text : List ℕ) (f : PathFault) → IsErrAnd result (λ g. g ≡ f)
    → (f ≡ BadText → (date : Stamp) → ¬ SaysDate (value_in text) date)
    → IfErr result (λ g. g ≡ BadText → (e : EditValue) → ¬ SaysBehindVerb Date text e)
none_dated (Ok e) text f is none = tt
none_dated (Err g) text f is none = λ bad. no_date text (none (sym is ∙ bad))

pub returns-in_err-date-clause-bad : goal.returns-in_err-date-clause-bad
returns-in_err-date-clause-bad c =
    none_dated c.from_residual.result c.args.text.now c.in_err-date.field-0.0 c.from_residual.ensures.1
    (rw c.cut.ensures.rest at c.in_err-date.ensures.bad)

pub returns-clause-ok : goal.returns-clause-ok
returns-clause-ok c = (rw c.cut.ensures.front at c.in_ok-path.ensures.ok, rw c.cut.ensures.rest at c.in_ok-date.ensures.ok)
