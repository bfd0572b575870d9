use Rattle.std.proofs.Common.{ℕ, Bool, List, refl, subst}
use Rattle.adf_runs.specs.Streams.{AppendsPart}
use Rattle.adf_survey_cmd.specs.Answer.{reply_of}
use Rattle.adf_survey_cmd.proofs.answer.write_answer.Goals as goal

pub returns : goal.returns
returns g c =
    let image : List ℕ = c.in-Ok.answer.output.items in
    let old = g.W.Sink.held c.args.output.now in
    let new = g.W.Sink.held c.write_all.new.output in
    let whole = subst (λ (bytes : List ℕ). AppendsPart (g.W.Sink.has_failed c.write_all.new.output) old new bytes) c.deref.ensures.value
    c.in-Err.ensures.err in
    let front = subst (λ (failed : Bool). AppendsPart failed old new image) c.in-Err.ensures.failed whole in
    rw c.in-Ok.is (record { ends = (reply_of c.in-Ok.answer, refl, front); read = refl; written = c.in-Err.ensures.failed })
