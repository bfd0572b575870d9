use Rattle.std.proofs.Common.{◌≡◌, ◌+◌, ◌*◌, ℕ, List, arith, subst, take}
use Rattle.adf_blocks.specs.declared.layout.TheConstants.{MOST_BLOCKS}
use Rattle.adf_runs.specs.Outcomes.{EndsBy}
use Rattle.adf_survey_cmd.specs.Answers.{InputAnswer}
use Rattle.adf_survey_cmd.proofs.Volumes.{front_is}
use Rattle.adf_survey_cmd.proofs.work.WorkProgram.on.Goals as goal

pub returns-clause-ends : goal.returns-clause-ends
returns-clause-ends g c = λ r meets.
    let bytes : List ℕ = c.args.bytes.now in
    let same : take c.min.result bytes ≡ take (512 * MOST_BLOCKS + 1) bytes =
    front_is bytes c.min.result (512 * MOST_BLOCKS + 1) (omega (arith, c.min.ensures)) in
    subst (λ (l : List ℕ). EndsBy (InputAnswer r l) c.on_bytes.result (g.W.Sink.held c.args.output.now) (g.W.Sink.held c.on_bytes.new.output)) same
    (c.on_bytes.ensures.does r meets).ends
