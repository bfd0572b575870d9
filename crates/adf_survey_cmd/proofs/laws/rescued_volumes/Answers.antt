use Rattle.std.proofs.Common.{◌*◌, ◌+◌, inl, inr, List, ℕ, take}
use Rattle.std.proofs.Common.{subst}
use Rattle.adf_blocks.specs.declared.layout.TheConstants.{MOST_BLOCKS}
use Rattle.adf_survey_cmd.specs.Answers.{InputAnswer}
use Rattle.adf_survey_cmd.specs.CommandLine.{rescue}
use Rattle.adf_survey_cmd.proofs.Volumes.{are_bytes, front_all, laid_boot, laid_some, rescue_laid}
use Rattle.adf_survey_cmd.proofs.laws.rescued_volumes.Goals as goal

pub returns-clause-fits : goal.returns-clause-fits
returns-clause-fits c = λ r wish input reply answer none some. elim answer [
  | inl bad ↦ absurd bad
  | inr is ↦
      let (p, laid) = rescue_laid (record r { question = rescue wish }) wish (take (512 * MOST_BLOCKS + 1) input) reply.status reply.output is.promised
      none some in
      laid_some p (take (512 * MOST_BLOCKS + 1) input) reply.output laid
]

pub returns-clause-boot : goal.returns-clause-boot
returns-clause-boot c = λ r wish input reply answer none some short long all begins.
    let here : InputAnswer (record r { question = rescue wish }) input reply =
    subst (λ (front : List ℕ). InputAnswer (record r { question = rescue wish }) front reply) (front_all input short) answer in
    elim here [
      | inl bad ↦ absurd bad
      | inr is ↦
          let (p, laid) = rescue_laid (record r { question = rescue wish }) wish input reply.status reply.output is.promised none some in
          laid_boot p input reply.output laid long (are_bytes input all) begins
    ]
