use Rattle.std.proofs.Common.{[]}
use Rattle.adf_runs.proofs.PendingText.{appends_nil}
use Rattle.adf_cmd.proofs.AnswerLaws.{file_copied, none_copied, not_copied}
use Rattle.adf_cmd.proofs.copying.copy_file.Goals as goal

pub returns-in-Err-clause-ends : goal.returns-in-Err-clause-ends
returns-in-Err-clause-ends g c = λ t l fits. (
  _,
  file_copied t _ _ _ (rw fits.1.letters at (c.in-Some.ensures _ t l fits.1)) (c.in-Some-pieces.ensures.joined _ t l fits.1),
  rw c.in-Err.ensures.failed at c.in-Err.ensures.err,
)

pub returns-in_default-pieces-clause-ends : goal.returns-in_default-pieces-clause-ends
returns-in_default-pieces-clause-ends g c = λ t l fits. (
  [],
  not_copied t _ _ (rw fits.1.letters at (c.in-Some.ensures _ t l fits.1)) (c.in_default-pieces.ensures.joined _ t l fits.1),
  appends_nil _,
)

pub returns-in-Ok-clause-ends : goal.returns-in-Ok-clause-ends
returns-in-Ok-clause-ends g c = λ t l fits. (
  _,
  file_copied t _ _ _ (rw fits.1.letters at (c.in-Some.ensures _ t l fits.1)) (c.in-Some-pieces.ensures.joined _ t l fits.1),
  c.in-Ok.ensures.ok,
)

pub returns-in_default-clause-ends : goal.returns-in_default-clause-ends
returns-in_default-clause-ends g c = λ t l fits. ([], none_copied t _ (rw fits.1.letters at (c.in_default.ensures _ t l fits.1)), appends_nil _)
