use Rattle.std.proofs.Common.{string_bytes}
use Rattle.adf_cmd.proofs.AnswerLaws.{accepted_answer}
use Rattle.adf_cmd.proofs.checking.acceptance.Goals as goal

pub returns : goal.returns
returns c = λ t l fits. accepted_answer c.args.volume.now (string_bytes c.in_ok-line.line) t l fits (c.counts.ensures.exact _ t l fits.1) c.in_ok-line.ensures
