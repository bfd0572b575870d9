use Rattle.std.proofs.Common.{string_bytes}
use Rattle.adf_cmd.proofs.AnswerLaws.{refused_answer}
use Rattle.adf_cmd.proofs.checking.refusal.Goals as goal

pub returns : goal.returns
returns c = λ image first. refused_answer image (string_bytes c.in_ok-line.line) c.args.fault first c.in_ok-line.ensures
