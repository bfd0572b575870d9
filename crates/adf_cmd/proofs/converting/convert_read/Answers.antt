use Rattle.std.proofs.Common.{inr}
use Rattle.adf_cmd.specs.Answers.{Answer}
use Rattle.adf_words.specs.CommandLine.{convert}
use Rattle.adf_runs.proofs.Endings.{silently}
use Rattle.adf_cmd.proofs.AnswerLaws.{convert_ends, refused_image_ends}
use Rattle.adf_cmd.proofs.converting.convert_read.Goals as goal

pub returns-in-Ok : goal.returns-in-Ok
returns-in-Ok g c = convert_ends c.args.kind _ _ _ _ c.in-Ok.ensures.tree.1 c.in-Ok.ensures.size c.convert_tree.ensures

pub returns-in-Err : goal.returns-in-Err
returns-in-Err g c = silently c.requires
    (refused_image_ends c.in-Err.outcome _ (Answer (convert c.args.kind) c.args.image.items) (λ err refuses. inr refuses) c.in-Err.ensures.refused)
