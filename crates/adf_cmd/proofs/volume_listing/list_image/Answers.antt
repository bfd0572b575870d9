use Rattle.std.proofs.Common.{inr}
use Rattle.adf_cmd.specs.Answers.{Answer}
use Rattle.adf_words.specs.CommandLine.{list}
use Rattle.adf_runs.proofs.Endings.{silently}
use Rattle.adf_cmd.proofs.AnswerLaws.{refused_image_ends}
use Rattle.adf_cmd.proofs.volume_listing.list_image.Goals as goal

pub returns-in-Err : goal.returns-in-Err
returns-in-Err g c = silently c.requires
    (refused_image_ends c.in-Err.outcome _ (Answer list c.args.image.now) (λ err refuses. inr refuses) c.in-Err.ensures.refused)
