use Rattle.std.proofs.Common.{inr}
use Rattle.adf_cmd.specs.Answers.{Answer}
use Rattle.adf_words.specs.CommandLine.{cat}
use Rattle.adf_cmd.proofs.AnswerLaws.{copy_ends, refused_image_ends}
use Rattle.adf_cmd.proofs.copying.cat_image.Goals as goal

pub returns-in-Ok-clause-ends : goal.returns-in-Ok-clause-ends
returns-in-Ok-clause-ends g c = λ path text.
    let (t, l, fits) = c.in-Ok.ensures.fits in
    rw c.in-Ok.ensures.image at (copy_ends _ path _ _ t l _ _ text fits (c.copy_file.ensures.ends t l fits))

pub returns-in-Err-clause-ends : goal.returns-in-Err-clause-ends
returns-in-Err-clause-ends g c = λ path text.
    (refused_image_ends c.in-Err.outcome _ (Answer (cat path) c.args.image.now) (λ err refuses. inr (inr ((c.args.names.now, text), refuses)))
    c.in-Err.ensures.refused).ends _
