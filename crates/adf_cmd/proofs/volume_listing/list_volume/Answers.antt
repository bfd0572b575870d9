use Rattle.adf_fields.proofs.DateTexts.{date_of, date_of_is}
use Rattle.std.proofs.Common.{refl}
use Rattle.adf_cmd.specs.Answers.{Answer}
use Rattle.adf_words.specs.CommandLine.{list}
use Rattle.adf_runs.proofs.Endings.{front_ends}
use Rattle.adf_cmd.proofs.AnswerLaws.{listed}
use Rattle.adf_cmd.proofs.volume_listing.list_volume.Goals as goal

pub returns-in-Ok : goal.returns-in-Ok
returns-in-Ok g c =
    let (t, l, fits) = c.requires.fits in
    record { ends = (_, listed _ t l fits, c.in-Ok.ensures.ok date_of t l date_of_is fits); read = refl; written = c.in-Ok.ensures.failed }

pub returns-in-Err : goal.returns-in-Err
returns-in-Err g c =
    let (t, l, fits) = c.requires.fits in
    front_ends c.in-Err.fault _ (Answer list c.args.volume.now) _ c.after_writing.ensures c.in-Err.ensures.failed
    (_, listed _ t l fits, c.in-Err.ensures.err date_of t l date_of_is fits)
