use Rattle.std.proofs.Common.{◌+◌}
use Rattle.adf_survey_cmd.proofs.MapWords.{known_first}
use Rattle.adf_survey_cmd.specs.declared.map_runs.TheConstants.{MOST_MAP}
use Rattle.adf_survey_cmd.proofs.map_runs.map_bytes.Goals as goal

pub returns-in-Ok-read_all-clause-bytes : goal.returns-in-Ok-read_all-clause-bytes
returns-in-Ok-read_all-clause-bytes g c =
    known_first (g.F.Files.bytes_of c.args.files.now c.args.name.now) (g.F.Opened.Source.left c.in-Ok.source) (MOST_MAP + 1) c.in-Ok-read_all.bytes.items
    (rw c.as_bytes.ensures.value at c.in-Ok.ensures.bytes) c.in-Ok-read_all.ensures.all
