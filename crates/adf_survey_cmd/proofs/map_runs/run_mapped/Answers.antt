use Rattle.std.proofs.Common.{subst}
use Rattle.adf_runs.specs.Streams.{seen}
use Rattle.adf_file_runs.specs.FileRuns.{known_files}
use Rattle.adf_words.specs.CommandLine.{texts_of}
use Rattle.adf_survey_cmd.specs.MapRuns.{EndsByMap}
use Rattle.adf_survey_cmd.proofs.map_runs.run_mapped.Goals as goal

pub returns-in-Some : goal.returns-in-Some
returns-in-Some g c =
    subst (λ o. EndsByMap o (texts_of c.args.asked.now.words.now)
    (known_files g.F.Files.bytes_of g.F.Files.may_fail g.F.Files.may_open c.args.asked.now.files.now)
    (seen g.R.Source.left g.R.Source.has_failed c.args.input.now c.run_with_map.new.input) c.run_with_map.result
    (seen g.W.Sink.held g.W.Sink.has_failed c.args.output.now c.run_with_map.new.output)
    (seen g.E.Sink.held g.E.Sink.has_failed c.args.errors.now c.run_with_map.new.errors)) c.in-Some.ensures.word c.run_with_map.ensures
