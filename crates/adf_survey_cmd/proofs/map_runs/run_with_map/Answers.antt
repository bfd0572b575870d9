use Rattle.std.proofs.Common.{[], ap, inl, refl, subst}
use Rattle.std.proofs.lemmas.List.{get_or-map}
use Rattle.adf_runs.proofs.PendingText.{appends_nil}
use Rattle.adf_runs.specs.Streams.{seen}
use Rattle.adf_file_runs.specs.FileRuns.{RunEndsOnFiles, known_files}
use Rattle.adf_words.specs.CommandLine.{texts_of}
use Rattle.adf_survey_cmd.specs.{Answers.survey_command, CommandLine.survey_file}
use Rattle.adf_survey_cmd.proofs.MapEnds.{mapped_ends, refused_ends}
use Rattle.adf_survey_cmd.proofs.map_runs.run_with_map.Goals as goal

pub returns-in-Err : goal.returns-in-Err
returns-in-Err g c =
    refused_ends (texts_of c.args.asked.now.words.now) c.args.at
    (known_files g.F.Files.bytes_of g.F.Files.may_fail g.F.Files.may_open c.args.asked.now.files.now) _ c.in-Err.status _ _ _ _
    (get_or-map (λ w. w.now) c.args.asked.now.words.now c.args.at _ [] c.requires.within) c.in-Err.ensures.refused

pub returns-in_default : goal.returns-in_default
returns-in_default g c = inl (refl, appends_nil (g.W.Sink.held c.args.output.now))

pub returns : goal.returns
returns g c =
    let files = known_files g.F.Files.bytes_of g.F.Files.may_fail g.F.Files.may_open c.args.asked.now.files.now in
    let input = seen g.R.Source.left g.R.Source.has_failed c.args.input.now c.run_files.new.input in
    let output = seen g.W.Sink.held g.W.Sink.has_failed c.args.output.now c.run_files.new.output in
    mapped_ends (texts_of c.args.asked.now.words.now) c.args.at files input c.run_files.result
    (seen g.E.Sink.held g.E.Sink.has_failed c.args.errors.now c.run_files.new.errors) _ output c.in-Ok.bytes.items c.text_in.result.now
    (texts_of c.deref-2.result.now) (texts_of c.in-Ok-with_text.words.items)
    (get_or-map (λ w. w.now) c.args.asked.now.words.now c.args.at _ [] c.requires.within) c.in-Ok.ensures.bytes c.in-Ok.ensures.map
    (rw c.deref.ensures.value at c.text_in.ensures) (ap texts_of c.deref-2.ensures.value) c.in-Ok-with_text.ensures
    (subst (λ e. RunEndsOnFiles survey_command survey_file (texts_of c.deref-2.result.now) files input c.run_files.result output
    (seen g.E.Sink.held g.E.Sink.has_failed e c.run_files.new.errors)) c.in-Ok.ensures.errors c.run_files.ensures.ends)
