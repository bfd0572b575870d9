use Rattle.std.proofs.Common.{◌≡◌, ◌∙◌, List, ℕ, ap, inr}
use Rattle.adf_disk_cmd.proofs.HostRuns.{disk_consistent, explained, refused_names_none}
use Rattle.adf_disk_cmd.specs.{Answers.disk_command, CommandLine.AreRefusedByDisk, CommandLine.disk_file}
use Rattle.adf_file_runs.proofs.FileRuns.{no_work_on_files}
use Rattle.adf_file_runs.specs.FileRuns.{KnownFiles, known_files}
use Rattle.adf_runs.specs.{Streams.seen, WorkFaults.args_refused, WorkFaults.refusal_status}
use Rattle.adf_words.specs.CommandLine.{texts_of}
use Rattle.adf_disk_cmd.proofs.host_plans.run_plans.Goals as goal

pub returns-in-Ok-None : goal.returns-in-Ok-None
returns-in-Ok-None g c = inr (
  c.run_files.ensures.ends,
  λ some name text asks known. absurd (c.in-Ok-None.ensures.none c.in-Ok-None.field-0-is name asks),
)

pub returns-in-Err : goal.returns-in-Err
returns-in-Err g c =
    let words : List (List ℕ) = texts_of c.args.asked.now.words.now in
    let files : KnownFiles = known_files g.F.Files.bytes_of g.F.Files.may_fail g.F.Files.may_open c.args.asked.now.files.now in
    let input = seen g.R.Source.left g.R.Source.has_failed c.args.input.now c.args.input.now in
    let errors = seen g.E.Sink.held g.E.Sink.has_failed c.args.errors.now c.refuse.new.errors in
    let fault = c.in-Err.fault in
    let status : c.refuse.result ≡ refusal_status (args_refused fault) = c.refuse.ensures.status ∙ ap refusal_status c.from.ensures in
    inr (
      no_work_on_files disk_command disk_file words files input c.refuse.result errors (g.W.Sink.held c.args.output.now)
          (g.W.Sink.has_failed c.args.output.now) (args_refused fault) disk_consistent (explained fault (AreRefusedByDisk words) _ c.in-Err.ensures.refused)
          status c.requires.reads c.requires.writes (rw (c.usage.ensures, c.from.ensures) at c.refuse.ensures.said),
      refused_names_none fault words files c.refuse.result c.in-Err.ensures.refused status,
    )

pub returns-in-Ok-Some : goal.returns-in-Ok-Some
returns-in-Ok-Some g c = c.build_file.ensures (seen g.R.Source.left g.R.Source.has_failed c.args.input.now c.args.input.now)
