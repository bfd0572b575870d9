use Rattle.std.proofs.Common.{◌≡◌, List, ℕ, None, Option, Some, inl, inr, refl, subst}
use Rattle.std.proofs.lemmas.Bool.{false≢true}
use Rattle.std.specs.Prelude.{IsSome}
use Rattle.clap.specs.Words.{Text}
use Rattle.adf_disk_cmd.specs.NewDisks.{EndsByDisk, NewDisk, new_disk}
use Rattle.adf_file_runs.specs.FileRuns.{KnownFiles, known_files}
use Rattle.adf_runs.specs.Streams.{Seen, seen}
use Rattle.adf_words.specs.CommandLine.{texts_of}
use Rattle.adf_disk_cmd.proofs.runner.JobSystemProgram.start.Goals as goal

pub returns-in-Ok-None : goal.returns-in-Ok-None
returns-in-Ok-None g c =
    let words : List (List ℕ) = texts_of c.args.asked.now.words.now in
    let files : KnownFiles = known_files g.F.Files.bytes_of g.F.Files.may_fail g.F.Files.may_open c.args.asked.now.files in
    let after : List ℕ → Option (List ℕ) = g.F.Files.bytes_of c.args.asked.now.files in
    let input : Seen = seen g.R.Source.left g.R.Source.has_failed c.args.input.now c.run_plans.new.input in
    let output : Seen = seen g.W.Sink.held g.W.Sink.has_failed c.args.output.now c.run_plans.new.output in
    let errors : Seen = seen g.E.Sink.held g.E.Sink.has_failed c.args.errors.now c.run_plans.new.errors in
    let none : None ≡ new_disk words = rw c.in-Ok-None.field-0-is at c.in-Ok-None.ensures.disk in
    record {
      ends = subst (λ o. EndsByDisk o words files after input c.run_plans.result output errors) none (c.run_plans.ensures, refl);
    }

pub returns-in-Err : goal.returns-in-Err
returns-in-Err g c =
    let words : List (List ℕ) = texts_of c.args.asked.now.words.now in
    let files : KnownFiles = known_files g.F.Files.bytes_of g.F.Files.may_fail g.F.Files.may_open c.args.asked.now.files in
    let after : List ℕ → Option (List ℕ) = g.F.Files.bytes_of c.args.asked.now.files in
    let input : Seen = seen g.R.Source.left g.R.Source.has_failed c.args.input.now c.args.input.now in
    let output : Seen = seen g.W.Sink.held g.W.Sink.has_failed c.args.output.now c.args.output.now in
    let errors : Seen = seen g.E.Sink.held g.E.Sink.has_failed c.args.errors.now c.finish.new.errors in
    record {
      ends = lacks_words (new_disk words) words files after input c.finish.result output errors c.in-Err.ensures.lacks refl c.finish.ensures.status refl;
    }
  where
    lacks_words : (disk : Option NewDisk) (words : List Text) (files : KnownFiles) (after : List ℕ → Option (List ℕ)) (input : Seen) (n : ℕ)
        (output errors : Seen) → IsSome disk → output.after ≡ output.before → n ≡ 3 → after ≡ files.bytes_of
        → EndsByDisk disk words files after input n output errors
    lacks_words (Some disk) words files after input n output errors some same three kept = (same, inr (kept, inl three))
    lacks_words None words files after input n output errors some same three kept = absurd (false≢true some)
