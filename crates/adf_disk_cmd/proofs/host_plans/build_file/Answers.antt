use Rattle.std.proofs.Common.{◌+◌, ◌∙◌, List, ℕ, inl, inr, sym}
use Rattle.adf_disk_cmd.proofs.Gathered.{file_read}
use Rattle.adf_disk_cmd.proofs.HostRuns.{no_hosts_named, read_status, text_ends, unread_ends}
use Rattle.adf_disk_cmd.specs.{Answers.disk_command, CommandLine.disk_file, declared.work.TheConstants.MOST_DISK_BYTES}
use Rattle.adf_file_runs.proofs.FileRuns.{unopened_ends}
use Rattle.adf_file_runs.specs.FileRuns.{KnownFiles, known_files}
use Rattle.adf_plans.specs.HostFiles.{NamesHosts}
use Rattle.adf_runs.specs.Streams.{AreFirst, seen}
use Rattle.adf_words.specs.CommandLine.{texts_of}
use Rattle.adf_disk_cmd.proofs.host_plans.build_file.Goals as goal

pub returns-in-Err : goal.returns-in-Err
returns-in-Err g c = λ input.
    let words : List (List ℕ) = texts_of c.args.asked.now.words.now in
    let files : KnownFiles = known_files g.F.Files.bytes_of g.F.Files.may_fail g.F.Files.may_open c.args.asked.now.files.now in
    let errors = seen g.E.Sink.held g.E.Sink.has_failed c.args.errors.now c.refuse_file.new.errors in
    inr (
      unopened_ends disk_command disk_file words files input c.refuse_file.result errors (g.W.Sink.held c.args.output.now)
          (g.W.Sink.has_failed c.args.output.now) c.args.name.now c.in-Err.why (sym c.requires.plan.1) c.refuse_file.ensures
          (rw c.as_bytes.ensures.value at c.in-Err.ensures.opens) (rw c.as_bytes.ensures.value at c.in-Err.ensures.unopened),
      λ some. absurd (some c.refuse_file.ensures),
    )

pub returns-in-Err-read_all : goal.returns-in-Err-read_all
returns-in-Err-read_all g c = λ input.
    let words : List (List ℕ) = texts_of c.args.asked.now.words.now in
    let files : KnownFiles = known_files g.F.Files.bytes_of g.F.Files.may_fail g.F.Files.may_open c.args.asked.now.files.now in
    let errors = seen g.E.Sink.held g.E.Sink.has_failed c.args.errors.now c.finish.new.errors in
    let fault = c.in-Err-read_all.fault in
    let status = rw c.after_reading.ensures at c.finish.ensures.status in
    inr (
      unread_ends words files input c.finish.result errors c.args.name.now c.requires.plan.1 (rw c.as_bytes.ensures.value at c.in-Ok.ensures.opened)
          (g.W.Sink.held c.args.output.now) (g.W.Sink.has_failed c.args.output.now) fault c.requires.writes status
          (rw c.after_reading.ensures at c.finish.ensures.said),
      λ some. absurd (some (status ∙ read_status fault)),
    )

pub returns-then-names_hosts : goal.returns-then-names_hosts
returns-then-names_hosts g c = λ input.
    let files : KnownFiles = known_files g.F.Files.bytes_of g.F.Files.may_fail g.F.Files.may_open c.args.asked.now.files.now in
    let text : List ℕ = c.in-Ok-read_all.text.items in
    let first : AreFirst (MOST_DISK_BYTES + 1) (files.bytes_of c.args.name.now) text =
    file_read (files.bytes_of c.args.name.now) (g.F.Opened.Source.left c.in-Ok.source) (MOST_DISK_BYTES + 1) text
    (rw c.as_bytes.ensures.value at c.in-Ok.ensures.bytes) c.in-Ok-read_all.ensures.all in
    let named : NamesHosts text = rw c.deref.ensures.value at (c.names_hosts.ensures.some c.if-names_hosts.true) in
    inl (text, (c.args.name.now, c.requires.plan, first), named, rw c.deref-then-names_hosts.ensures.value at c.build_hosts.ensures)

pub returns : goal.returns
returns g c = λ input.
    let words : List (List ℕ) = texts_of c.args.asked.now.words.now in
    let files : KnownFiles = known_files g.F.Files.bytes_of g.F.Files.may_fail g.F.Files.may_open c.args.asked.now.files.now in
    let output = seen g.W.Sink.held g.W.Sink.has_failed c.args.output.now c.run_program_on.new.output in
    let errors = seen g.E.Sink.held g.E.Sink.has_failed c.args.errors.now c.run_program_on.new.errors in
    let text : List ℕ = c.in-Ok-read_all.text.items in
    let first : AreFirst (MOST_DISK_BYTES + 1) (files.bytes_of c.args.name.now) text =
    file_read (files.bytes_of c.args.name.now) (g.F.Opened.Source.left c.in-Ok.source) (MOST_DISK_BYTES + 1) text
    (rw c.as_bytes.ensures.value at c.in-Ok.ensures.bytes) c.in-Ok-read_all.ensures.all in
    let none : ¬ NamesHosts text = rw c.deref.ensures.value at (c.names_hosts.ensures.none c.if-names_hosts.false) in
    inr (
      text_ends words files input c.run_program_on.result.status errors c.args.name.now c.requires.plan.1
          (rw c.as_bytes.ensures.value at c.in-Ok.ensures.opened) output text first (rw c.deref-2.ensures.value at c.run_program_on.ensures.ends),
      λ some. no_hosts_named words files c.args.name.now text c.requires.plan first none,
    )
