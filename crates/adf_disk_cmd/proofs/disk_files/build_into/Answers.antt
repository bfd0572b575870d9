use Rattle.std.proofs.Common.{◌≡◌, ◌≢◌, arith, inl, inr, refl, rules, subst, true}
use Rattle.adf_disk_cmd.specs.NewDisks.{NewDisk, NewDiskEnds}
use Rattle.adf_file_runs.specs.FileRuns.{KnownFiles, known_files}
use Rattle.adf_runs.specs.Streams.{Seen, seen}
use Rattle.adf_disk_cmd.proofs.disk_files.build_into.Goals as goal

pub returns-then-status-ne0 : goal.returns-then-status-ne0
returns-then-status-ne0 g c =
    let files : KnownFiles = known_files g.F.Files.bytes_of g.F.Files.may_fail g.F.Files.may_open c.args.files.now in
    let input : Seen = seen g.R.Source.left g.R.Source.has_failed c.args.input.now c.run_plans-status.new.input in
    let errors : Seen = seen g.E.Sink.held g.E.Sink.has_failed c.args.errors.now c.run_plans-status.new.errors in
    let made : Seen = seen g.F.New.Sink.held g.F.New.Sink.has_failed c.in-Ok.made c.run_plans-status.new.output in
    let other : c.run_plans-status.result ≢ 0 = search (rules, c.if-status-ne0.true) in
    subst (λ (d : NewDisk). NewDiskEnds d files (g.F.Files.bytes_of c.args.files.now) input c.run_plans-status.result errors) c.disk.view_is
    (inr (
      refl,
      inr (made, record { empty = c.in-Ok.ensures.empty; ends = rw c.deref.ensures.value at c.run_plans-status.ensures }, other),
    ))

pub returns-in-Ok-put : goal.returns-in-Ok-put
returns-in-Ok-put g c =
    let files : KnownFiles = known_files g.F.Files.bytes_of g.F.Files.may_fail g.F.Files.may_open c.args.files.now in
    let input : Seen = seen g.R.Source.left g.R.Source.has_failed c.args.input.now c.run_plans-status.new.input in
    let errors : Seen = seen g.E.Sink.held g.E.Sink.has_failed c.args.errors.now c.run_plans-status.new.errors in
    let made : Seen = seen g.F.New.Sink.held g.F.New.Sink.has_failed c.in-Ok.made c.run_plans-status.new.output in
    let done : c.run_plans-status.result ≡ 0 = omega (arith, c.if-status-ne0.false) in
    subst (λ (d : NewDisk). NewDiskEnds d files (g.F.Files.bytes_of c.put.new.self) input 0 errors) c.disk.view_is
    (inl (
      made,
      record { empty = c.in-Ok.ensures.empty; ends = rw (c.deref.ensures.value, done) at c.run_plans-status.ensures },
      refl,
      rw c.as_bytes-2.ensures.value at c.in-Ok-put.ensures.replaced,
    ))

pub returns-in-Err-put : goal.returns-in-Err-put
returns-in-Err-put g c = inr (c.in-Err-put.ensures.kept, inl refl)

pub returns-in-Err-2 : goal.returns-in-Err-2
returns-in-Err-2 g c = inr (c.in-Err-2.ensures.kept, inl c.refuse_change-in-Err-2.ensures)
