use Rattle.std.proofs.Common.{subst, sym}
use Rattle.adf_disk_cmd.proofs.{Endings.checks, HeldChecks.knows_whole}
use Rattle.adf_disk_cmd.specs.Answers.{OfPartitions}
use Rattle.adf_runs.specs.Outcomes.{EndsBy}
use Rattle.adf_disk_cmd.proofs.work.Work.on_disk.Goals as goal

pub returns-in-Check-clause-ends : goal.returns-in-Check-clause-ends
returns-in-Check-clause-ends g c = λ r serves.
    let bytes = c.args.bytes.now in
    let ps = c.args.disk.now.partitions.items in
    subst (λ k. EndsBy (OfPartitions k bytes ps c.args.disk.now.fault) c.write_checks.result (g.W.Sink.held c.args.output.now)
    (g.W.Sink.held c.write_checks.new.output))
    (sym (checks c.in-Check.json c.args.self.now r c.in-Check.is serves)) (c.write_checks.ensures.ends bytes (knows_whole bytes))
