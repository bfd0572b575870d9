use Rattle.std.proofs.Common.{subst, sym}
use Rattle.adf_disk_cmd.proofs.Endings.{counted, disk_ends, plan_ends, proposal_ends, search_ends}
use Rattle.adf_disk_cmd.specs.{Answers.DiskAnswer, Jobs.IsJobOf}
use Rattle.adf_runs.specs.Outcomes.{EndsBy}
use Rattle.adf_disk_cmd.proofs.job.JobProgram.on.Goals as goal

pub returns-in-Tell-clause-ends : goal.returns-in-Tell-clause-ends
returns-in-Tell-clause-ends g c = λ r serves.
    disk_ends r c.args.bytes.now _ _ _ _ (counted c.args.bytes.now c.min.result c.min.ensures)
    (c.on.ensures.ends r (subst (λ job. IsJobOf job r) c.in-Tell.is serves))

pub returns-in-Build-clause-ends : goal.returns-in-Build-clause-ends
returns-in-Build-clause-ends g c = λ r serves.
    subst (λ k. EndsBy (DiskAnswer k c.args.bytes.now) c.build_disk.result (g.W.Sink.held c.args.output.now) (g.W.Sink.held c.build_disk.new.output))
    (sym (subst (λ job. IsJobOf job r) c.in-Build.is serves))
    (plan_ends c.args.bytes.now _ _ _ _ (counted c.args.bytes.now c.min.result c.min.ensures) c.build_disk.ensures.ends)

pub returns-in-Search-clause-ends : goal.returns-in-Search-clause-ends
returns-in-Search-clause-ends g c = λ r serves.
    subst (λ k. EndsBy (DiskAnswer k c.args.bytes.now) c.search_disk.result (g.W.Sink.held c.args.output.now) (g.W.Sink.held c.search_disk.new.output))
    (sym (subst (λ job. IsJobOf job r) c.in-Search.is serves))
    (search_ends c.in-Search.json c.args.bytes.now _ _ _ c.search_disk.ensures.ends)

pub returns-in-Propose-clause-ends : goal.returns-in-Propose-clause-ends
returns-in-Propose-clause-ends g c = λ r serves.
    subst (λ k. EndsBy (DiskAnswer k c.args.bytes.now) c.propose_plan.result (g.W.Sink.held c.args.output.now) (g.W.Sink.held c.propose_plan.new.output))
    (sym (subst (λ job. IsJobOf job r) c.in-Propose.is serves))
    (proposal_ends c.args.bytes.now _ _ _ c.propose_plan.ensures.ends)
