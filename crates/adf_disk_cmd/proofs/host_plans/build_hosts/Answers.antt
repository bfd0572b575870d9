use Rattle.std.proofs.Common.{◌∙◌, List, ℕ, inl, inr, sym}
use Rattle.adf_disk_cmd.specs.{Builds.AnswersPlan, Builds.RefusesPlan, HostPlans.BuildsHosts}
use Rattle.adf_partitions.specs.Plans.{PlanValue, plan_value}
use Rattle.adf_plans.specs.PlanTexts.{IsText}
use Rattle.adf_runs.proofs.{Endings.does_weaker, Endings.ends_weaker}
use Rattle.adf_disk_cmd.proofs.host_plans.build_hosts.Goals as goal

pub returns-in-Err : goal.returns-in-Err
returns-in-Err g c =
    let text : List ℕ = c.args.text.now in
    let plain : List ℕ = c.in-Ok.plain.items in
    let bytes_of = g.F.Files.bytes_of c.args.files.now in
    let held = g.W.Sink.held c.args.output.now in
    let none = rw c.deref.ensures.value at c.in-Err.ensures.none in
    let ends = ends_weaker (RefusesPlan plain) (BuildsHosts bytes_of text plain) c.refuse_text.result held held (λ reply h. inr h)
    (c.refuse_text.ensures.ends plain none held) in
    inl (
      plain,
      c.in-Ok.ensures,
      c.refuse_text.result,
      record {
        ends = ends;
        read = sym c.refuse_text.ensures.blames.read;
        written = c.requires.writes ∙ c.refuse_text.ensures.blames.written;
      },
      c.finish-in-Err.ensures.status,
    )

pub returns-in-Ok-gather : goal.returns-in-Ok-gather
returns-in-Ok-gather g c =
    let text : List ℕ = c.args.text.now in
    let plain : List ℕ = c.in-Ok.plain.items in
    let bytes_of = g.F.Files.bytes_of c.args.files.now in
    let plan : PlanValue = plan_value c.in-Ok-read_plan.read.0 in
    let left : List ℕ = c.in-Ok-read_plan.read.1.now in
    let given : List ℕ = c.in-Ok-gather.given.items in
    let read : IsText plain plan left = rw c.deref.ensures.value at c.in-Ok-read_plan.ensures.text in
    let does = rw c.deref-in-Ok-gather.ensures.value at c.write_plan.ensures in
    inl (
      plain,
      c.in-Ok.ensures,
      c.write_plan.result,
      does_weaker (AnswersPlan plan given) (BuildsHosts bytes_of text plain) (λ reply h. inl (plan, left, given, read, c.in-Ok-gather.ensures, h)) does,
      c.finish-in-Ok-gather.ensures.status,
    )
