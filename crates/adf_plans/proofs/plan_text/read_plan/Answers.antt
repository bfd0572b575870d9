use Rattle.std.proofs.lemmas.Bool.{and_parts}
use Rattle.adf_partitions.specs.Plans.{PlanValue}
use Rattle.adf_plans.specs.PlanTexts.{HasLines, IsDiskLine, begins_with_end, first_line, is_plan}
use Rattle.adf_plans.proofs.{OnePlan.no_plan, TextLines.is_plan-tells}
use Rattle.adf_plans.proofs.plan_text.read_plan.Goals as goal

pub returns-in_default-clause-none : goal.returns-in_default-clause-none
returns-in_default-clause-none c = λ some plan rest is.
    c.in_default.ensures.none plan.sectors plan.heads (rw c.cut_line.ensures.line is.lines.0)

pub returns-in-Some-plan_fault-clause-none : goal.returns-in-Some-plan_fault-clause-none
returns-in-Some-plan_fault-clause-none c = λ some.
    let text = c.args.text.now in
    let plan : PlanValue = record { sectors = c.in-Some.sectors; heads = c.in-Some.heads; partitions = c.in-Ok.partitions.items } in
    let disk : IsDiskLine (first_line text) c.in-Some.sectors c.in-Some.heads = rw c.cut_line.ensures.line at c.in-Some.ensures.some in
    let lines : HasLines text plan c.in-Ok.end.now = (disk, (rw c.cut_line.ensures.rest at c.in-Ok.ensures.lines), c.in-Ok.ensures.stops) in
    no_plan text plan c.in-Ok.end.now lines c.in-Some-plan_fault.ensures.some

pub returns-clause-text : goal.returns-clause-text
returns-clause-text c =
    let text = c.args.text.now in
    let plan : PlanValue = record { sectors = c.in-Some.sectors; heads = c.in-Some.heads; partitions = c.in-Ok.partitions.items } in
    let disk : IsDiskLine (first_line text) c.in-Some.sectors c.in-Some.heads = rw c.cut_line.ensures.line at c.in-Some.ensures.some in
    let lines : HasLines text plan c.in-Ok.end.now = (disk, (rw c.cut_line.ensures.rest at c.in-Ok.ensures.lines), c.in-Ok.ensures.stops) in
    let ends = and_parts (begins_with_end c.in-Ok.end.now) (is_plan plan) c.in-None.ensures.none in
    record { end = c.in-Ok.end.now; lines = lines; ends = ends.0; good = ends.1; behind = c.cut_line-in-None.ensures.rest }

pub returns-clause-plan : goal.returns-clause-plan
returns-clause-plan c =
    let plan : PlanValue = record { sectors = c.in-Some.sectors; heads = c.in-Some.heads; partitions = c.in-Ok.partitions.items } in
    let ends = and_parts (begins_with_end c.in-Ok.end.now) (is_plan plan) c.in-None.ensures.none in
    is_plan-tells plan c.cut_line.result.1.now c.in-Ok.end.now c.in-Ok.ensures.lines ends.1
