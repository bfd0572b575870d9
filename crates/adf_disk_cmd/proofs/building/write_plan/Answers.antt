use Rattle.std.proofs.Common.{◌≡◌, ◌≢◌, ◌∙◌, [], length, refl}
use Rattle.adf_disk_cmd.specs.{Builds.AnswersPlan, Builds.given_bytes, Replies.WritesOutput}
use Rattle.adf_disk_cmd.specs.Builds.AnswersPlan.{refused, unfinished}
use Rattle.adf_partitions.specs.Plans.{plan_value}
use Rattle.adf_runs.proofs.Endings.{does_weaker, front_ends, silently}
use Rattle.adf_disk_cmd.proofs.building.write_plan.Goals as goal

pub returns-then-have-need : goal.returns-then-have-need
returns-then-have-need g c =
    let plan = plan_value c.args.plan.now in
    let given = c.args.given.now in
    let other : length given ≢ given_bytes plan = rw c.given_bytes-need.ensures at c.if-have-need.true in
    does_weaker (WritesOutput 1 []) (AnswersPlan plan given) (λ reply h. refused h.0 other h.1) (silently c.requires.works c.refuse_given.ensures)

pub returns : goal.returns
returns g c =
    let plan = plan_value c.args.plan.now in
    let given = c.args.given.now in
    let right : length given ≡ given_bytes plan = c.if-have-need.false ∙ c.given_bytes-need.ensures in
    let (front, is, part) = c.in-Err.ensures.part in
    front_ends c.in-Err.fault _ (AnswersPlan plan given) _ c.after_writing.ensures c.in-Err.ensures.failed
    (record { status = 3; output = front; errors = [] }, unfinished refl right is, part)
