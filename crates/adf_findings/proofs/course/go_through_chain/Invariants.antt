use Rattle.std.proofs.Common.{◌+◌, ◌≤◌, ◌<◌}
use Rattle.adf_findings.specs.Courses.{HasReachedHeader}
use Rattle.adf_findings.proofs.course.go_through_chain.Given as goal

abbrev pub invariant-loop-part : goal.invariant-loop-part
invariant-loop-part l =
    HasReachedHeader l.image l.progress l.parent l.slot l.place l.holder l.i l.b × (l.i < 128)
    × (l.place + l.progress.found.left ≤ l.initial.progress.found.left)

abbrev pub decreases-loop-part : goal.decreases-loop-part
decreases-loop-part l = l.progress.found.left
