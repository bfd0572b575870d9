use Rattle.std.proofs.Common.{◌+◌, ◌≤◌}
use Rattle.adf_findings.specs.Courses.{HasReachedExt}
use Rattle.adf_findings.proofs.course.go_through_exts.Given as goal

abbrev pub invariant-loop-due : goal.invariant-loop-due
invariant-loop-due l =
    HasReachedExt l.image l.progress l.node l.b l.exts l.holder × (l.exts + l.progress.found.left ≤ l.initial.progress.found.left)

abbrev pub decreases-loop-due : goal.decreases-loop-due
decreases-loop-due l = l.progress.found.left
