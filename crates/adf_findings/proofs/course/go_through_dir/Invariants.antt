use Rattle.adf_findings.specs.Courses.{HasReachedSlot}
use Rattle.adf_findings.proofs.course.go_through_dir.Given as goal

abbrev pub invariant-loop-slot : goal.invariant-loop-slot
invariant-loop-slot l = HasReachedSlot l.image l.progress l.node l.slot l.b
