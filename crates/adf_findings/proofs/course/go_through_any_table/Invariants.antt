use Rattle.adf_findings.specs.Courses.{HasReachedNamed}
use Rattle.adf_findings.proofs.course.go_through_any_table.Given as goal

abbrev pub invariant-loop-k : goal.invariant-loop-k
invariant-loop-k l = HasReachedNamed l.image l.progress l.table l.member.number l.holder l.k
