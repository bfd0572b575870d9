use Rattle.adf_findings.specs.Courses.{HasReachedPage}
use Rattle.adf_findings.proofs.course.go_through_map.Given as goal

abbrev pub invariant-loop-page : goal.invariant-loop-page
invariant-loop-page l = HasReachedPage l.image l.progress l.page l.holder
