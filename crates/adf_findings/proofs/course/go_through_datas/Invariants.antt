use Rattle.adf_findings.specs.Courses.{HasReachedMember, end_in}
use Rattle.adf_findings.proofs.course.go_through_datas.Given as goal

abbrev pub invariant-loop-m : goal.invariant-loop-m
invariant-loop-m l = HasReachedMember l.image l.progress l.table l.m l.holder (end_in l.table l.m)
