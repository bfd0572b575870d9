use Rattle.std.proofs.Common.{rules}
use Rattle.adf_uncached.proofs.SurveySteps.{marked_first, marked_none}
use Rattle.adf_uncached.proofs.faults.first_marked.Goals as goal

pub returns-then-has_mark : goal.returns-then-has_mark
returns-then-has_mark c =
    marked_first c.args.marks.now.items c.len-i-end.result c.loop-i.i c.has_mark.result c.loop-i-test.true (search rules) c.has_mark.ensures
    c.if-has_mark.true c.loop-i.invariant

pub returns : goal.returns
returns c = marked_none c.args.marks.now.items c.len-i-end.result c.loop-i.i c.loop-i-test.false (search rules) c.loop-i.invariant
