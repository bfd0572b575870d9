use Rattle.std.proofs.Common.{arith}
use Rattle.adf_findings.proofs.CoursePlaces.{nodes_end}
use Rattle.adf_findings.proofs.course.run.Goals as goal

pub returns : goal.returns
returns c = nodes_end c.loop-node.node (omega (arith, c.len.ensures)) c.loop-node.invariant.1
