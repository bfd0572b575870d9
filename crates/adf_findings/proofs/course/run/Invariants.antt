use Rattle.std.proofs.Common.{◌-◌, suc}
use Rattle.adf_blocks.specs.Sizes.{blocks}
use Rattle.adf_volume.specs.Positions.{before_node}
use Rattle.adf_findings.specs.Courses.{HasReached}
use Rattle.adf_findings.proofs.course.run.Given as goal

abbrev pub invariant-loop-node : goal.invariant-loop-node
invariant-loop-node l = HasReached l.image l.progress (before_node l.node)

abbrev pub decreases-loop-node : goal.decreases-loop-node
decreases-loop-node l = suc (blocks l.image) - l.node
