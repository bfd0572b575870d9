use Rattle.std.proofs.Common.{◌-◌, length}
use Rattle.adf_partitions.specs.{Disks.IsFound, declared.layout.TheConstants.MOST_PARTITIONS}
use Rattle.adf_partitions.proofs.list.follow_list.Given as goal

abbrev pub invariant-loop-next : goal.invariant-loop-next
invariant-loop-next l = IsFound l.bytes l.blocks l.tables l.found.items l.holder l.next

abbrev pub decreases-loop-next : goal.decreases-loop-next
decreases-loop-next l = MOST_PARTITIONS - length l.found.items
