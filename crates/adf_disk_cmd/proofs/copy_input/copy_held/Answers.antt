use Rattle.std.proofs.Common.{◌≡◌, ◌+◌, arith, length}
use Rattle.adf_disk_cmd.proofs.HeldVolume.{copied_ends, few_held}
use Rattle.adf_disk_cmd.specs.Work.{sought_value}
use Rattle.adf_disk_cmd.proofs.copy_input.copy_held.Goals as goal

pub returns-in-Ok-clause-ends : goal.returns-in-Ok-clause-ends
returns-in-Ok-clause-ends g c = λ all holds.
    let few = few_held all c.args.held.now.tables.items c.args.held.now.behind.bytes.items c.args.held.now.place c.args.held.now.behind.len
    c.requires.within holds in
    let sum : c.saturating_add.result ≡ length c.args.held.now.tables.items + c.args.held.now.behind.len =
    omega (arith, c.saturating_add.ensures, c.len.ensures, few) in
    copied_ends all c.args.held.now.tables.items c.args.held.now.behind.bytes.items c.args.held.now.place c.args.held.now.behind.len
    c.requires.within holds (sought_value c.args.sought.now) _ _ sum c.blocks_of-blocks.ensures c.in-Ok.disk.partitions.items c.in-Ok.disk.fault _ _ _
    (rw c.deref.ensures.value at c.in-Ok.ensures) (c.write_held.ensures.ends all holds)
