use Rattle.std.proofs.Common.{rules, subst}
use Rattle.adf_partitions.specs.Disks.{IsFollowed, FirstDiskFault.at_list}
use Rattle.adf_partitions.proofs.OneAnswer.{no_fault}
use Rattle.adf_partitions.proofs.disk.Disk.open.Goals as goal

pub returns-in-Some-clause-first : goal.returns-in-Some-clause-first
returns-in-Some-clause-first c = λ some.
    let ps = c.in-Ok.partitions.items in
    let followed : IsFollowed c.args.bytes.now c.args.blocks c.in_ok-tables.tables ps c.in-Ok.field-0.fault = search rules in
    at_list c.in_ok-tables.ensures.tables (ps, subst (IsFollowed c.args.bytes.now c.args.blocks c.in_ok-tables.tables ps) c.in-Some.is followed)

pub returns-in-Some-clause-none : goal.returns-in-Some-clause-none
returns-in-Some-clause-none c = λ some t ps disk.
    let found = c.in-Ok.partitions.items in
    let followed : IsFollowed c.args.bytes.now c.args.blocks c.in_ok-tables.tables found c.in-Ok.field-0.fault = search rules in
    let cut = subst (IsFollowed c.args.bytes.now c.args.blocks c.in_ok-tables.tables found) c.in-Some.is followed in
    no_fault c.args.bytes.now c.args.blocks t ps c.in-Some.fault (at_list c.in_ok-tables.ensures.tables (found, cut)) disk
