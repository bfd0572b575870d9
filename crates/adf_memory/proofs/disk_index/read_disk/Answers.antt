use Rattle.adf_partitions.proofs.NamedPartitions.{has_readable}
use Rattle.adf_memory.proofs.disk_index.read_disk.Goals as goal

pub returns-in_ok-readable_partitions-in_default-clause-read : goal.returns-in_ok-readable_partitions-in_default-clause-read
returns-in_ok-readable_partitions-in_default-clause-read c =
    (c.in_ok-readable_partitions-in_default.ensures.readable, c.in-Err.ensures.first c.in_default.not-NoMemory)

pub returns-in-NoMemory-clause-begun : goal.returns-in-NoMemory-clause-begun
returns-in-NoMemory-clause-begun c =
    let (t, tables, named) = c.in-Err.ensures.begun c.in-NoMemory.is in
    has_readable c.args.bytes.now c.args.blocks t tables named
