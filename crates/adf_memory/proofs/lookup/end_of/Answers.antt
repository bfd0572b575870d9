use Rattle.std.proofs.{Common.rules, Common.nat_le, lemmas.List.Sorted.IsPartitionPoint-from_clause, lemmas.List.Sorted.IsPartitionedBy-leb}
use Rattle.adf_tree.specs.Tree.{rank_of}
use Rattle.adf_memory.specs.TableNames.{rank_in_by}
use Rattle.adf_memory.proofs.lookup.end_of.Goals as goal

pub returns-clause-parted : goal.returns-clause-parted
returns-clause-parted c = λ up.
    IsPartitionPoint-from_clause (λ x. nat_le (rank_in_by c.args.letters x) (rank_of c.args.parent c.args.slot)) c.args.entries.now
    c.partition_point.result c.partition_point.ensures.partitioned
    (IsPartitionedBy-leb (rank_in_by c.args.letters) c.args.entries.now (rank_of c.args.parent c.args.slot) up) (λ a r q k. search rules)
