use Rattle.std.proofs.Common.{◌*◌, leb, rules}
use Rattle.std.proofs.lemmas.List.Sorted.{IsPartitionPoint-from_clause, IsPartitionedBy-leb}
use Rattle.adf_maps.specs.declared.hole.Hole.{Hole}
use Rattle.adf_maps.proofs.map.holes_before.Goals as goal

pub returns : goal.returns
returns c = IsPartitionPoint-from_clause (λ (h : Hole). leb h.end (c.args.block * 512)) _ _ c.partition_point.ensures.partitioned
    (IsPartitionedBy-leb (λ (h : Hole). h.end) c.args.holes.now (c.args.block * 512) c.requires.ends) (λ a r q k. search rules)
