use Rattle.std.proofs.Common.{◌≤◌, ◌-◌, leb, rules}
use Rattle.std.proofs.lemmas.List.Sorted.{IsPartitionPoint-from_clause, IsPartitionedBy-leb}
use Rattle.adf_volume.specs.{declared.node_start.NodeStart.NodeStart, Places.IsLastStart, Places.first_ext}
use Rattle.adf_volume.proofs.{KeptPlaces.last_found, KeptPlaces.last_is, kept_places.file_of_ext.Goals.After-partition_point}
use Rattle.adf_volume.proofs.kept_places.file_of_ext.Goals as goal

found : (c : After-partition_point)
    → (1 ≤ c.partition_point.result) × IsLastStart first_ext c.args.starts.now c.args.place (c.partition_point.result - 1)
found c =
    let at = λ (x : NodeStart). leb (first_ext x) c.args.place in
    let parted = IsPartitionedBy-leb first_ext c.args.starts.now c.args.place c.requires.rising in
    last_found first_ext c.args.starts.now c.args.place c.partition_point.result c.requires c.partition_point.ensures.bound
    (IsPartitionPoint-from_clause at _ _ c.partition_point.ensures.partitioned parted (λ a r q k. search rules))

pub overflow_sub-result : goal.overflow_sub-result
overflow_sub-result c = (found c).0

pub returns : goal.returns
returns c = record { last = (found c).1; node = last_is first_ext c.args.starts.now c.args.place (c.partition_point.result - 1) c.requires (found c).1 }
