-- The tables of a plan and the volumes behind them.
-- Letters: c the blocks of a cylinder, vs the volumes of ps, qs partitions that are read.
use Rattle.std.proofs.Common.{◌≡◌, ◌≤◌, ◌<◌, ◌+◌, ◌*◌, ◌∙◌, ℕ, List, [], ◌∷◌, ◌++◌, get_or, length, subst, sym, arith, ap, ap₂, append_assoc, drop, length-append}
use Rattle.std.proofs.{Common.slice_range, Math.Seq.drop-cons, lemmas.Grind.common_steps}
use Rattle.std.specs.List.{flat_map}
use Rattle.std.proofs.lemmas.List.{drop_all, drop_at, take_at}
use Rattle.adf_partitions.specs.{declared.partition.Partition.Partition, declared.plan.PartitionPlan.PartitionPlan, Places.blocks_from, Places.end_of}
use Rattle.adf_partitions.specs.Plans.{PlanValue, AreTablesOfPlan, AreVolumes, StandInPlaces, cylinder_blocks, cylinders_of, partitions_from, planned_blocks}
use Rattle.adf_partitions.specs.{Disks.IsDisk, declared.tables.Tables.Tables}
use Rattle.adf_partitions.proofs.TablesEnough.{disk_tells}
use Rattle.adf_partitions.specs.Plans.{planned_partition, planned_partitions, table_cylinders}

length_volumes : (c : ℕ) (ps : List PartitionPlan) (vs : List (List ℕ)) → AreVolumes c ps vs
    → length (flat_map (λ (v : List ℕ). v) vs) ≡ cylinders_of ps * c * 512
unfolding cylinders_of
length_volumes c [] [] h = omega arith
length_volumes c (p ∷ ps) (v ∷ vs) h =
    omega (arith, h.0, length_volumes c ps vs h.1, length-append v (flat_map (λ (v : List ℕ). v) vs))
length_volumes c [] (v ∷ vs) h = absurd h
length_volumes c (p ∷ ps) [] h = absurd h

-- what stands behind a front
behind : (front v rest : List ℕ) (a b : ℕ) → length front ≡ a → b ≡ a + length v → slice_range (front ++ (v ++ rest)) a b ≡ v
behind front v rest a b e n = grind (arith, common_steps, drop_at, take_at)

stand_volumes : (front : List ℕ) (c k low : ℕ) (ps : List PartitionPlan) (vs : List (List ℕ)) → length front ≡ low * c * 512 → AreVolumes c ps vs
    → StandInPlaces (front ++ flat_map (λ (v : List ℕ). v) vs) (partitions_from c k low ps) vs
unfolding partitions_from
stand_volumes front c k low [] [] e h = tt
stand_volumes front c k low (p ∷ ps) (v ∷ vs) e h =
    let rest = flat_map (λ (v : List ℕ). v) vs in
    let q = blocks_from (low * c) (p.cylinders * c) in
    let longer : length (front ++ v) ≡ (low + p.cylinders) * c * 512 = omega (arith, length-append front v, h.0) in (
      behind front v rest (q.first * 512) (end_of q * 512) e (omega (arith, h.0)),
      subst (λ (x : List ℕ). StandInPlaces x (partitions_from c (k + 1) (low + p.cylinders) ps) vs) (append_assoc front v rest)
          (stand_volumes (front ++ v) c (k + 1) (low + p.cylinders) ps vs longer h.1),
    )
stand_volumes front c k low [] (v ∷ vs) e h = absurd h
stand_volumes front c k low (p ∷ ps) [] e h = absurd h

module _ (plan : PlanValue) (tables : List ℕ) (vs : List (List ℕ)) (of : AreTablesOfPlan plan tables)
    (are : AreVolumes (cylinder_blocks plan) plan.partitions vs) where
  pub disk_size : length (tables ++ flat_map (λ (v : List ℕ). v) vs) ≡ planned_blocks plan * 512
  disk_size = grind (arith, common_steps, length_volumes, length-append, of.size)

  pub volumes_stand : StandInPlaces (tables ++ flat_map (λ (v : List ℕ). v) vs) (planned_partitions plan) vs
  volumes_stand = stand_volumes tables (cylinder_blocks plan) 1 (table_cylinders plan) plan.partitions vs of.size are

module _ (plan : PlanValue) (read : List Partition) where
  -- the partitions that are read up to one are the planned ones, if those behind are
  abbrev pub AreUpTo : (i low : ℕ) → Type 0
  AreUpTo i low = drop i read ≡ partitions_from (cylinder_blocks plan) (i + 1) low (drop i plan.partitions) → read ≡ planned_partitions plan

-- one partition more
partition_more : (c b low : ℕ) (ps : List PartitionPlan) (qs : List Partition) (p : PartitionPlan) (q : Partition) → q ≡ planned_partition c b low p
    → qs ≡ partitions_from c (b + 1) (low + p.cylinders) ps → q ∷ qs ≡ partitions_from c b low (p ∷ ps)
unfolding partitions_from
partition_more c b low ps qs p q e f = ap₂ (λ (x : Partition) (xs : List Partition). x ∷ xs) e f

pub up_to_more : (plan : PlanValue) (read : List Partition) (i low : ℕ) (p : PartitionPlan) (q : Partition) → AreUpTo plan read i low
    → drop i plan.partitions ≡ p ∷ drop (i + 1) plan.partitions → drop i read ≡ q ∷ drop (i + 1) read
    → q ≡ planned_partition (cylinder_blocks plan) (i + 1) low p → AreUpTo plan read (i + 1) (low + p.cylinders)
up_to_more plan read i low p q h at there same = λ rest.
    h (there ∙ (partition_more (cylinder_blocks plan) (i + 1) low (drop (i + 1) plan.partitions) (drop (i + 1) read) p q same rest
    ∙ ap (partitions_from (cylinder_blocks plan) (i + 1) low) (sym at)))

-- none is left
pub none_left : (c b low i : ℕ) (ps : List PartitionPlan) (qs : List Partition) → length ps ≤ i → length qs ≤ i
    → drop i qs ≡ partitions_from c b low (drop i ps)
unfolding partitions_from
none_left c b low i ps qs le less = grind (arith, common_steps, drop_all)

-- what is read so stands in front of any bytes
pub read_back : (plan : PlanValue) (bytes : List ℕ) → length bytes ≡ table_cylinders plan * cylinder_blocks plan * 512
    → (t : Tables) × IsDisk bytes (planned_blocks plan) t (planned_partitions plan) → AreTablesOfPlan plan bytes
read_back plan bytes size (t, disk) =
    record { size = size; read = λ rest. (t, disk_tells bytes rest (planned_blocks plan) t (planned_partitions plan) disk) }

-- what is left from a partition on
pub left_at : (ps : List Partition) (i : ℕ) (p : Partition) → i < length ps → p ≡ get_or ps i p → drop i ps ≡ p ∷ drop (i + 1) ps
left_at ps i p lt e = grind (arith, common_steps, drop-cons, ap₂)
