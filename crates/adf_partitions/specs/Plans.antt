-- Plans of hard disks. p is the plan of a partition, c the number of blocks of a cylinder, low a partition's lowest cylinder.
use Rattle.std.specs.Prelude.{◌≡◌, ◌≤◌, ◌<◌, ◌+◌, ◌*◌, ◌/◌, ◌^◌, ℕ, true, List, [], ◌∷◌, ◌++◌, All, IfOk, None, Ok, length, slice_range, FitsSigned, if◌then◌else◌}
use Rattle.std.specs.{Int.w8, List.list_all}
use Rattle.adf_names.specs.Texts.{is_name_byte}
use Rattle.adf_partitions.specs.{Disks.IsDisk, FileSystems.planned_type, Places.blocks_from, Places.end_of, declared.tables.Tables.Tables}
use Rattle.adf_partitions.specs.declared.layout.TheConstants.{BOOTABLE, MOST_PARTITIONS}
use Rattle.adf_partitions.specs.{declared.partition.Partition.Partition, declared.plan.DiskPlan.DiskPlan, declared.plan.PartitionPlan.PartitionPlan}

-- a plan
pub record PlanValue : Type 0 where
  pub sectors : ℕ
  pub heads : ℕ
  pub partitions : List PartitionPlan

-- the value of a plan in the code
abbrev pub plan_value : DiskPlan → PlanValue
plan_value plan = record { sectors = plan.sectors; heads = plan.heads; partitions = plan.partitions.items }

-- the flags of a partition
abbrev pub planned_flags : PartitionPlan → ℕ
planned_flags p = if p.bootable then BOOTABLE else 0

-- the blocks of a cylinder
abbrev pub cylinder_blocks : PlanValue → ℕ
cylinder_blocks plan = plan.heads * plan.sectors

-- the cylinders of the tables: as many as hold the rigid disk block and a block for each partition
abbrev pub table_cylinders : PlanValue → ℕ
table_cylinders plan = (length plan.partitions + cylinder_blocks plan) / cylinder_blocks plan

-- the cylinders of partitions
unfoldable pub cylinders_of : List PartitionPlan → ℕ
cylinders_of [] = 0
cylinders_of (p ∷ ps) = p.cylinders + cylinders_of ps

-- the cylinders of a disk
abbrev pub planned_cylinders : PlanValue → ℕ
planned_cylinders plan = table_cylinders plan + cylinders_of plan.partitions

-- the blocks of a disk
abbrev pub planned_blocks : PlanValue → ℕ
planned_blocks plan = planned_cylinders plan * cylinder_blocks plan

-- a partition has a name, a cylinder and a boot priority of one byte
pub record IsPartitionPlan (p : PartitionPlan) : Type 0 where
  pub some : 1 ≤ length p.name
  pub short : length p.name ≤ 31
  pub name : list_all is_name_byte p.name ≡ true
  pub cylinders : 1 ≤ p.cylinders
  pub priority : FitsSigned w8 p.priority

-- a disk can have this plan: it has fewer than 2 ^ 32 blocks
pub record IsPlan (plan : PlanValue) : Type 0 where
  pub sectors : 1 ≤ plan.sectors
  pub heads : 1 ≤ plan.heads
  pub few : length plan.partitions ≤ MOST_PARTITIONS
  pub partitions : All IsPartitionPlan plan.partitions
  pub size : planned_blocks plan < 2 ^ 32

-- the partition that a reader finds in block b, from cylinder `low` on
abbrev pub planned_partition : ℕ → ℕ → ℕ → PartitionPlan → Partition
planned_partition c b low p = record {
  block = b;
  name = p.name;
  flags = planned_flags p;
  priority = p.priority;
  dos_type = planned_type p.system;
  reserved = 2;
  preallocated = 0;
  sector_words = 128;
  block_sectors = 1;
  place = Ok (blocks_from (low * c) (p.cylinders * c));
  fault = None;
}

-- the partitions from block b and cylinder `low` on, one behind the other
unfoldable pub partitions_from : ℕ → ℕ → ℕ → List PartitionPlan → List Partition
partitions_from c b low [] = []
partitions_from c b low (p ∷ ps) = planned_partition c b low p ∷ partitions_from c (b + 1) (low + p.cylinders) ps

-- the partitions that a reader finds
abbrev pub planned_partitions : PlanValue → List Partition
planned_partitions plan = partitions_from (cylinder_blocks plan) 1 (table_cylinders plan) plan.partitions

-- volumes of the sizes of partitions
abbrev pub AreVolumes : ℕ → List PartitionPlan → List (List ℕ) → Type 0
AreVolumes c [] [] = Unit {0}
AreVolumes c (p ∷ ps) (v ∷ vs) = (length v ≡ p.cylinders * c * 512) × AreVolumes c ps vs
AreVolumes c _ _ = ⊥

-- the bytes have each volume at the place of its partition
abbrev pub StandInPlaces : List ℕ → List Partition → List (List ℕ) → Type 0
StandInPlaces bytes [] [] = Unit {0}
StandInPlaces bytes (q ∷ qs) (v ∷ vs) = IfOk q.place (λ r. slice_range bytes (r.first * 512) (end_of r * 512) ≡ v) × StandInPlaces bytes qs vs
StandInPlaces bytes _ _ = ⊥

-- these bytes are the tables of a plan: a reader finds the planned partitions, whatever stands behind them, and the volumes begin there
pub record AreTablesOfPlan (plan : PlanValue) (bytes : List ℕ) : Type 0 where
  pub size : length bytes ≡ table_cylinders plan * cylinder_blocks plan * 512
  pub read : (rest : List ℕ) → (t : Tables) × IsDisk (bytes ++ rest) (planned_blocks plan) t (planned_partitions plan)
