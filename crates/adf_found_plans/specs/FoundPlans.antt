-- Plans of volumes that were found. vs are volumes, c is the number of blocks of a cylinder.
use Rattle.std.specs.Prelude.{◌≡◌, ◌*◌, ◌<◌, ℕ, true, List, [], Some, get_or, length, slice_get}
use Rattle.adf_partitions.specs.{FileSystems.planned_type, Plans.PlanValue, Plans.cylinder_blocks, declared.found_volumes.FoundVolume.FoundVolume}
use Rattle.adf_partitions.specs.declared.plan.PartitionPlan.{PartitionPlan}
use Rattle.adf_plans.specs.PlanTexts.{IsText}

-- a volume is one of those that were found
abbrev pub IsOneOf : List FoundVolume → FoundVolume → Type 0
IsOneOf found v = (k : ℕ) × (k < length found) × (v ≡ get_or found k v)

-- a partition of a plan is that of a volume: given, of its type, and with as many blocks as were found
pub record IsPartitionOf (c : ℕ) (p : PartitionPlan) (v : FoundVolume) : Type 0 where
  pub given : p.given ≡ true
  pub type : planned_type p.system ≡ v.dos_type
  pub blocks : p.cylinders * c ≡ v.place.blocks

-- the first n partitions are those of the first n volumes
abbrev pub AreFirstOf : ℕ → ℕ → List PartitionPlan → List FoundVolume → Type 0
AreFirstOf n c ps vs = (k : ℕ) (p : PartitionPlan) (v : FoundVolume) → k < n → slice_get ps k ≡ Some p → slice_get vs k ≡ Some v → IsPartitionOf c p v

-- a text is read as a plan with a partition for each volume, in their order
pub record PlansVolumes (text : List ℕ) (vs : List FoundVolume) : Type 0 where
  pub plan : PlanValue
  pub read : IsText text plan []
  pub count : length plan.partitions ≡ length vs
  pub partitions : AreFirstOf (length vs) (cylinder_blocks plan) plan.partitions vs
