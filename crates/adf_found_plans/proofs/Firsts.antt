-- Partitions of volumes, one after the other. ps are partitions, vs are volumes, c is the number of blocks of a cylinder.
use native.Mathlib.Decide.{dec_lt}
use Rattle.std.proofs.Common.{All, subst, ◌≡◌, ◌<◌, ◌+◌, ◌++◌, ◌∷◌, [], ℕ, List, Some, get_or, length, slice_get, arith}
use Rattle.std.proofs.lemmas.List.Elements.{All-push}
use Rattle.adf_partitions.specs.{declared.found_volumes.FoundVolume.FoundVolume, declared.plan.PartitionPlan.PartitionPlan}
use Rattle.adf_found_plans.specs.FoundPlans.{AreFirstOf, IsOneOf, IsPartitionOf, PlansVolumes}
use Rattle.adf_partitions.specs.Plans.{PlanValue, cylinder_blocks}
use Rattle.adf_plans.specs.PlanTexts.{IsText}

-- one partition more is that of its volume
pub one_more : (n c : ℕ) (ps : List PartitionPlan) (vs : List FoundVolume) (p : PartitionPlan) (v : FoundVolume) → slice_get ps n ≡ Some p
    → slice_get vs n ≡ Some v → IsPartitionOf c p v → AreFirstOf n c ps vs → AreFirstOf (n + 1) c ps vs
one_more n c ps vs p v at there is before k q w lt atk therek = grind arith

-- one volume more is one of those that were found
pub found_more : (found vs : List FoundVolume) (v : FoundVolume) (n : ℕ) → All (IsOneOf found) vs → n < length found → v ≡ get_or found n v
    → All (IsOneOf found) (vs ++ v ∷ [])
found_more found vs v n all lt is = All-push (IsOneOf found) vs v all (n, lt, is)

-- what was read of a text to its end is the plan of volumes
pub read_whole : (text rest : List ℕ) (plan : PlanValue) (vs : List FoundVolume) → IsText text plan rest → rest ≡ []
    → length plan.partitions ≡ length vs → AreFirstOf (length vs) (cylinder_blocks plan) plan.partitions vs → PlansVolumes text vs
read_whole text rest plan vs read none count partitions =
    record { plan = plan; read = subst (λ (end : List ℕ). IsText text plan end) none read; count = count; partitions = partitions }
