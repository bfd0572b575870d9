-- A text has one plan at most. p, q are partitions, a, b plans, e, d what stands behind their lines.
use Rattle.std.proofs.Common.{◌≡◌, ◌∙◌, ◌&&◌, ℕ, Bool, true, false, List, [], ◌∷◌, Option, Some, ap₂, refl, sym, subst, arith}
use Rattle.std.proofs.lemmas.Grind.{common_steps}
use Rattle.adf_names.proofs.Spellings.{only_spelled}
use Rattle.adf_partitions.specs.{declared.file_system.FileSystem.FileSystem, declared.plan.PartitionPlan.PartitionPlan, Plans.PlanValue}
use Rattle.adf_plans.specs.declared.plan_line.Options.{Options}
use Rattle.adf_plans.specs.PlanTexts.{AreLines, HasLines, HasNoPartition, HasNoPlan, IsPartitionLine, IsPartitionText, IsText, before_byte}
use Rattle.adf_plans.specs.PlanTexts.{begins_with_end, behind_line, ends_plan, first_line, options_in}

one_some : {A : Type 0} (o : Option A) (x y : A) → o ≡ Some x → o ≡ Some y → x ≡ y
one_some o x y h k = cc

abbrev made : List ℕ → FileSystem → ℕ → Options → PartitionPlan
made name system cylinders o = record {
  name = name;
  system = system;
  cylinders = cylinders;
  bootable = o.bootable;
  priority = o.priority;
  given = o.given;
}

one_partition : (text : List ℕ) (p q : PartitionPlan) → IsPartitionText text p → IsPartitionText text q → p ≡ q
one_partition text p q h k =
    let name = only_spelled p.name q.name h.name.are_bytes k.name.are_bytes (sym h.name.spells ∙ k.name.spells) in
    let system = one_some _ p.system q.system h.system k.system in
    let cylinders = one_some _ p.cylinders q.cylinders h.cylinders k.cylinders in
    let options = one_some _ (options_in p) (options_in q) h.options k.options in
    let same : made p.name p.system p.cylinders (options_in p) ≡ made q.name q.system q.cylinders (options_in q) = cc in
    same

one_front : (left : List ℕ) (ps qs : List PartitionPlan) (e d : List ℕ) → AreLines left ps e → AreLines left qs d → HasNoPartition e → HasNoPartition d
    → (ps ≡ qs) × (e ≡ d)
unfolding AreLines
one_front left [] [] e d h k x y = (refl, sym h ∙ k)
one_front left [] (q ∷ qs) e d h k x y = absurd (x q (subst (λ (l : List ℕ). IsPartitionLine (first_line l) q) h k.0))
one_front left (p ∷ ps) [] e d h k x y = absurd (y p (subst (λ (l : List ℕ). IsPartitionLine (first_line l) p) k h.0))
one_front left (p ∷ ps) (q ∷ qs) e d h k x y = grind (arith, common_steps, one_partition, (one_front (behind_line left) ps qs e d h.1 k.1 x y))

plan : ℕ → ℕ → List PartitionPlan → PlanValue
plan sectors heads ps = record { sectors = sectors; heads = heads; partitions = ps }

one_end : (text : List ℕ) (a b : PlanValue) (e d : List ℕ) → HasLines text a e → HasLines text b d → (a ≡ b) × (e ≡ d)
unfolding plan
one_end text a b e d h k = grind (arith, common_steps, one_some, one_front, plan)

pub one_plan : (text : List ℕ) (a b : PlanValue) (c d : List ℕ) → IsText text a c → IsText text b d → (a ≡ b) × (c ≡ d)
one_plan text a b c d h k = grind (arith, common_steps, one_end)

pub no_end_in_nothing : begins_with_end [] ≡ false
unfolding before_byte
no_end_in_nothing = refl

-- and none, where its lines do not end, or no disk can have what they say
pub no_plan : (text : List ℕ) (a : PlanValue) (e : List ℕ) → HasLines text a e → ends_plan a e ≡ false → HasNoPlan text
no_plan text a e lines other b rest is =
    let same = one_end text a b e is.end lines is.lines in
    let ends : ends_plan b is.end ≡ true = ap₂ (λ (x y : Bool). x && y) is.ends is.good in
    let here : ends_plan a e ≡ true = ap₂ ends_plan same.0 same.1 ∙ ends in absurd cc
