-- The lines of a plan's text. left is what is left of a text, ps its partitions, e the text behind their lines.
use Rattle.std.proofs.Common.{◌≡◌, ◌<◌, ℕ, true, List, [], ◌∷◌, ◌++◌, length, refl, subst, arith, append-nil, append_assoc, length-drop}
use Rattle.std.proofs.Common.{All}
use Rattle.std.proofs.{lemmas.Bool.and_parts, lemmas.Bool.leb-true, lemmas.Bool.ltb-true, lemmas.Grind.common_steps}
use Rattle.adf_partitions.specs.{declared.plan.PartitionPlan.PartitionPlan, Plans.IsPartitionPlan, Plans.IsPlan, Plans.PlanValue}
use Rattle.adf_plans.specs.PlanTexts.{AreLines, IsPartitionLine, IsPartitionText}
use Rattle.adf_plans.specs.PlanTexts.{before_byte, behind_byte, behind_line, first_line, is_plan}

-- no line of a partition is empty
pub no_empty_line : (p : PartitionPlan) → ¬ IsPartitionLine (first_line []) p
unfolding before_byte
no_empty_line p h = let w = h.word in absurd cc

pub shorter : (c : ℕ) (xs : List ℕ) → 0 < length xs → length (behind_byte c xs) < length xs
unfolding behind_byte
shorter c xs lt = omega (arith, length-drop {A = ℕ})

-- a line of a partition takes bytes
pub line_taken : (left : List ℕ) (p : PartitionPlan) → IsPartitionLine (first_line left) p → length (behind_line left) < length left
line_taken [] p h = absurd (no_empty_line p h)
line_taken (x ∷ xs) p h = shorter 10 (x ∷ xs) (omega arith)

-- the lines of what is left, behind those of partitions, are the lines of all
abbrev pub Continues : List ℕ → List PartitionPlan → List ℕ → Type 0
Continues text ps left = (qs : List PartitionPlan) (e : List ℕ) → AreLines left qs e → AreLines text (ps ++ qs) e

pub line_added : (text left : List ℕ) (ps : List PartitionPlan) (p : PartitionPlan) → Continues text ps left → IsPartitionLine (first_line left) p
    → Continues text (ps ++ p ∷ []) (behind_line left)
unfolding AreLines
line_added text left ps p all is = grind (arith, common_steps, append_assoc)

pub lines_ended : (text left : List ℕ) (ps : List PartitionPlan) → Continues text ps left → AreLines text ps left
unfolding AreLines
lines_ended text left ps all = subst (λ (k : List PartitionPlan). AreLines text k left) (append-nil ps) (all [] left refl)

-- partitions of lines can be made
pub plan_of_text : (text : List ℕ) (p : PartitionPlan) → IsPartitionText text p → IsPartitionPlan p
plan_of_text text p h = record { some = h.some; short = h.name.short; name = h.bytes; cylinders = h.size; priority = h.priority }

first_and_others : (p : PartitionPlan) (ps : List PartitionPlan) → IsPartitionPlan p → All IsPartitionPlan ps → All IsPartitionPlan (p ∷ ps)
first_and_others p ps one others = grind (arith, common_steps)

pub plans_of_lines : (left : List ℕ) (ps : List PartitionPlan) (e : List ℕ) → AreLines left ps e → All IsPartitionPlan ps
unfolding AreLines
plans_of_lines left [] e h = λ k d lt. absurd (omega arith)
plans_of_lines left (p ∷ ps) e h = grind (arith, common_steps, first_and_others, plan_of_text, (plans_of_lines (behind_line left) ps e h.1))

pub is_plan-tells : (plan : PlanValue) (left end : List ℕ) → AreLines left plan.partitions end → is_plan plan ≡ true → IsPlan plan
is_plan-tells plan left end lines h = grind (arith, common_steps, and_parts, leb-true, plans_of_lines, ltb-true)
