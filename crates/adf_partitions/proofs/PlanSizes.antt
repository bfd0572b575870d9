-- The sizes of a plan.
use Rattle.std.proofs.Common.{◌≡◌, ◌≤◌, ◌<◌, ◌+◌, ◌*◌, ◌/◌, ◌^◌, ◌∙◌, ℕ, List, ◌∷◌, drop, get_or, length, ap, ap₂, refl, arith}
use Rattle.std.proofs.{lemmas.Bool.cases_lt, lemmas.List.drop_all, Math.Seq.drop-cons, Math.Nat.div-add-mod, lemmas.Grind.common_steps}
use Rattle.std.proofs.lemmas.Nat.{mod_below, mul-le}
use Rattle.adf_partitions.specs.Plans.{PlanValue, IsPlan, cylinder_blocks, cylinders_of, planned_cylinders, table_cylinders}
use Rattle.adf_partitions.specs.declared.plan.PartitionPlan.{PartitionPlan}

-- the cylinders of n blocks behind one more
enough : (n c : ℕ) → 1 ≤ c → n + 1 ≤ (n + c) / c * c
enough n c pos = grind (arith, common_steps, div-add-mod, mod_below)

factor_positive : (a c : ℕ) → 1 ≤ a * c → 1 ≤ a
factor_positive a c h = grind (arith, common_steps, cases_lt, mul-le)

pub cylinders_more : (p : PartitionPlan) (ps : List PartitionPlan) → cylinders_of (p ∷ ps) ≡ p.cylinders + cylinders_of ps
unfolding cylinders_of
cylinders_more p ps = refl

-- what is left from a partition on
pub plans_at : (ps : List PartitionPlan) (i : ℕ) (p : PartitionPlan) → i < length ps → p ≡ get_or ps i p → drop i ps ≡ p ∷ drop (i + 1) ps
plans_at ps i p lt e = grind (arith, common_steps, drop-cons, ap₂)

pub cylinders_at : (ps : List PartitionPlan) (i : ℕ) (p : PartitionPlan) → i < length ps → p ≡ get_or ps i p
    → cylinders_of (drop i ps) ≡ p.cylinders + cylinders_of (drop (i + 1) ps)
cylinders_at ps i p lt e = ap cylinders_of (plans_at ps i p lt e) ∙ cylinders_more p (drop (i + 1) ps)

pub cylinders_end : (ps : List PartitionPlan) (i : ℕ) → length ps ≤ i → cylinders_of (drop i ps) ≡ 0
unfolding cylinders_of
cylinders_end ps i le = ap cylinders_of (drop_all i ps le)

module _ (plan : PlanValue) (h : IsPlan plan) where
  pub some_blocks : 1 ≤ cylinder_blocks plan
  some_blocks = omega (arith, mul-le 1 1 plan.heads plan.sectors h.heads h.sectors)

  -- the tables hold the rigid disk block and the partition blocks
  pub tables_hold : length plan.partitions + 1 ≤ table_cylinders plan * cylinder_blocks plan
  tables_hold = enough (length plan.partitions) (cylinder_blocks plan) some_blocks

  pub some_cylinders : 1 ≤ table_cylinders plan
  some_cylinders = factor_positive (table_cylinders plan) (cylinder_blocks plan) (omega (arith, tables_hold))

  -- so many cylinders have fewer blocks than 2 ^ 32
  pub blocks_fit : (k : ℕ) → k ≤ planned_cylinders plan → k * cylinder_blocks plan < 2 ^ 32
  blocks_fit k le = omega (arith, h.size, mul-le k (cylinder_blocks plan) (planned_cylinders plan) (cylinder_blocks plan) le (omega arith))

  pub cylinder_fits : cylinder_blocks plan < 2 ^ 32
  cylinder_fits = omega (arith, blocks_fit 1 (omega (arith, some_cylinders)))

  pub cylinders_fit : planned_cylinders plan < 2 ^ 32
  cylinders_fit = omega (arith, h.size, mul-le (planned_cylinders plan) 1 (planned_cylinders plan) (cylinder_blocks plan) (omega arith) some_blocks)

  pub heads_fit : plan.heads < 2 ^ 32
  heads_fit = omega (arith, cylinder_fits, mul-le plan.heads 1 plan.heads plan.sectors (omega arith) h.sectors)

  pub sectors_fit : plan.sectors < 2 ^ 32
  sectors_fit = omega (arith, cylinder_fits, mul-le 1 plan.sectors plan.heads plan.sectors h.heads (omega arith))

  pub kept_fit : table_cylinders plan < 2 ^ 32
  kept_fit = omega (arith, cylinders_fit)

-- the cylinders of all partitions of a plan, added up
pub ruleset cylinder_sums = (cylinders_at, cylinders_end, cylinders_fit)
