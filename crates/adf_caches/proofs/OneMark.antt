-- One mark more.
-- Letters: c, n entries.
use Rattle.std.specs.Prelude.{not, cond}
use Rattle.std.specs.List.{count_by}
use Rattle.std.proofs.Common.{◌≡◌, ◌<◌, ◌∙◌, ◌⊎◌, ℕ, Bool, true, false, List, ap, arith, inl, inr, length, set, subst, sym}
use Rattle.std.proofs.lemmas.Bool.{Decides.eqb_tells}
use Rattle.std.proofs.lemmas.List.{get_or-set_same, get_or-set_other, Sums.sum_by-set}
use Rattle.adf_findings.specs.Members.{has_mark}

-- how many entries have no mark
abbrev pub unmarked : List Bool → ℕ
unmarked marks = count_by not marks

pub fewer_unmarked : (marks : List Bool) (n : ℕ) → n < length marks → has_mark marks n ≡ false → unmarked (set marks n true) < unmarked marks
fewer_unmarked marks n lt free =
    let weight : Bool → ℕ = λ x. cond (not x) 1 0 in
    let e = sum_by-set weight marks n true false lt in
    let one = ap weight free in
    omega (arith, e, one)

module _ (marks : List Bool) (c : ℕ) (lt : c < length marks) where
  pub mark_set : has_mark (set marks c true) c ≡ true
  mark_set = get_or-set_same marks c true false lt

  pub mark_kept : (n : ℕ) → has_mark marks n ≡ true → has_mark (set marks c true) n ≡ true
  mark_kept n h = elim (eqb_tells n c) [
    | inl y ↦ subst (λ i. has_mark (set marks c true) i ≡ true) (sym y.1) mark_set
    | inr y ↦ get_or-set_other marks c n true false y.1 ∙ h
  ]

  -- a mark is the new one or one from before
  pub mark_from : (n : ℕ) → has_mark (set marks c true) n ≡ true → (n ≡ c) ⊎ (has_mark marks n ≡ true)
  mark_from n h = elim (eqb_tells n c) [
    | inl y ↦ inl y.1
    | inr y ↦ inr (sym (get_or-set_other marks c n true false y.1) ∙ h)
  ]
