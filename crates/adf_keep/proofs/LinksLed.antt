-- Links that chains of links lead to.
-- Letters: b the block of a link; t that of the header that it leads to.
use Rattle.std.proofs.Common.{◌≡◌, ◌<◌, ◌≤◌, ℕ, List, arith, get_or, inl, inr, length, set, subst, sym, ◌∙◌, ap}
use Rattle.std.proofs.Math.ListN.{replicate}
use Rattle.std.proofs.lemmas.Bool.{cases_lt}
use Rattle.std.proofs.lemmas.List.{get_or_past, get_or-replicate, get_or-set_other, get_or-set_same, length-replicate}
use Rattle.adf_keep.specs.Links.{AreLed, IsInLinkChain}
use Rattle.adf_keep.proofs.ClaimMarks.{same_or_not}

pub led_more : (image : List ℕ) (led : List ℕ) (b t : ℕ) → b < length led → AreLed image led → IsInLinkChain image t b → AreLed image (set led b t)
led_more image led b t within are new = λ n low. elim (same_or_not n b) [
  | inl same ↦
      let is : get_or (set led b t) n 0 ≡ t = ap (λ m. get_or (set led b t) m 0) same ∙ get_or-set_same led b t 0 within in
      subst (λ q. IsInLinkChain image q n) (sym is) (subst (λ m. IsInLinkChain image t m) (sym same) new)
  | inr other ↦
      let is : get_or (set led b t) n 0 ≡ get_or led n 0 = get_or-set_other led b n t 0 other in
      subst (λ q. IsInLinkChain image q n) (sym is) (are n (subst (λ q. 1 ≤ q) is low))
]

pub none_led : (image : List ℕ) (n : ℕ) → AreLed image (replicate n 0)
none_led image n = λ b low. elim (cases_lt b n) [
  | inl lt ↦ let none = get_or-replicate {A = ℕ} n b 0 0 lt in absurd (omega (arith, none))
  | inr ge ↦ let none = get_or_past {X = ℕ} (replicate n 0) b 0 (omega (arith, length-replicate {A = ℕ} n 0)) in absurd (omega (arith, none))
]
