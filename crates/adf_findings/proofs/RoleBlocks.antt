-- The block that a walk has at the place of a role, as a function.
-- Letters: w a walk; q, r, z roles; b, c blocks; i, j numbers of pages.
use Rattle.std.proofs.Common.{Bool, true, false, cond, Some, None, ◌&&◌, ◌≡◌, ℕ, List, [], ◌∷◌, inl, inr, refl, sym, subst, ◌∙◌, arith}
use Rattle.std.specs.Ordering.{is_eq, nat_cmp}
use Rattle.std.proofs.lemmas.Bool.{and_parts, cases_Bool, cond-false, cond-true, eqb-true, eq-eqb}
use Rattle.std.proofs.lemmas.Grind.{common_steps}
use Rattle.adf_tree.proofs.NameKeys.{same_number}
use Rattle.adf_volume.specs.Walk.{Role, Has, Lacks, Same, Walk, Role.Page}
use Rattle.adf_volume.proofs.{Gathered.IsGathered, Gathered.one_block, Roles.same_of, Roles.same_refl, Roles.same_role}
use Rattle.adf_findings.specs.Members.{at_role, is_same}

same_is : (r q : Role) → is_same r q ≡ true → Same r q
same_is r q h = grind (arith, common_steps, and_parts, eqb-true)

is_same_of : (r q : Role) → Same r q → is_same r q ≡ true
is_same_of r q s = λ i. eq-eqb _ _ s.0 i && (eq-eqb _ _ s.1 i && eq-eqb _ _ s.2 i)

-- only a page has the place of a page
pub other_place : (r : Role) (i : ℕ) → ((j : ℕ) → r ≡ Page j → ⊥) → is_same r (Page i) ≡ false
other_place r i other = grind (arith, common_steps, cases_Bool, same_role, same_is)

-- pages have one place if they have one number
pub page_place : (j i : ℕ) → is_eq (nat_cmp j i) ≡ is_same (Page j) (Page i)
page_place j i = grind (arith, common_steps, same_number, cases_Bool, is_same_of, same_of, eqb-true, same_is, eq-eqb)

pub at_lacks : (w : Walk) (q : Role) → Lacks w q → at_role w q ≡ None
at_lacks [] q l = refl
at_lacks (x ∷ w) q l = elim (cases_Bool (is_same x.0 q)) [
  | inl t ↦ absurd (l x.0 x.1 (inl (refl, refl)) (same_is x.0 q t))
  | inr f ↦ cond-false _ (Some x.1) (at_role w q) f ∙ at_lacks w q (λ z b h. l z b (inr h))
]

pub lacks_at : (w : Walk) (q : Role) → at_role w q ≡ None → Lacks w q
lacks_at [] q e z b h s = h
lacks_at (x ∷ w) q e z b h s = go (is_same x.0 q) refl e h (λ e h. lacks_at w q e z b h s)
  where
    go : (t : Bool) → is_same x.0 q ≡ t → cond t (Some x.1) (at_role w q) ≡ None → Has (x ∷ w) z b
        → (at_role w q ≡ None → Has w z b → ⊥) → ⊥
    go true t e h again = cc
    go false f e (inl g) again =
        let clash : true ≡ false = sym (is_same_of x.0 q (subst (λ r. Same r q) (sym g.0) s)) ∙ f in cc
    go false f e (inr g) again = again e g

pub at_has : (w : Walk) (q : Role) (b : ℕ) → at_role w q ≡ Some b → (r : Role) × Has w r b × Same r q
at_has [] q b e = cc
at_has (x ∷ w) q b e = elim (cases_Bool (is_same x.0 q)) [
  | inl t ↦ let z : x.1 ≡ b = (let some = sym (cond-true _ (Some x.1) (at_role w q) t) ∙ e in cc) in (x.0, inl (refl, z), same_is x.0 q t)
  | inr f ↦ let y = at_has w q b (sym (cond-false _ (Some x.1) (at_role w q) f) ∙ e) in (y.0, inr y.1, y.2)
]

-- it is that of the part with this role
pub taken_at : (image : List ℕ) (w : Walk) → IsGathered image w → (q : Role) (b : ℕ) → Has w q b → at_role w q ≡ Some b
taken_at image w v q b h = grind (arith, common_steps, lacks_at, same_refl, at_has, one_block)
