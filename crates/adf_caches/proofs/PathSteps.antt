-- Ways from one number to another.
-- Letters: right, next as in Paths; a, b, c numbers; xs, bs, cs those on a way; k the most of them.
use Rattle.std.specs.Prelude.{◌==◌, ◌||◌, Option, Some, None, option_map}
use Rattle.std.specs.List.{list_any}
use Rattle.std.proofs.Common.{◌≡◌, ◌≤◌, ◌∙◌, ℕ, zero, suc, Bool, true, false, List, [], ◌∷◌, ◌++◌, ap, arith, inl, inr, length, refl, subst, sym}
use Rattle.std.proofs.lemmas.Bool.{cases_Bool, cond-false, cond-true, eq-eqb, eqb-true}
use Rattle.std.proofs.lemmas.Grind.{common_steps}
use Rattle.adf_caches.specs.Paths.{IsPath, IsPath.ends, IsPath.goes, way_by}

module _ (right : ℕ → Bool) (next : ℕ → ℕ) where
  -- two ways, one behind the other
  pub joined_path : {a b c : ℕ} {xs bs : List ℕ} → IsPath right next a xs b → IsPath right next b bs c → IsPath right next a (xs ++ bs) c
  joined_path ends q = q
  joined_path (goes r p) q = goes r (joined_path p q)

  -- one step more
  pub longer_path : {a b : ℕ} {xs : List ℕ} → IsPath right next a xs b → right b ≡ true → IsPath right next a (xs ++ b ∷ []) (next b)
  longer_path p r = joined_path p (goes r ends)

-- what is made of something
mapped : (f : List ℕ → List ℕ) (o : Option (List ℕ)) (bs : List ℕ) → option_map f o ≡ Some bs → (l : List ℕ) × (o ≡ Some l) × (f l ≡ bs)
mapped f (Some l) bs h = let same : f l ≡ bs = cc in (l, refl, same)
mapped f None bs h = cc

module _ (right : ℕ → Bool) (next : ℕ → ℕ) (not_zero : right 0 ≡ false) where
  clashes : {b : ℕ} → right b ≡ true → b ≡ 0 → ⊥
  clashes {b} r e = let same : right b ≡ right 0 = ap right e in cc

  ends_at : (b : ℕ) (bs : List ℕ) → b ≡ 0 → Some [] ≡ Some bs → IsPath right next b bs 0
  ends_at b bs e h =
      let none : [] ≡ bs = cc in
      subst (λ n. IsPath right next n bs 0) (sym e) (subst (λ l. IsPath right next 0 l 0) none ends)

  -- no way leads on from 0
  none_behind : {bs : List ℕ} {b c : ℕ} → IsPath right next b bs c → b ≡ 0 → bs ≡ []
  none_behind ends e = refl
  none_behind (goes r p) e = absurd (clashes r e)

  -- a way to 0 goes on where another one ends
  pub rest_of_path : {a b c : ℕ} {xs bs : List ℕ} → IsPath right next a xs c → c ≡ 0 → IsPath right next a bs b
      → (cs : List ℕ) × IsPath right next b cs c × (xs ≡ bs ++ cs)
  rest_of_path {xs = xs} p e ends = (xs, p, refl)
  rest_of_path ends e (goes r q) = absurd (clashes r e)
  rest_of_path (goes {b = b} s p) e (goes r q) = let more = rest_of_path p e q in (more.0, more.1, ap (λ l. b ∷ l) more.2)

  -- two ways to 0 are as long
  one_length : {a : ℕ} {xs bs : List ℕ} → IsPath right next a xs 0 → IsPath right next a bs 0 → length xs ≡ length bs
  one_length {xs = xs} {bs = bs} p q =
      let rest = rest_of_path p refl q in
      let none = none_behind rest.1 refl in
      grind (arith, common_steps)

  -- where a way comes back, none leads to 0
  pub no_way_round : {a b : ℕ} {bs : List ℕ} → IsPath right next a bs b → list_any (λ c. c == b) bs ≡ true
      → (xs : List ℕ) → IsPath right next a xs 0 → ⊥
  no_way_round ends h xs p = cc
  no_way_round {a} {b} (goes {bs = bs} r q) h xs p = elim (cases_Bool (a == b)) [
    | inl y ↦
        let same : a ≡ b = eqb-true a b y in
        let rest = rest_of_path p refl (goes r q) in
        let again = subst (λ n. IsPath right next n rest.0 0) (sym same) rest.1 in
        let size : length xs ≡ length rest.0 = one_length p again in
        let more = ap length rest.2 in
        grind (arith, common_steps)
    | inr y ↦
        let rest = rest_of_path p refl (goes r ends) in
        let later : list_any (λ c. c == b) bs ≡ true = sym (ap (λ t. t || list_any (λ c. c == b) bs) y) ∙ h in
        no_way_round q later rest.0 rest.1
  ]

  nonzero : {b : ℕ} → right b ≡ true → (b == 0) ≡ false
  nonzero {b} r = elim (cases_Bool (b == 0)) [ inl y ↦ absurd (clashes r (eqb-true b 0 y)) | inr y ↦ y ]

  -- the chain is the way
  pub chain_of_path : {b c : ℕ} {bs : List ℕ} → IsPath right next b bs c → c ≡ 0 → (k : ℕ) → length bs ≤ k → way_by right next k b ≡ Some bs
  chain_of_path {b} ends e zero few = cond-true (b == 0) (Some []) None (eq-eqb b 0 e)
  chain_of_path {b} ends e (suc k) few = cond-true (b == 0) (Some []) _ (eq-eqb b 0 e)
  chain_of_path (goes r p) e zero few = absurd (omega (arith, few))
  chain_of_path {b} (goes {bs = bs} r p) e (suc k) few =
      cond-false (b == 0) (Some []) _ (nonzero r)
      ∙ (cond-true (right b) _ None r
      ∙ ap (option_map (λ l. b ∷ l)) (chain_of_path p e k (omega (arith, few))))

  -- and the way is the chain
  pub path_of_chain : (k b : ℕ) (bs : List ℕ) → way_by right next k b ≡ Some bs → IsPath right next b bs 0
  path_of_chain zero b bs h = elim (cases_Bool (b == 0)) [
    | inl y ↦ ends_at b bs (eqb-true b 0 y) (sym (cond-true (b == 0) (Some []) None y) ∙ h)
    | inr y ↦ let none = sym (cond-false (b == 0) (Some []) None y) ∙ h in cc
  ]
  path_of_chain (suc k) b bs h = elim (cases_Bool (b == 0)) [
    | inl y ↦ ends_at b bs (eqb-true b 0 y) (sym (cond-true (b == 0) (Some []) _ y) ∙ h)
    | inr y ↦
        let one = sym (cond-false (b == 0) (Some []) _ y) ∙ h in
        elim (cases_Bool (right b)) [
          | inl r ↦
              let more = mapped (λ l. b ∷ l) (way_by right next k (next b)) bs (sym (cond-true (right b) _ None r) ∙ one) in
              subst (λ l. IsPath right next b l 0) more.2 (goes r (path_of_chain k (next b) more.0 more.1))
          | inr r ↦ let none = sym (cond-false (right b) _ None r) ∙ one in cc
        ]
  ]
