-- Marks of entries that are named one after another.
-- Letters: o an entry that is named, or none; os those of some records; k, n entries.
use Rattle.std.specs.Prelude.{◌==◌, ◌&&◌, not, nat_lt, Option, Some, None, cond, count_by, is_some}
use Rattle.std.specs.{List.list_all, Option.option_and_then}
use Rattle.std.proofs.Common.{◌≡◌, ◌<◌, ◌≤◌, ◌∙◌, ◌+◌, ℕ, Bool, true, false, List, [], ◌∷◌, ◌++◌, ap, arith, inl, inr, length, refl, set, subst, sym}
use Rattle.std.proofs.lemmas.Bool.{and_parts, cases_Bool, cond-true, eq-eqb, eqb-true, Decides.eqb_tells, Decides.nat_tests}
use Rattle.std.proofs.lemmas.List.{get_or-set_same, get_or-set_other, length-set, Sums.sum_by-cons}
use Rattle.std.proofs.lemmas.Option.{cond_some}
use Rattle.adf_findings.specs.Members.{has_mark}
use Rattle.adf_caches.specs.Entries.{is_entry_at}
use Rattle.adf_caches.specs.Marking.{mark_each, mark_one}

-- the marks in new are those in old and of all that are named, each of them once
pub record HaveMarks (os : List (Option ℕ)) (old new : List Bool) : Type 0 where
  pub size : length new ≡ length old
  pub each : list_all is_some os ≡ true
  pub kept : (n : ℕ) → has_mark old n ≡ true → has_mark new n ≡ true
  pub none : (n : ℕ) → has_mark old n ≡ true → count_by (is_entry_at n) os ≡ 0
  pub one : (n : ℕ) → has_mark old n ≡ false → count_by (is_entry_at n) os ≡ cond (has_mark new n) 1 0

-- two steps behind one that may lead to nothing
in_turn : (f g h : List Bool → Option (List Bool)) → ((m : List Bool) → f m ≡ option_and_then h (g m)) → (o : Option (List Bool))
    → option_and_then f o ≡ option_and_then h (option_and_then g o)
in_turn f g h e None = refl
in_turn f g h e (Some m) = e m

pub mark_append : (xs ys : List (Option ℕ)) (marks : List Bool) → mark_each (xs ++ ys) marks ≡ option_and_then (mark_each ys) (mark_each xs marks)
mark_append [] ys marks = refl
mark_append (o ∷ xs) ys marks = in_turn (mark_each (xs ++ ys)) (mark_each xs) (mark_each ys) (mark_append xs ys) (mark_one o marks)

-- a step that leads to something begins with something
begins_with : (f : List Bool → Option (List Bool)) (o : Option (List Bool)) (new : List Bool) → option_and_then f o ≡ Some new
    → (m : List Bool) × (o ≡ Some m) × (f m ≡ Some new)
begins_with f (Some m) new e = (m, refl, e)
begins_with f None new e = cc

weighed : (n k : ℕ) (os : List (Option ℕ)) → count_by (is_entry_at n) (Some k ∷ os) ≡ cond (k == n) 1 0 + count_by (is_entry_at n) os
weighed n k os = sum_by-cons (λ o. cond (is_entry_at n o) 1 0) (Some k) os

same_count : (n k : ℕ) (os : List (Option ℕ)) → k ≡ n → count_by (is_entry_at n) (Some k ∷ os) ≡ 1 + count_by (is_entry_at n) os
same_count n k os e = weighed n k os ∙ ap (λ t. cond t 1 0 + count_by (is_entry_at n) os) (eq-eqb k n e)

other_count : (n k : ℕ) (os : List (Option ℕ)) → (k == n) ≡ false → count_by (is_entry_at n) (Some k ∷ os) ≡ count_by (is_entry_at n) os
other_count n k os e =
    let one = weighed n k os ∙ ap (λ t. cond t 1 0 + count_by (is_entry_at n) os) e in
    omega (arith, one)

module _ (k : ℕ) (old : List Bool) (lt : k < length old) where
  set_here : has_mark (set old k true) k ≡ true
  set_here = get_or-set_same old k true false lt

  set_there : (n : ℕ) → (k == n) ≡ false → has_mark (set old k true) n ≡ has_mark old n
  set_there n e = elim (eqb_tells n k) [
    | inl y ↦ let clash : (k == n) ≡ true = eq-eqb k n (sym y.1) in cc
    | inr y ↦ get_or-set_other old k n true false y.1
  ]

  one_more : (os : List (Option ℕ)) (new : List Bool) → has_mark old k ≡ false → HaveMarks os (set old k true) new → HaveMarks (Some k ∷ os) old new
  one_more os new free h = record {
    size = h.size ∙ length-set old k true;
    each = h.each;
    kept = λ n e. elim (cases_Bool (k == n)) [
      | inl y ↦ let same : has_mark old k ≡ true = subst (λ i. has_mark old i ≡ true) (sym (eqb-true k n y)) e in cc
      | inr y ↦ h.kept n (set_there n y ∙ e)
    ];
    none = λ n e. elim (cases_Bool (k == n)) [
      | inl y ↦ let same : has_mark old k ≡ true = subst (λ i. has_mark old i ≡ true) (sym (eqb-true k n y)) e in cc
      | inr y ↦ other_count n k os y ∙ h.none n (set_there n y ∙ e)
    ];
    one = λ n e. elim (cases_Bool (k == n)) [
      | inl y ↦
          let same : k ≡ n = eqb-true k n y in
          let here : has_mark (set old k true) n ≡ true = subst (λ i. has_mark (set old k true) i ≡ true) same set_here in
          same_count n k os same ∙ (ap (λ c. 1 + c) (h.none n here) ∙ sym (ap (λ t. cond t 1 0) (h.kept n here)))
      | inr y ↦ other_count n k os y ∙ h.one n (set_there n y ∙ e)
    ];
  }

pub marked_each : (os : List (Option ℕ)) (old new : List Bool) → mark_each os old ≡ Some new → HaveMarks os old new
marked_each [] old new e =
    let same : old ≡ new = cc in
    record {
      size = ap length (sym same);
      each = refl;
      kept = λ n h. subst (λ m. has_mark m n ≡ true) same h;
      none = λ n h. refl;
      one = λ n h. sym (ap (λ t. cond t 1 0) (subst (λ m. has_mark m n ≡ false) same h));
    }
marked_each (None ∷ os) old new e = cc
marked_each (Some k ∷ os) old new e =
    let step = begins_with (mark_each os) (mark_one (Some k) old) new e in
    let pass = cond_some (nat_lt k (length old) && not (has_mark old k)) (set old k true) step.0 step.1 in
    let parts = and_parts (nat_lt k (length old)) (not (has_mark old k)) pass.0 in
    let lt : k < length old = grind (arith, nat_tests) in
    let free : has_mark old k ≡ false = grind (arith, nat_tests) in
    one_more k old lt os new free (marked_each os (set old k true) new (ap (mark_each os) pass.1 ∙ step.2))

-- whether an entry has a mark, as a number
abbrev pub mark_count : List Bool → ℕ → ℕ
mark_count marks n = cond (has_mark marks n) 1 0

pub marks_each : (os : List (Option ℕ)) (old : List Bool) → list_all is_some os ≡ true
    → ((n : ℕ) → count_by (is_entry_at n) os + mark_count old n ≤ 1) → ((n : ℕ) → 1 ≤ count_by (is_entry_at n) os → n < length old)
    → (new : List Bool) × (mark_each os old ≡ Some new)
marks_each [] old each once inside = (old, refl)
marks_each (None ∷ os) old each once inside = cc
marks_each (Some k ∷ os) old each once inside =
    let here = same_count k k os refl in
    let lt : k < length old = inside k (omega (arith, here)) in
    let free : has_mark old k ≡ false = elim (cases_Bool (has_mark old k)) [
      | inl y ↦ absurd (omega (arith, here, once k, ap (λ t. cond {A = ℕ} t 1 0) y))
      | inr y ↦ y
    ] in
    let test : (nat_lt k (length old) && not (has_mark old k)) ≡ true = grind (arith, nat_tests) in
    let rest = marks_each os (set old k true) each
    (λ n. elim (cases_Bool (k == n)) [
      | inl y ↦
          let same : k ≡ n = eqb-true k n y in
          let marked : has_mark (set old k true) n ≡ true = subst (λ i. has_mark (set old k true) i ≡ true) same (set_here k old lt) in
          let more = same_count n k os same in
          omega (arith, more, once n, ap (λ t. cond {A = ℕ} t 1 0) marked)
      | inr y ↦ let more = other_count n k os y in omega (arith, more, once n, ap (λ t. cond {A = ℕ} t 1 0) (set_there k old lt n y))
    ])
    (λ n some. elim (cases_Bool (k == n)) [
      | inl y ↦ let more = same_count n k os (eqb-true k n y) in omega (arith, more, inside n, length-set old k true)
      | inr y ↦ let more = other_count n k os y in omega (arith, more, inside n, length-set old k true)
    ]) in
    (rest.0, ap (option_and_then (mark_each os)) (cond-true _ (Some (set old k true)) None test) ∙ rest.1)
