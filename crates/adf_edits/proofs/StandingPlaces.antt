-- What stands at places, and the list of what stands.
-- Letters: ps are entries by place, o one of them; x, y, z additions; i, j places; p a test of additions, f what is done to them.
use Rattle.std.proofs.Common.{◌≡◌, ◌≢◌, ℕ, zero, suc, List, [], ◌∷◌, ◌++◌, inl, inr, ◌<◌, ◌≤◌, ◌⊎◌}
use Rattle.std.proofs.Common.{length, map, set, refl, ap, arith, true, false, Bool, Option, Some, None, not}
use Rattle.std.proofs.{lemmas.Bool.cases_Bool, lemmas.List.Elements.filter_map-append}
use Rattle.std.specs.List.{filter, list_any}
use Rattle.adf_tree.specs.Additions.{Addition}
use Rattle.adf_edits.specs.Index.{StandsIn, entry_placed, same_entry, standing}

pub same_here : (ps : List (Option Addition)) (i : ℕ) (x y : Addition) → StandsIn ps i x → StandsIn ps i y → x ≡ y
same_here ps i x y a b = cc

pub within : (ps : List (Option Addition)) (i : ℕ) (x : Addition) → StandsIn ps i x → i < length ps
within [] i x h = cc
within (o ∷ ps) zero x h = omega arith
within (o ∷ ps) (suc i) x h = let lt : i < length ps = within ps i x h in omega arith

-- the entry at a place
pub stands_from : (ps : List (Option Addition)) (i : ℕ) (x : Addition) → entry_placed ps (Some i) ≡ Some x → StandsIn ps i x
stands_from [] i x h = cc
stands_from (None ∷ ps) zero x h = cc
stands_from (Some y ∷ ps) zero x h = ap (λ (o : Option Addition). Some o) h
stands_from (o ∷ ps) (suc i) x h = stands_from ps i x h

pub entry_from : (ps : List (Option Addition)) (i : ℕ) (x : Addition) → StandsIn ps i x → entry_placed ps (Some i) ≡ Some x
entry_from [] i x h = cc
entry_from (None ∷ ps) zero x h = cc
entry_from (Some y ∷ ps) zero x h = cc
entry_from (o ∷ ps) (suc i) x h = entry_from ps i x h

pub none_past : (ps : List (Option Addition)) (i : ℕ) → length ps ≤ i → entry_placed ps (Some i) ≡ None
none_past [] i le = refl
none_past (o ∷ ps) zero le = absurd (omega arith)
none_past (o ∷ ps) (suc i) le = none_past ps i (omega arith)

-- one entry more at the end
pub stands_before : (ps : List (Option Addition)) (x : Addition) (i : ℕ) (y : Addition) → StandsIn ps i y → StandsIn (ps ++ Some x ∷ []) i y
stands_before [] x i y h = cc
stands_before (o ∷ ps) x zero y h = h
stands_before (o ∷ ps) x (suc i) y h = stands_before ps x i y h

pub stands_after : (ps : List (Option Addition)) (x : Addition) (i : ℕ) (y : Addition) → StandsIn (ps ++ Some x ∷ []) i y
    → StandsIn ps i y ⊎ ((i ≡ length ps) × (y ≡ x))
stands_after [] x zero y h = inr (refl, cc)
stands_after [] x (suc i) y h = cc
stands_after (o ∷ ps) x zero y h = inl h
stands_after (o ∷ ps) x (suc i) y h = elim (stands_after ps x i y h) [ inl old ↦ inl old | inr new ↦ inr (ap (λ n. suc n) new.0, new.1) ]

pub pushed : (ps : List (Option Addition)) (x : Addition) → standing (ps ++ Some x ∷ []) ≡ standing ps ++ x ∷ []
pushed ps x = filter_map-append same_entry ps (Some x ∷ [])

-- one entry written
pub stands_other : (ps : List (Option Addition)) (i : ℕ) (o : Option Addition) (j : ℕ) (y : Addition) → j ≢ i → StandsIn ps j y → StandsIn (set ps i o) j y
stands_other [] i o j y ne h = cc
stands_other (q ∷ ps) zero o zero y ne h = absurd (ne refl)
stands_other (q ∷ ps) zero o (suc j) y ne h = h
stands_other (q ∷ ps) (suc i) o zero y ne h = h
stands_other (q ∷ ps) (suc i) o (suc j) y ne h = stands_other ps i o j y (λ e. ne (ap (λ n. suc n) e)) h

pub stands_written : (ps : List (Option Addition)) (i : ℕ) (o : Option Addition) (j : ℕ) (y : Addition) → StandsIn (set ps i o) j y
    → ((j ≢ i) × StandsIn ps j y) ⊎ ((j ≡ i) × (o ≡ Some y))
stands_written [] i o j y h = cc
stands_written (q ∷ ps) zero o zero y h = inr (refl, cc)
stands_written (q ∷ ps) zero o (suc j) y h = inl (λ e. omega (arith, e), h)
stands_written (q ∷ ps) (suc i) o zero y h = inl (λ e. omega (arith, e), h)
stands_written (q ∷ ps) (suc i) o (suc j) y h = elim (stands_written ps i o j y h) [
  | inl old ↦ inl (λ e. old.0 (omega (arith, e)), old.1)
  | inr new ↦ inr (ap (λ n. suc n) new.0, new.1)
]

pub stands_now : (ps : List (Option Addition)) (i : ℕ) (x : Addition) → i < length ps → StandsIn (set ps i (Some x)) i x
stands_now [] i x lt = absurd (omega arith)
stands_now (q ∷ ps) zero x lt = refl
stands_now (q ∷ ps) (suc i) x lt = stands_now ps i x (omega arith)

pub put_again : (ps : List (Option Addition)) (i : ℕ) (x : Addition) → StandsIn ps i x → set (set ps i None) i (Some x) ≡ ps
put_again [] i x h = cc
put_again (q ∷ ps) zero x h = let is : Some x ≡ q = cc in ap (λ (o : Option Addition). o ∷ ps) is
put_again (q ∷ ps) (suc i) x h = ap (λ (qs : List (Option Addition)). q ∷ qs) (put_again ps i x h)

-- whether something that stands passes a test
pub passes : (p : Addition → Bool) (ps : List (Option Addition)) → list_any p (standing ps) ≡ true
    → (i : ℕ) × (x : Addition) × StandsIn ps i x × (p x ≡ true)
passes p [] h = cc
passes p (None ∷ ps) h = let more = passes p ps h in (suc more.0, more.1, more.2, more.3)
passes p (Some y ∷ ps) h = elim (cases_Bool (p y)) [
  | inl t ↦ (0, y, refl, t)
  | inr f ↦ let more = passes p ps (rw f at h) in (suc more.0, more.1, more.2, more.3)
]

pub passing : (p : Addition → Bool) (ps : List (Option Addition)) (i : ℕ) (x : Addition) → StandsIn ps i x → p x ≡ true
    → list_any p (standing ps) ≡ true
passing p [] i x h t = cc
passing p (None ∷ ps) zero x h t = cc
passing p (Some y ∷ ps) zero x h t = let same : y ≡ x = cc in rw (same, t) refl
passing p (None ∷ ps) (suc i) x h t = passing p ps i x h t
passing p (Some y ∷ ps) (suc i) x h t = elim (cases_Bool (p y)) [ inl u ↦ rw u refl | inr f ↦ rw f (passing p ps i x h t) ]

-- where nothing passes
none_left_out : (p : Addition → Bool) (ps : List (Option Addition)) → ((i : ℕ) (x : Addition) → StandsIn ps i x → p x ≡ false)
    → (standing ps ≡ filter (λ x. not (p x)) (standing ps)) × (filter p (standing ps) ≡ [])
none_left_out p [] h = (refl, refl)
none_left_out p (None ∷ ps) h = none_left_out p ps (λ i x s. h (suc i) x s)
none_left_out p (Some y ∷ ps) h =
    let f : p y ≡ false = h 0 y refl in
    let more = none_left_out p ps (λ i x s. h (suc i) x s) in
    (rw f (ap (λ (xs : List Addition). y ∷ xs) more.0), rw f more.1)

-- where one alone passes, the rest is what stands without it
pub one_taken : (p : Addition → Bool) (ps : List (Option Addition)) (i : ℕ) (x : Addition) → StandsIn ps i x → p x ≡ true
    → ((j : ℕ) (y : Addition) → StandsIn ps j y → j ≢ i → p y ≡ false)
    → (standing (set ps i None) ≡ filter (λ y. not (p y)) (standing ps)) × (filter p (standing ps) ≡ x ∷ [])
one_taken p [] i x s t h = cc
one_taken p (None ∷ ps) zero x s t h = cc
one_taken p (Some y ∷ ps) zero x s t h =
    let same : y ≡ x = cc in
    let rest = none_left_out p ps (λ j z u. h (suc j) z u (λ e. omega (arith, e))) in
    (rw (same, t) rest.0, rw (same, t) (ap (λ (xs : List Addition). x ∷ xs) rest.1))
one_taken p (None ∷ ps) (suc i) x s t h = one_taken p ps i x s t (λ j y u ne. h (suc j) y u (λ e. ne (omega (arith, e))))
one_taken p (Some y ∷ ps) (suc i) x s t h =
    let f : p y ≡ false = h 0 y refl (λ e. omega (arith, e)) in
    let rest = one_taken p ps i x s t (λ j z u ne. h (suc j) z u (λ e. ne (omega (arith, e)))) in
    (rw f (ap (λ (xs : List Addition). y ∷ xs) rest.0), rw f rest.1)

-- where nothing is changed
none_done : (f : Addition → Addition) (ps : List (Option Addition)) → ((i : ℕ) (x : Addition) → StandsIn ps i x → f x ≡ x)
    → standing ps ≡ map f (standing ps)
none_done f [] h = refl
none_done f (None ∷ ps) h = none_done f ps (λ i x s. h (suc i) x s)
none_done f (Some y ∷ ps) h =
    let same : f y ≡ y = h 0 y refl in
    rw same (ap (λ (xs : List Addition). y ∷ xs) (none_done f ps (λ i x s. h (suc i) x s)))

-- where one alone is changed
pub one_done : (f : Addition → Addition) (ps : List (Option Addition)) (i : ℕ) (x : Addition) → StandsIn ps i x
    → ((j : ℕ) (y : Addition) → StandsIn ps j y → j ≢ i → f y ≡ y) → standing (set ps i (Some (f x))) ≡ map f (standing ps)
one_done f [] i x s h = cc
one_done f (None ∷ ps) zero x s h = cc
one_done f (Some y ∷ ps) zero x s h =
    let same : y ≡ x = cc in
    rw same (ap (λ (xs : List Addition). f x ∷ xs) (none_done f ps (λ j z u. h (suc j) z u (λ e. omega (arith, e)))))
one_done f (None ∷ ps) (suc i) x s h = one_done f ps i x s (λ j y u ne. h (suc j) y u (λ e. ne (omega (arith, e))))
one_done f (Some y ∷ ps) (suc i) x s h =
    let same : f y ≡ y = h 0 y refl (λ e. omega (arith, e)) in
    rw same (ap (λ (xs : List Addition). y ∷ xs) (one_done f ps i x s (λ j z u ne. h (suc j) z u (λ e. ne (omega (arith, e))))))
