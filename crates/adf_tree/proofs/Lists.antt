-- Lists after filter and map.
use Rattle.std.proofs.Common.{◌≡◌, List, [], ◌∷◌, map, true, false, Bool, arith, ◌&&◌, inl, inr, sym, refl, ◌∙◌, ap, Some, length, ◌<◌, ◌++◌, slice_get}
use Rattle.std.specs.List.{All, Contains, filter}
use Rattle.std.proofs.{Math.Bool.and_comm, lemmas.Bool.cases_Bool}
use Rattle.std.proofs.lemmas.List.Elements.{All-head, All-tail, Contains-append_cases, Contains-append_right, Contains-push_cases, filter_agree, All-pop}

-- an element
pub some_in : {X : Type 0} → (xs : List X) → 0 < length xs → X
some_in [] h = absurd (omega arith)
some_in (x ∷ xs) h = x

-- two tests
pub filter_both : {X : Type 0} → (p q : X → Bool) (xs : List X) → filter p (filter q xs) ≡ filter (λ x. q x && p x) xs
filter_both p q [] = refl
filter_both p q (x ∷ xs) = elim (cases_Bool (q x)) [ inl t ↦ rw (t, filter_both p q xs) refl | inr f ↦ rw (f, filter_both p q xs) refl ]

-- two tests that are one
pub filter_joined : {X : Type 0} → (p q r : X → Bool) → ((x : X) → (q x && p x) ≡ r x) → (xs : List X) → filter p (filter q xs) ≡ filter r xs
filter_joined p q r same xs = filter_both p q xs ∙ filter_agree (λ x. q x && p x) r same xs

pub filters_commute : {X : Type 0} → (p q : X → Bool) (xs : List X) → filter p (filter q xs) ≡ filter q (filter p xs)
filters_commute p q xs = filter_joined p q (λ x. p x && q x) (λ x. and_comm (q x) (p x)) xs ∙ sym (filter_both q p xs)

pub filter_of_map : {X Y : Type 0} → (f : X → Y) (q : Y → Bool) (xs : List X) → filter q (map f xs) ≡ map f (filter (λ x. q (f x)) xs)
filter_of_map f q [] = refl
filter_of_map f q (x ∷ xs) = elim (cases_Bool (q (f x))) [ inl t ↦ rw (t, filter_of_map f q xs) refl | inr n ↦ rw (n, filter_of_map f q xs) refl ]

-- where none passes, and where all do
pub filter_nothing : {X : Type 0} → (q : X → Bool) (xs : List X) → All (λ x. q x ≡ false) xs → filter q xs ≡ []
filter_nothing q [] h = refl
filter_nothing q (x ∷ xs) h = rw (All-head (λ y. q y ≡ false) x xs h) (filter_nothing q xs (All-tail (λ y. q y ≡ false) x xs h))

pub filter_all : {X : Type 0} → (q : X → Bool) (xs : List X) → All (λ x. q x ≡ true) xs → filter q xs ≡ xs
filter_all q [] h = refl
filter_all q (x ∷ xs) h = rw (All-head (λ y. q y ≡ true) x xs h) (ap (λ ys. x ∷ ys) (filter_all q xs (All-tail (λ y. q y ≡ true) x xs h)))

-- what passes is kept
pub contains_filter : {X : Type 0} → (q : X → Bool) (xs : List X) (x : X) → Contains xs x → q x ≡ true → Contains (filter q xs) x
contains_filter q [] x h passes = absurd (omega (arith, h.1))
contains_filter q (y ∷ ys) x h passes =
    elim (Contains-append_cases (y ∷ []) ys x h) [
      | inl here ↦
          elim (Contains-push_cases [] y x here) [
            | inl none ↦ absurd (omega (arith, none.1))
            | inr same ↦ rw (ap q same ∙ passes) (0, omega arith, same)
          ]
      | inr there ↦
          let rest : Contains (filter q ys) x = contains_filter q ys x there passes in
          elim (cases_Bool (q y)) [ inl t ↦ rw t (Contains-append_right (y ∷ []) (filter q ys) x rest) | inr f ↦ rw f rest ]
    ]

-- functions that agree on a list
pub map_agree : {X Y : Type 0} (f g : X → Y) (xs : List X) → All (λ x. f x ≡ g x) xs → map f xs ≡ map g xs
map_agree f g [] h = refl
map_agree f g (x ∷ xs) h = rw (All-head (λ y. f y ≡ g y) x xs h) (ap (λ ys. g x ∷ ys) (map_agree f g xs (All-tail (λ y. f y ≡ g y) x xs h)))

-- what holds of each element holds of those before the last, and of the last
pub last_off : {X : Type 0} → (P : X → Type 0) (xs : List X) (x : X) → All P (xs ++ x ∷ []) → All P xs × P x
last_off P xs x h = All-pop P (xs ++ x ∷ []) xs (Some x) refl h

-- one more stands last
pub get_last : {X : Type 0} (xs : List X) (x : X) → slice_get (xs ++ x ∷ []) (length xs) ≡ Some x
get_last [] x = refl
get_last (y ∷ ys) x = get_last ys x
