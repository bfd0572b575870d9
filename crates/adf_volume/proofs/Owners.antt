-- The owners of a layout are all different.
use Rattle.std.proofs.Common.{◌≡◌, ℕ, suc, List, [], ◌∷◌, ◌++◌, inl, inr, refl, ap, ◌<◌, ◌≤◌, arith, rules}
use Rattle.std.proofs.lemmas.Grind.{common_steps}
use Rattle.adf_volume.specs.{Lists.In, Lists.numbered, Lists.NoBlockTwice, Parts.entry_of, declared.owner.Owner.Owner}
use Rattle.adf_volume.specs.Layout.{Place, Layout, owned_from, owned}
use Rattle.adf_volume.proofs.{Lists.in_cases, Lists.numbered_at, LayoutRoles.Stands, LayoutRoles.owned_stands}

-- no owner stands twice
abbrev pub Once : List (Owner × ℕ) → Type 0
Once [] = Unit {0}
Once (x ∷ xs) = ((y : Owner) (b : ℕ) → In xs (y, b) → x.0 ≡ y → ⊥) × Once xs

once_append : (xs ys : List (Owner × ℕ)) → Once xs → Once ys → ((x y : Owner) (b c : ℕ) → In xs (x, b) → In ys (y, c) → x ≡ y → ⊥) → Once (xs ++ ys)
once_append [] ys h k d = k
once_append (x ∷ xs) ys h k d = (
  (λ y b i e. elim (in_cases xs ys (y, b) i) [ inl j ↦ h.0 y b j e | inr j ↦ d x.0 y x.1 b (inl refl) j e ]),
  once_append xs ys h.1 k (λ z y b c i j e. d z y b c (inr i) j e),
)

once_numbered : (f : ℕ → Owner) (k : ℕ) (bs : List ℕ) → ((a b : ℕ) → f a ≡ f b → a ≡ b) → Once (numbered f k bs)
once_numbered f k [] inj = tt
once_numbered f k (b ∷ bs) inj = search (rules, numbered_at, once_numbered f (suc k) bs inj)

-- what stands in the places from number n on is no owner of a lower number
stands_node : (n : ℕ) (qs : List Place) (y : Owner) (b : ℕ) → Stands n qs y b → n ≤ entry_of y
stands_node n qs y b h = grind (arith, common_steps)

not_later : (n : ℕ) (qs : List Place) (x y : Owner) (b : ℕ) → Stands n qs y b → entry_of x < n → x ≡ y → ⊥
not_later n qs x y b s l e = let f = ap entry_of e in let g = stands_node n qs y b s in omega arith

once_places : (n : ℕ) (qs : List Place) → Once (owned_from n qs)
once_places n [] = tt
once_places n (q ∷ qs) = search (rules, in_cases, numbered_at, not_later, owned_stands, once_append, once_numbered, once_places (suc n) qs)

pub once_owned : (image : List ℕ) (l : Layout) → Once (owned image l)
once_owned image l = grind (arith, common_steps, in_cases, numbered_at, not_later, owned_stands, once_append, once_numbered, once_places)

-- where a block has one owner, it stands once
pub blocks_once : (xs : List (Owner × ℕ)) → Once xs → ((x y : Owner) (b : ℕ) → In xs (x, b) → In xs (y, b) → x ≡ y) → NoBlockTwice xs
blocks_once [] h f = tt
blocks_once (x ∷ xs) h f = (
  (λ y i e. h.0 y.0 y.1 i (f x.0 y.0 y.1 (inl (λ t. (x.0, e t))) (inr i))),
  blocks_once xs h.1 (λ z y b i j. f z y b (inr i) (inr j)),
)
