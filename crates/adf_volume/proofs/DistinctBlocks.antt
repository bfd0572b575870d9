-- The block numbers of a list, and lists with no block number twice.
use Rattle.std.proofs.Common.{◌≡◌, ℕ, suc, List, [], ◌∷◌, ◌++◌, inl, inr, refl, sym, ap, subst, rules}
use Rattle.adf_volume.specs.Lists.{In, numbered, NoBlockTwice}
use Rattle.adf_volume.proofs.Lists.{in_cases}

-- the blocks of a list of roles with blocks
abbrev pub blocks_of : {X : Type 0} → List (X × ℕ) → List ℕ
blocks_of [] = []
blocks_of (x ∷ xs) = x.1 ∷ blocks_of xs

pub blocks_of-append : {X : Type 0} (xs ys : List (X × ℕ)) → blocks_of (xs ++ ys) ≡ blocks_of xs ++ blocks_of ys
blocks_of-append [] ys = refl
blocks_of-append (x ∷ xs) ys = ap (λ l. x.1 ∷ l) (blocks_of-append xs ys)

pub blocks_of-numbered : {X : Type 0} (f : ℕ → X) (k : ℕ) (bs : List ℕ) → blocks_of (numbered f k bs) ≡ bs
blocks_of-numbered f k [] = refl
blocks_of-numbered f k (b ∷ bs) = ap (λ l. b ∷ l) (blocks_of-numbered f (suc k) bs)

pub block_in : {X : Type 0} (xs : List (X × ℕ)) (x : X) (b : ℕ) → In xs (x, b) → In (blocks_of xs) b
block_in [] x b h = absurd h
block_in (z ∷ xs) x b (inl e) = inl (ap (λ p. p.1) e)
block_in (z ∷ xs) x b (inr h) = inr (block_in xs x b h)

pub in_block : {X : Type 0} (xs : List (X × ℕ)) (b : ℕ) → In (blocks_of xs) b → (x : X) × In xs (x, b)
in_block [] b h = absurd h
in_block (z ∷ xs) b (inl e) = (z.0, inl (λ i. (z.0, e i)))
in_block (z ∷ xs) b (inr h) = let r = in_block xs b h in (r.0, inr r.1)

-- no number stands twice
abbrev pub Distinct : List ℕ → Type 0
Distinct [] = Unit {0}
Distinct (b ∷ bs) = (In bs b → ⊥) × Distinct bs

pub distinct_blocks : {X : Type 0} (xs : List (X × ℕ)) → Distinct (blocks_of xs) → NoBlockTwice xs
distinct_blocks [] d = tt
distinct_blocks {X} (x ∷ xs) d = ((λ y i e. d.0 (subst (λ b. In (blocks_of xs) b) (sym e) (block_in xs y.0 y.1 i))), distinct_blocks xs d.1)

pub distinct-append : (xs ys : List ℕ) → Distinct xs → Distinct ys → ((b : ℕ) → In xs b → In ys b → ⊥) → Distinct (xs ++ ys)
distinct-append [] ys d e f = e
distinct-append (x ∷ xs) ys d e f = search (rules, in_cases, distinct-append xs ys d.1 e)
