-- The blocks of a table and those that it names, with one more.
use Rattle.std.proofs.Common.{length-append, inl, inr, ◌⊎◌, ◌<◌, ◌≤◌, ◌≡◌, Bool, ◌-◌, ◌%◌, ◌+◌, ◌/◌, ◌∷◌, ◌++◌, ℕ, List, [], add-one, ap, arith, refl, subst, sym, ◌∙◌, suc, zero, length}
use Rattle.std.proofs.lemmas.List.{append_assoc}
use Rattle.adf_blocks.specs.declared.layout.TheConstants.{EXTENSION, POINTERS, FIRST_POINTER}
use Rattle.adf_volume.specs.Image.{word_in}
use Rattle.adf_build.specs.Plan.{exts_needed}
use Rattle.std.proofs.lemmas.Bool.{cases_lt}
use Rattle.adf_blocks.specs.Sizes.{blocks}
use Rattle.adf_keep.specs.{Marks.AreClaimed, File.HasExts, File.IsExtOf, File.IsHeld, File.firsts, File.named_at, File.table_at}
use Rattle.adf_keep.specs.Reasons.{IsBlockFault, IsDataFault, IsTableFault}
use Rattle.adf_keep.specs.declared.proposal.Why.{Why, TheVariants.NoData, TheVariants.Taken}

-- as many as are asked for
pub firsts_length : (f : ℕ → ℕ) (n : ℕ) → length (firsts f n) ≡ n
firsts_length f zero = refl
firsts_length f (suc n) =
    let all = length-append (firsts f n) (f n ∷ []) in
    omega (arith, all, firsts_length f n)

pub firsts_more : (f : ℕ → ℕ) (n b : ℕ) (xs ys : List ℕ) → xs ≡ firsts f n → ys ≡ xs ++ b ∷ [] → b ≡ f n → ys ≡ firsts f (n + 1)
firsts_more f n b xs ys before more is = rw add-one (more ∙ (λ i. before i ++ is i ∷ []))

-- one more block is claimed
pub claims_more : (n : ℕ) (marks : List Bool) (bs xs ys : List ℕ) (b : ℕ) → ys ≡ xs ++ b ∷ [] → AreClaimed n marks ((bs ++ xs) ++ b ∷ [])
    → AreClaimed n marks (bs ++ ys)
claims_more n marks bs xs ys b more are = subst (λ zs. AreClaimed n marks zs) (append_assoc bs xs (b ∷ []) ∙ ap (λ zs. bs ++ zs) (sym more)) are

-- the table

pub exts_few : (n : ℕ) → exts_needed n ≤ n
unfolding exts_needed
exts_few n = omega arith

pub table_after : (image : List ℕ) (h m own next : ℕ) → own ≡ table_at image h m → next ≡ word_in image own EXTENSION → next ≡ table_at image h (m + 1)
table_after image h m own next at is = rw add-one (is ∙ ap (λ t. word_in image t EXTENSION) at)

pub exts_more : (image : List ℕ) (h m own : ℕ) → HasExts image h m → own ≡ table_at image h m → (m ≡ 0) ⊎ IsExtOf image h own → HasExts image h (m + 1)
exts_more image h m own before at here = λ j lt. elim (cases_lt (suc j) m) [
  | inl below ↦ before j below
  | inr above ↦ elim here [
    | inl first ↦ absurd (omega arith)
    | inr ext ↦
        let last : m ≡ suc j = omega arith in
        subst (λ k. IsExtOf image h (table_at image h k)) last (subst (IsExtOf image h) at ext)
  ]
]

pub table_held : (image : List ℕ) (h m own : ℕ) → IsHeld image h → own ≡ table_at image h m → (m ≡ 0) ⊎ IsExtOf image h own → IsHeld image own
table_held image h m own held at (inl first) =
    let is : own ≡ h = at ∙ ap (table_at image h) first in
    subst (IsHeld image) (sym is) held
table_held image h m own held at (inr ext) = ext.0

pub exts_not : (image : List ℕ) (h n m own : ℕ) → m < n → own ≡ table_at image h m → ((m ≡ 0) ⊎ IsExtOf image h own → ⊥) → HasExts image h n → ⊥
exts_not image h n zero own lt at none all = none (inl refl)
exts_not image h n (suc m) own lt at none all = none (inr (subst (IsExtOf image h) (sym at) (all m lt)))

-- a block that cannot be claimed is a fault of the table
pub table_refused : (image bs : List ℕ) (h n m own : ℕ) (xs : List ℕ) (why : Why) → m < n → xs ≡ firsts (table_at image h) m
    → own ≡ table_at image h m → IsHeld image own → IsBlockFault (blocks image) (bs ++ xs) own why → IsTableFault image bs h n why
table_refused image bs h n m own xs why lt all at held refused =
    fault why (subst (λ ys. IsBlockFault (blocks image) (bs ++ ys) (table_at image h m) why) all
    (subst (λ x. IsBlockFault (blocks image) (bs ++ xs) x why) at refused))
  where
    inside : IsHeld image (table_at image h m)
    inside = subst (IsHeld image) at held

    fault : (why : Why) → IsBlockFault (blocks image) (bs ++ firsts (table_at image h) m) (table_at image h m) why → IsTableFault image bs h n why
    fault NoData r = absurd (r inside.0 inside.1)
    fault Taken r = (m, lt, r)
    fault _ r = absurd r

-- what it names

pub named_is : (image : List ℕ) (h k b table : ℕ) → table ≡ table_at image h (k / POINTERS) → b ≡ word_in image table (FIRST_POINTER - k % POINTERS)
    → b ≡ named_at image h k
named_is image h k b table at is = is ∙ ap (λ t. word_in image t (FIRST_POINTER - k % POINTERS)) at

pub table_next : (image : List ℕ) (h k table : ℕ) → table ≡ table_at image h (k / POINTERS) → table ≡ table_at image h ((k + 1 - 1) / POINTERS)
table_next image h k table at =
    let e : k + 1 - 1 ≡ k = omega arith in
    rw e at

pub data_refused : (image bs : List ℕ) (h n k b : ℕ) (xs : List ℕ) (why : Why) → k < n → xs ≡ firsts (named_at image h) k
    → b ≡ named_at image h k → IsBlockFault (blocks image) (bs ++ xs) b why → IsDataFault image bs h n why
data_refused image bs h n k b xs why lt all is refused =
    fault why (subst (λ ys. IsBlockFault (blocks image) (bs ++ ys) (named_at image h k) why) all
    (subst (λ x. IsBlockFault (blocks image) (bs ++ xs) x why) is refused))
  where
    fault : (why : Why) → IsBlockFault (blocks image) (bs ++ firsts (named_at image h) k) (named_at image h k) why → IsDataFault image bs h n why
    fault NoData r = (k, lt, λ held. r held.0 held.1)
    fault Taken r = (k, lt, r)
    fault _ r = absurd r
