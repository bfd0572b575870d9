-- A text is the escape form of some bytes, or of none. t is a text, c a byte, k how many bytes are left to try or to read.
use Rattle.std.proofs.Common.{◌≡◌, ◌≢◌, ◌∙◌, ◌<◌, ◌≤◌, ◌++◌, ◌⊎◌, ℕ, zero, suc, List, [], ◌∷◌, ap, arith, inl, inr, length, refl, subst, sym}
use Rattle.std.specs.List.{All}
use Rattle.std.proofs.{lemmas.Bool.cases_Bool, lemmas.Grind.common_steps}
use Rattle.std.proofs.lemmas.List.{length-append, Elements.All-cons, Elements.All-head, Elements.All-tail}
use native.Mathlib.Decide.{dec_le, ℕ_discrete}
use Rattle.adf_names.specs.Escapes.{IsSpelling, escape_of, escaped}
use Rattle.adf_names.proofs.Spellings.{one_spelling, only_spelled, spelled_escape, spelled_plain}

-- a text begins with these bytes, or it does not
pub begins : (bytes t : List ℕ) → ((after : List ℕ) × (t ≡ bytes ++ after)) ⊎ ((after : List ℕ) → t ≢ bytes ++ after)
begins [] t = inl (t, refl)
begins (x ∷ xs) [] = inr (λ after h. absurd cc)
begins (x ∷ xs) (y ∷ ys) = elim (ℕ_discrete y x) [
  | yes same ↦ elim (begins xs ys) [
    | inl found ↦ inl (found.0, let e = found.1 in cc)
    | inr none ↦ inr (λ after h. none after cc)
  ]
  | no other ↦ inr (λ after h. other cc)
]

-- it begins with the escape of a byte below k, or of none
first_byte : (t : List ℕ) (k : ℕ)
    → ((c : ℕ) × (c < k) × ((after : List ℕ) × (t ≡ escape_of c ++ after))) ⊎ ((c : ℕ) (after : List ℕ) → c < k → t ≢ escape_of c ++ after)
first_byte t zero = inr (λ c after lt h. absurd (omega (arith, lt)))
first_byte t (suc k) = elim (first_byte t k) [
  | inl found ↦ inl (found.0, omega (arith, found.1), found.2)
  | inr none ↦ elim (begins (escape_of k) t) [
    | inl found ↦ inl (k, omega arith, found)
    | inr never ↦ inr (λ c after lt h. elim (ℕ_discrete c k) [
      | yes same ↦ never after (subst (λ (j : ℕ). t ≡ escape_of j ++ after) same h)
      | no other ↦ none c after (omega (arith, other, lt)) h
    ])
  ]
]

some_length : (c : ℕ) → 1 ≤ length (escape_of c)
some_length c = grind (arith, common_steps, cases_Bool, spelled_plain, spelled_escape)

shorter : (c : ℕ) (t after : List ℕ) (k : ℕ) → t ≡ escape_of c ++ after → length t ≤ suc k → length after ≤ k
shorter c t after k e le = omega (arith, ap length e, length-append (escape_of c) after, some_length c, le)

abbrev pub Spells : List ℕ → List ℕ → Type 0
Spells t bytes = (t ≡ escaped bytes) × All (λ (c : ℕ). c < 256) bytes

spelt_within : (k : ℕ) (t : List ℕ) → length t ≤ k → ((bytes : List ℕ) × Spells t bytes) ⊎ ((bytes : List ℕ) → ¬ Spells t bytes)
spelt_within k [] le = inl ([], (refl, λ i d lt. absurd (omega (arith, lt))))
spelt_within zero (x ∷ xs) le = absurd (omega (arith, le))
spelt_within (suc k) (x ∷ xs) le = elim (first_byte (x ∷ xs) 256) [
  | inl (c, lt, (after, e)) ↦ elim (spelt_within k after (shorter c (x ∷ xs) after k e le)) [
    | inl found ↦
        inl (c ∷ found.0, (e ∙ ap (λ (l : List ℕ). escape_of c ++ l) found.1.0, All-cons (λ (d : ℕ). d < 256) c found.0 lt found.1.1))
    | inr none ↦ inr (λ bytes spells. other_rest c after bytes lt e none spells)
  ]
  | inr none ↦ inr (λ bytes spells. no_first bytes none spells)
]
  where
    other_rest : (c : ℕ) (after bytes : List ℕ) → c < 256 → x ∷ xs ≡ escape_of c ++ after → ((more : List ℕ) → ¬ Spells after more)
        → Spells (x ∷ xs) bytes → ⊥
    other_rest c after [] lt e none spells = absurd (let h = spells.0 in cc)
    other_rest c after (d ∷ ds) lt e none spells =
        let (same, rest) = one_spelling c d after (escaped ds) lt (All-head (λ (b : ℕ). b < 256) d ds spells.1) (sym e ∙ spells.0) in
        none ds (rest, All-tail (λ (b : ℕ). b < 256) d ds spells.1)

    no_first : (bytes : List ℕ) → ((c : ℕ) (after : List ℕ) → c < 256 → x ∷ xs ≢ escape_of c ++ after) → Spells (x ∷ xs) bytes → ⊥
    no_first [] none spells = absurd (let h = spells.0 in cc)
    no_first (d ∷ ds) none spells = none d (escaped ds) (All-head (λ (b : ℕ). b < 256) d ds spells.1) spells.0

-- it spells some bytes, or none
pub spelt : (t : List ℕ) → ((bytes : List ℕ) × Spells t bytes) ⊎ ((bytes : List ℕ) → ¬ Spells t bytes)
spelt t = spelt_within (length t) t (omega arith)

-- and so it is with at most so many bytes
pub dec_spelling : (most : ℕ) (t : List ℕ) → Dec ((bytes : List ℕ) × IsSpelling most t bytes)
dec_spelling most t = elim (spelt t) [
  | inr none ↦ no (λ is. none is.0 (is.1.spells, is.1.are_bytes))
  | inl (bytes, spells) ↦ elim (dec_le (length bytes) most) [
    | yes short ↦ yes (bytes, record { spells = spells.0; are_bytes = spells.1; short = short })
    | no long ↦ no (λ is.
        let same : is.0 ≡ bytes = only_spelled is.0 bytes is.1.are_bytes spells.1 (sym is.1.spells ∙ spells.0) in
        long (subst (λ (bs : List ℕ). length bs ≤ most) same is.1.short))
  ]
]
