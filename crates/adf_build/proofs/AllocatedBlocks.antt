-- The free blocks are distinct, in the volume, and neither the root nor reserved.
use Rattle.std.proofs.Common.{◌≡◌, ℕ, zero, suc, ◌∷◌, ◌++◌, inl, inr, ◌+◌, ◌-◌, ◌<◌, ◌≤◌, length, refl, ap, ◌∙◌, arith}
use Rattle.std.specs.List.{range_with_len}
use Rattle.std.proofs.{lemmas.Bool.cases_lt, lemmas.Bool.Decides.nat_tests, lemmas.Grind.common_steps}
use Rattle.adf_blocks.specs.Sizes.{middle}
use Rattle.adf_volume.specs.{Lists.In, Image.map_exts_needed}
use Rattle.adf_volume.proofs.DistinctBlocks.{Distinct}
use Rattle.adf_build.specs.Plan.{reserved, nth_free, allocated}

-- below the root, and past the reserved blocks
pub free_low : (n k : ℕ) → 2 + k < middle n → nth_free n k ≡ 2 + k
unfolding nth_free
free_low n k h = grind (arith, nat_tests)

pub free_high : (n k : ℕ) → middle n ≤ 2 + k → nth_free n k ≡ 3 + k + reserved n
unfolding nth_free
free_high n k h = grind (arith, nat_tests)

-- by cases
pub data Stretch (n k : ℕ) : Type 0 where
  low : 2 + k < middle n → nth_free n k ≡ 2 + k → Stretch n k
  high : middle n ≤ 2 + k → nth_free n k ≡ 3 + k + reserved n → Stretch n k

pub stretch : (n k : ℕ) → Stretch n k
stretch n k = elim (cases_lt (2 + k) (middle n)) [ inl h ↦ low h (free_low n k h) | inr h ↦ high h (free_high n k h) ]

pub free_rises : (n i j : ℕ) → i < j → nth_free n i < nth_free n j
free_rises n i j h = grind (arith, common_steps, stretch)

pub free_once : (n i j : ℕ) → nth_free n i ≡ nth_free n j → i ≡ j
free_once n i j h = grind (arith, common_steps, free_rises)

pub free_from : (n k : ℕ) → 2 + k ≤ nth_free n k
free_from n k = elim (stretch n k) [ low a e ↦ omega arith | high a e ↦ omega arith ]

pub free_below : (n k : ℕ) → 4 ≤ n → k + 1 + reserved n ≤ n - 3 → nth_free n k < n
free_below n k h le = elim (stretch n k) [ low a e ↦ omega arith | high a e ↦ omega arith ]

-- neither the root nor a reserved block
pub free_apart : (n k : ℕ) → middle n ≤ nth_free n k → nth_free n k ≤ middle n + reserved n → ⊥
free_apart n k l u = elim (stretch n k) [ low a e ↦ omega arith | high a e ↦ omega arith ]

-- the reserved blocks end below n
pub reserved_below : (n : ℕ) → 4 ≤ n → middle n + reserved n < n
unfolding reserved map_exts_needed
reserved_below n h = omega arith

-- a member of a run is the free block of a number within it
pub record IsAllocated (n k m b : ℕ) : Type 0 where
  pub number : ℕ
  pub from : k ≤ number
  pub below : number < k + m
  pub is : nth_free n number ≡ b

pub in_allocated : (n k m b : ℕ) → In (allocated n k m) b → IsAllocated n k m b
in_allocated n k zero b h = absurd h
in_allocated n k (suc m) b (inl e) = record { number = k; from = omega arith; below = omega arith; is = e }
in_allocated n k (suc m) b (inr h) = grind (arith, common_steps, in_allocated n (suc k) m b h)

pub allocated_in : (n k m i : ℕ) → k ≤ i → i < k + m → In (allocated n k m) (nth_free n i)
allocated_in n k zero i l u = absurd (omega arith)
allocated_in n k (suc m) i l u = elim (cases_lt k i) [
  | inl h ↦ inr (allocated_in n (suc k) m i (omega arith) (omega arith))
  | inr h ↦ let e : k ≡ i = omega arith in inl (ap (nth_free n) e)
]

pub allocated-append : (n k a b : ℕ) → allocated n k (a + b) ≡ allocated n k a ++ allocated n (k + a) b
allocated-append n k zero b = let e : 0 + b ≡ b = omega arith in let f : k ≡ k + 0 = omega arith in ap (allocated n k) e ∙ ap (λ k. allocated n k b) f
allocated-append n k (suc a) b =
    let e : suc a + b ≡ suc (a + b) = omega arith in
    let f : suc k + a ≡ k + suc a = omega arith in
    ap (allocated n k) e ∙ ap (λ l. nth_free n k ∷ l) (allocated-append n (suc k) a b ∙ ap (λ j. allocated n (suc k) a ++ allocated n j b) f)

pub distinct_allocated : (n k m : ℕ) → Distinct (allocated n k m)
distinct_allocated n k zero = tt
distinct_allocated n k (suc m) = (
  (λ h. let r = in_allocated n (suc k) m (nth_free n k) h in let e : r.number ≡ k = free_once n r.number k r.is in omega arith),
  distinct_allocated n (suc k) m,
)

pub in_range : (a m b : ℕ) → In (range_with_len a m) b → (a ≤ b) × (b < a + m)
in_range a zero b h = absurd h
in_range a (suc m) b (inl e) = (omega arith, omega arith)
in_range a (suc m) b (inr h) = let r = in_range (a + 1) m b h in (omega arith, omega arith)

pub range_in : (a m b : ℕ) → a ≤ b → b < a + m → In (range_with_len a m) b
range_in a zero b l u = absurd (omega arith)
range_in a (suc m) b l u = elim (cases_lt a b) [
  | inl h ↦ inr (range_in (a + 1) m b (omega arith) (omega arith))
  | inr h ↦ inl (omega arith)
]

pub distinct_range : (a m : ℕ) → Distinct (range_with_len a m)
distinct_range a zero = tt
distinct_range a (suc m) = ((λ h. let r = in_range (a + 1) m a h in omega arith), distinct_range (a + 1) m)

pub range_with_len-append : (b m k : ℕ) → range_with_len b m ++ range_with_len (b + m) k ≡ range_with_len b (m + k)
range_with_len-append b zero k = grind (arith, common_steps)
range_with_len-append b (suc m) k =
    let e : b + suc m ≡ b + 1 + m = omega arith in
    let f : suc (m + k) ≡ suc m + k = omega arith in
    ap (λ l. b ∷ l) (ap (λ c. range_with_len (b + 1) m ++ range_with_len c k) e ∙ range_with_len-append (b + 1) m k) ∙ ap (range_with_len b) f

pub length_allocated : (n k m : ℕ) → length (allocated n k m) ≡ m
length_allocated n k zero = refl
length_allocated n k (suc m) = ap suc (length_allocated n (suc k) m)
