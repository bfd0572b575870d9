-- The bits of the pages are those of the free blocks.
use Rattle.std.proofs.Common.{◌≡◌, ℕ, zero, suc, List, [], ◌∷◌, ◌++◌, inl, inr, ◌+◌, ◌-◌, ◌*◌, ◌/◌, ◌%◌, ◌^◌, ◌<◌, ◌≤◌, length, refl, sym, ap, subst, ◌∙◌}
use Rattle.std.proofs.Common.{arith, Bool, true, false, cond, map, take}
use Rattle.std.proofs.{lemmas.Bool.cases_lt, lemmas.Bool.Decides.nat_tests, Math.Nat.pow-succ', Math.Nat.div-div-eq-div-mul, Math.ListN.set}
use Rattle.std.proofs.{lemmas.List.take_more_set, lemmas.List.FromFn.map-range_with_len_more, lemmas.Grind.common_steps}
use Rattle.adf_blocks.specs.{declared.layout.TheConstants.PAGE_BITS, Sizes.middle}
use Rattle.adf_volume.specs.Lists.{In}
use Rattle.std.specs.List.{range_with_len}
use Rattle.adf_volume.proofs.Lists.{in_left, in_right, in_cases}
use Rattle.adf_build.specs.{Plan.reserved, Plan.nth_free, Plan.allocated, Bits.is_used, Bits.bits_from, Bits.is_free_bit}
use Rattle.adf_build.proofs.AllocatedBlocks.{stretch, in_allocated, allocated_in, in_range, range_in, Stretch.low, Stretch.high}

used_middle : (n total b : ℕ) → middle n ≤ b → b ≤ middle n + reserved n → is_used n total b ≡ true
unfolding is_used
used_middle n total b h k = grind (arith, nat_tests)

used_low : (n total b : ℕ) → b < middle n → b - 2 < total → is_used n total b ≡ true
unfolding is_used
used_low n total b h k = grind (arith, nat_tests)

used_high : (n total b : ℕ) → middle n + reserved n < b → b - 3 - reserved n < total → is_used n total b ≡ true
unfolding is_used
used_high n total b h k = grind (arith, nat_tests)

-- the blocks of a layout are those that are used
pub owned_used : (n total b : ℕ) → In (middle n ∷ (range_with_len (middle n + 1) (reserved n) ++ allocated n 0 total)) b → is_used n total b ≡ true
owned_used n total b (inl e) = used_middle n total b (omega arith) (omega arith)
owned_used n total b (inr h) = elim (in_cases (range_with_len (middle n + 1) (reserved n)) (allocated n 0 total) b h) [
  | inl i ↦ let r = in_range (middle n + 1) (reserved n) b i in used_middle n total b (omega arith) (omega arith)
  | inr i ↦
      let r = in_allocated n 0 total b i in
      elim (stretch n r.number) [
        | low a f ↦ used_low n total b (omega arith) (omega arith)
        | high a f ↦ used_high n total b (omega arith) (omega arith)
      ]
]

-- by cases
pub data Use (n total b : ℕ) : Type 0 where
  at_middle : middle n ≤ b → b ≤ middle n + reserved n → Use n total b
  at_low : b < middle n → b - 2 < total → Use n total b
  at_high : middle n + reserved n < b → b - 3 - reserved n < total → Use n total b

use_low : (n total b : ℕ) → b < middle n → is_used n total b ≡ true → b - 2 < total
unfolding is_used
use_low n total b h e = grind (arith, nat_tests)

use_high : (n total b : ℕ) → middle n + reserved n < b → is_used n total b ≡ true → b - 3 - reserved n < total
unfolding is_used
use_high n total b h e = grind (arith, nat_tests)

use_cases : (n total b : ℕ) → is_used n total b ≡ true → Use n total b
use_cases n total b e = grind (arith, common_steps, cases_lt, at_low, use_low, at_high, use_high, at_middle)

pub used_owned : (n total b : ℕ) → 4 ≤ n → 2 ≤ b → is_used n total b ≡ true
    → In (middle n ∷ (range_with_len (middle n + 1) (reserved n) ++ allocated n 0 total)) b
used_owned n total b big two e = put (use_cases n total b e)
  where
    put : Use n total b → In (middle n ∷ (range_with_len (middle n + 1) (reserved n) ++ allocated n 0 total)) b
    put (at_middle h k) = grind (arith, common_steps, at_middle, cases_lt, in_left, range_in)
    put (at_low h k) = elim (stretch n (b - 2)) [
      | low a f ↦
          let g : nth_free n (b - 2) ≡ b = omega arith in
          inr (in_right (range_with_len (middle n + 1) (reserved n)) (allocated n 0 total) b
          (subst (λ c. In (allocated n 0 total) c) g (allocated_in n 0 total (b - 2) (omega arith) (omega arith))))
      | high a f ↦ absurd (omega arith)
    ]
    put (at_high h k) = elim (stretch n (b - 3 - reserved n)) [
      | low a f ↦ absurd (omega arith)
      | high a f ↦
          let g : nth_free n (b - 3 - reserved n) ≡ b = omega arith in
          inr (in_right (range_with_len (middle n + 1) (reserved n)) (allocated n 0 total) b
          (subst (λ c. In (allocated n 0 total) c) g (allocated_in n 0 total (b - 3 - reserved n) (omega arith) (omega arith))))
    ]

flag_small : (t : Bool) → cond t 1 0 < 2
flag_small true = omega arith
flag_small false = omega arith

-- each bit of a number that was made of bits
pub bit_of : (f : ℕ → Bool) (q m k : ℕ) → k < m → bits_from f q m / 2 ^ k % 2 ≡ cond (f (q + k)) 1 0
bit_of f q zero k h = absurd (omega arith)
bit_of f q (suc m) zero h = grind (arith, common_steps, flag_small)
bit_of f q (suc m) (suc k) h =
    let s = flag_small (f q) in
    let e : suc q + k ≡ q + suc k = omega arith in
    let half : (cond (f q) 1 0 + 2 * bits_from f (suc q) m) / 2 ≡ bits_from f (suc q) m = omega arith in
    ap (λ p. bits_from f q (suc m) / p % 2) (pow-succ' 2 k)
    ∙ ap (λ x. x % 2) (sym (div-div-eq-div-mul (bits_from f q (suc m)) 2 (2 ^ k)))
    ∙ ap (λ x. x / 2 ^ k % 2) half
    ∙ bit_of f (suc q) m k (omega arith)
    ∙ ap (λ j. cond (f j) 1 0) e

pub bits_small : (f : ℕ → Bool) (q m : ℕ) → bits_from f q m < 2 ^ m
bits_small f q zero = omega arith
bits_small f q (suc m) = let s = flag_small (f q) in let ih = bits_small f (suc q) m in let e : 2 ^ suc m ≡ 2 * 2 ^ m = pow-succ' 2 m in omega arith

pow_rises : (i j : ℕ) → 2 ^ i ≤ 2 ^ (i + j)
pow_rises i zero = let e : i ≡ i + 0 = omega arith in let f : 2 ^ i ≡ 2 ^ (i + 0) = ap (λ n. 2 ^ n) e in omega arith
pow_rises i (suc j) = grind (arith, common_steps, pow-succ' 2 (i + j), pow_rises i j)

pub bits_fit : (f : ℕ → Bool) (q m : ℕ) → m < 32 → bits_from f q m < 2 ^ 31
bits_fit f q m h =
    let s = bits_small f q m in
    let r = pow_rises m (31 - m) in
    let e : m + (31 - m) ≡ 31 = omega arith in
    let g : 2 ^ (m + (31 - m)) ≡ 2 ^ 31 = ap (λ n. 2 ^ n) e in
    omega arith

pub bits_start : (f : ℕ → Bool) (q : ℕ) → bits_from f q 0 ≡ 0
bits_start f q = refl

-- one bit more, below the others
pub bits_step : (f : ℕ → Bool) (q m p k : ℕ) → q ≡ suc p → k ≡ suc m → bits_from f p k ≡ cond (f p) 1 0 + 2 * bits_from f q m
bits_step f q m p k e g = ap (bits_from f p) g ∙ ap (λ q. cond (f p) 1 0 + 2 * bits_from f q m) (sym e)

-- one word of a page more
pub words_step : (words : List ℕ) (n total j w v : ℕ) → w < length words
    → take w words ≡ map (λ w. bits_from (is_free_bit n total) (PAGE_BITS * j + 32 * w) 32) (range_with_len 0 w)
    → v ≡ bits_from (is_free_bit n total) (PAGE_BITS * j + 32 * w) 32
    → take (w + 1) (set words w v) ≡ map (λ w. bits_from (is_free_bit n total) (PAGE_BITS * j + 32 * w) 32) (range_with_len 0 (w + 1))
words_step words n total j w v h e g =
    let f : ℕ → ℕ = λ w. bits_from (is_free_bit n total) (PAGE_BITS * j + 32 * w) 32 in
    take_more_set words w v h ∙ ap (λ l. l ++ v ∷ []) e ∙ ap (λ v. map f (range_with_len 0 w) ++ v ∷ []) g
    ∙ sym (map-range_with_len_more f 0 w w (omega arith))
