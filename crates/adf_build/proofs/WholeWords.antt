-- Words of a page whose 32 blocks are all free, or none of them.
use Rattle.std.proofs.Common.{◌≡◌, ◌≤◌, ◌<◌, ◌+◌, ◌*◌, ◌/◌, ◌^◌, ℕ, zero, suc, refl, sym, ap, ◌∙◌, arith, Bool, true, false, cond}
use Rattle.std.proofs.{lemmas.Bool.false_from_ne_true, lemmas.Bool.true≢false, lemmas.Bool.Decides.nat_tests, Math.Nat.pow-succ'}
use Rattle.adf_build.specs.Bits.{bits_from, is_free_bit, is_used}

-- bits that are all clear, and bits that are all set
bits_clear : (f : ℕ → Bool) (q m : ℕ) → ((k : ℕ) → q ≤ k → k < q + m → f k ≡ false) → bits_from f q m ≡ 0
bits_clear f q zero h = refl
bits_clear f q (suc m) h =
    let bit : Bool → ℕ = λ b. cond b 1 0 in
    let low : bit (f q) ≡ 0 = ap bit (h q (omega arith) (omega arith)) in
    let high : bits_from f (suc q) m ≡ 0 = bits_clear f (suc q) m (λ k l u. h k (omega arith) (omega arith)) in
    omega arith

bits_set : (f : ℕ → Bool) (q m : ℕ) → ((k : ℕ) → q ≤ k → k < q + m → f k ≡ true) → bits_from f q m + 1 ≡ 2 ^ m
bits_set f q zero h = refl
bits_set f q (suc m) h =
    let bit : Bool → ℕ = λ b. cond b 1 0 in
    let low : bit (f q) ≡ 1 = ap bit (h q (omega arith) (omega arith)) in
    let high : bits_from f (suc q) m + 1 ≡ 2 ^ m = bits_set f (suc q) m (λ k l u. h k (omega arith) (omega arith)) in
    let double : 2 ^ suc m ≡ 2 * 2 ^ m = pow-succ' 2 m in
    omega arith

set_word : (w : ℕ) → w + 1 ≡ 2 ^ 32 → 4294967295 ≡ w
set_word w h = omega arith

-- on each side of the root, the blocks in use come first
used_before : (n total b c : ℕ) → (b < n / 2 → c < n / 2) → b ≤ c → is_used n total c ≡ true → is_used n total b ≡ true
unfolding is_used
used_before n total b c side le h = grind (arith, nat_tests)

free_bit : (n total r : ℕ) → 2 + r < n → is_used n total (2 + r) ≡ false → is_free_bit n total r ≡ true
free_bit n total r h u = grind (arith, nat_tests)

used_bit : (n total r : ℕ) → is_used n total (2 + r) ≡ true → is_free_bit n total r ≡ false
used_bit n total r u = grind (arith, nat_tests)

not_used : (n total b c : ℕ) → (b < n / 2 → c < n / 2) → b ≤ c → is_used n total b ≡ false → is_used n total c ≡ false
not_used n total b c side le u = false_from_ne_true (is_used n total c) (λ t. true≢false (sym (used_before n total b c side le t) ∙ u))

-- a word of one side, from block a to block b, whose last block is in use
pub none_free : (n total q a b : ℕ) → a ≡ 2 + q → b ≡ 33 + q → (a < n / 2 → b < n / 2) → is_used n total b ≡ true
    → 0 ≡ bits_from (is_free_bit n total) q 32
none_free n total q a b e g side u =
    sym (bits_clear (is_free_bit n total) q 32
    (λ k l h. used_bit n total k (used_before n total (2 + k) b (λ m. side (omega arith)) (omega arith) u)))

-- a word of one side, from block a to block b, whose first block is free and whose last one is there
pub all_free : (n total q a b : ℕ) → a ≡ 2 + q → b ≡ 33 + q → (a < n / 2 → b < n / 2) → b < n → is_used n total a ≡ false
    → 4294967295 ≡ bits_from (is_free_bit n total) q 32
all_free n total q a b e g side h u =
    set_word (bits_from (is_free_bit n total) q 32) (bits_set (is_free_bit n total) q 32
    (λ k l r. free_bit n total k (omega arith) (not_used n total a (2 + k) (λ m. omega (arith, side m)) (omega arith) u)))
