-- The bits of a word of ones.
use Rattle.std.proofs.Common.{◌≡◌, ◌<◌, ◌%◌, ◌^◌, ◌∙◌, ℕ, IsBitSet, arith, sym}
use Rattle.std.proofs.{lemmas.Nat.and_comm, lemmas.Nat.and_mask, lemmas.Nat.pow_below, lemmas.Nat.pow_pos, Math.Nat.mod-eq_of_lt}

-- each bit of a word of ones is set
pub all_set : (bit : ℕ) → bit < 32 → IsBitSet 4294967295 bit
all_set bit h e =
    let some : 0 < 2 ^ bit = pow_pos bit in
    let kept : 2 ^ bit % 2 ^ 32 ≡ 2 ^ bit = mod-eq_of_lt (pow_below bit 32 h) in
    let none : 2 ^ bit ≡ 0 = sym kept ∙ (sym (and_mask (2 ^ bit) 32) ∙ (and_comm (2 ^ bit) 4294967295 ∙ e)) in
    absurd (omega arith)
