-- The free blocks of a built volume of n blocks, and its bitmap pages.
use Rattle.std.specs.Prelude.{ℕ, List, ◌+◌, ◌-◌, ◌*◌, ◌&&◌, ◌||◌, nat_lt, nat_le, not, cond, Bool, map}
use Rattle.std.specs.List.{range_with_len}
use Rattle.std.proofs.Common.{zero, suc}
use Rattle.adf_blocks.specs.{declared.layout.TheConstants.PAGE_BITS, Sizes.middle}
use Rattle.adf_build.specs.Plan.{reserved}

-- block b is the root, a reserved block or one of the first `total` free blocks
unfoldable pub is_used : ℕ → ℕ → ℕ → Bool
is_used n total b = (nat_le (middle n) b && nat_le b (middle n + reserved n)) || nat_lt (cond (nat_lt b (middle n)) (b - 2) (b - 3 - reserved n)) total

-- bit r of a volume is set: block 2 + r exists and is not used
abbrev pub is_free_bit : ℕ → ℕ → ℕ → Bool
is_free_bit n total r = nat_lt (2 + r) n && not (is_used n total (2 + r))

-- the number with the m bits f q, f (q + 1), .., the lowest first
abbrev pub bits_from : (ℕ → Bool) → ℕ → ℕ → ℕ
bits_from f q zero = 0
bits_from f q (suc m) = cond (f q) 1 0 + 2 * bits_from f (suc q) m

-- words 1 to 127 of page j
abbrev pub page_words : ℕ → ℕ → ℕ → List ℕ
page_words n total j = map (λ w. bits_from (is_free_bit n total) (PAGE_BITS * j + 32 * w) 32) (range_with_len 0 127)
