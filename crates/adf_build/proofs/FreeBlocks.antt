-- The blocks free for entries, and the tables that point to them.
use Rattle.std.proofs.Common.{◌≡◌, ◌≤◌, ◌<◌, ◌+◌, ◌-◌, ◌*◌, ◌/◌, ◌^◌, ℕ, List, arith, true, length, take, nat_le, nat_lt, ◌||◌}
use Rattle.std.proofs.{Math.ListN.set, lemmas.Bool.Decides.nat_tests, lemmas.List.take_more_set, lemmas.Grind.common_steps}
use Rattle.adf_names.specs.declared.kind.Kind.{Kind, TheVariants.Ofs, TheVariants.Ffs}
use Rattle.adf_blocks.specs.Sizes.{chunk, count, is_allowed, pages_needed}
use Rattle.adf_volume.specs.Image.{map_exts_needed}
use Rattle.adf_volume.proofs.Sizes.{size_high, size_low}
use Rattle.adf_build.specs.{Bits.is_used, Plan.nth_free, Plan.reserved, Plan.allocated}
use Rattle.adf_build.proofs.AllocatedBlocks.{free_below, allocated-append}

-- the pages and the bitmap extension blocks are few
pub reserved_few : (n p m : ℕ) → is_allowed n ≡ true → p ≡ pages_needed n → m ≡ map_exts_needed (pages_needed n) → p + m < 2 ^ 16
unfolding map_exts_needed
reserved_few n p m a e f = let high = size_high n a in omega arith

-- a block that is used, below the root
pub used_low : (n total b : ℕ) → b < n / 2 → is_used n total b ≡ nat_lt (b - 2) total
unfolding is_used
used_low n total b h = grind (arith, nat_tests)

-- a block that is used, from the root on
pub used_high : (n total b : ℕ) → n / 2 ≤ b → is_used n total b ≡ (nat_le b (n / 2 + reserved n) || nat_lt (b - (3 + reserved n)) total)
unfolding is_used
used_high n total b h = grind (arith, nat_tests)

-- a free block lies whole in the image
pub free_fits : (n k l : ℕ) → is_allowed n ≡ true → 1 + reserved n + (k + 1) ≤ n - 2 → l ≡ n * 512 → nth_free n k * 512 + 512 ≤ l
free_fits n k l h r e = grind (arith, common_steps, size_low, free_below)

-- one block more in a table
pub allocated_step : (table : List ℕ) (n k j v : ℕ) → j < length table → take j table ≡ allocated n k j → v ≡ nth_free n (k + j)
    → take (j + 1) (set table j v) ≡ allocated n k (j + 1)
allocated_step table n k j v h e f = grind (arith, common_steps, take_more_set, allocated-append)

-- a file in so many data blocks is not longer than they are
pub size_small : (kind : Kind) (size : ℕ) → size ≤ 512 * count kind size
unfolding count chunk
size_small Ofs size = omega arith
size_small Ffs size = omega arith
