-- The bitmap extension blocks of a volume.
use Rattle.std.proofs.Common.{map, take, min, ◌≡◌, ◌≤◌, ◌<◌, ◌+◌, ◌-◌, ◌*◌, ◌^◌, ℕ, List, arith, true, add-one}
use Rattle.adf_base.specs.Words.{with_block}
use Rattle.adf_blocks.specs.{MapExtBlock.map_ext_block, Sizes.is_allowed, Sizes.middle, Sizes.pages_needed}
use Rattle.adf_blocks.specs.declared.layout.TheConstants.{MAP_EXT_PAGES, ROOT_PAGES}
use Rattle.std.specs.List.{range_with_len}
use Rattle.std.proofs.lemmas.Grind.{common_steps}
use Rattle.adf_volume.specs.Image.{map_exts_needed}
use Rattle.adf_volume.proofs.Sizes.{size_high, size_low}
use Rattle.adf_build.specs.{Laid.map_ext_or_none, Laid.map_ext_part, Writes.with_blocks}
use Rattle.adf_build.proofs.{AllocatedBlocks.reserved_below, LaidWrites.reserved_parts, Parts.part_step}

-- a bitmap extension block lies whole in the image
pub map_ext_fits : (n b j l : ℕ) → is_allowed n ≡ true → b ≡ middle n + 1 + pages_needed n + j → j < map_exts_needed (pages_needed n) → l ≡ n * 512
    → b * 512 + 512 ≤ l
map_ext_fits n b j l a g h e = grind (arith, common_steps, size_low, reserved_below, reserved_parts)

-- and they are few
pub map_exts_few : (n : ℕ) → is_allowed n ≡ true → map_exts_needed (pages_needed n) < 2 ^ 15
unfolding map_exts_needed
map_exts_few n a = let high = size_high n a in omega arith

-- one bitmap extension block more
pub map_exts_step : (image old all table : List ℕ) (n b first j m few next : ℕ) → b ≡ middle n + 1 + pages_needed n + j → j < m
    → few ≡ min MAP_EXT_PAGES (pages_needed n - (ROOT_PAGES + MAP_EXT_PAGES * j))
    → first ≡ middle n + 1 + (ROOT_PAGES + MAP_EXT_PAGES * j) → take few table ≡ range_with_len first few → next ≡ map_ext_or_none n (j + 1)
    → with_blocks old (map (map_ext_part n) (range_with_len j (m - j))) ≡ all → image ≡ with_block old b (map_ext_block (take few table) next)
    → with_blocks image (map (map_ext_part n) (range_with_len (j + 1) (m - (j + 1)))) ≡ all
map_exts_step image old all table n b first j m few next e lt f i g h inv w =
    let up = add-one j in
    part_step image old all _ (map_ext_part n) j b m lt e (cc) inv w
