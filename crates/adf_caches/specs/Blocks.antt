-- The blocks of directory caches.
-- Letters: w the walk of an image's survey; d a directory, by its node.
use Rattle.std.specs.Prelude.{◌≡◌, ◌+◌, ℕ, true, cond, List, [], is_some}
use Rattle.std.specs.{List.flat_map, List.range_with_len, Option.unwrap_or}
use Rattle.adf_volume.specs.Walk.{Walk, heads}
use Rattle.adf_caches.specs.Caches.{cache_chain, is_found_directory}

-- the chain of each directory that is found is right to its end
abbrev pub HaveChains : List ℕ → Walk → Type 0
HaveChains image w = (d : ℕ) → is_found_directory image w d ≡ true → is_some (cache_chain image w d) ≡ true

-- the blocks of the cache of directory d: those of its chain
abbrev pub blocks_of_cache : List ℕ → Walk → (d : ℕ) → List ℕ
blocks_of_cache image w d = cond (is_found_directory image w d) (unwrap_or (cache_chain image w d) []) []

-- the blocks of the caches of all directories, the root first
abbrev pub cache_blocks : List ℕ → Walk → List ℕ
cache_blocks image w = flat_map (blocks_of_cache image w) (range_with_len 0 (heads w + 1))
