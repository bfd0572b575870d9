-- The blocks that a map says were not read. Letters: m a map; k a number of blocks.
use Rattle.std.specs.Prelude.{ℕ, min, Bool, List, [], ◌∷◌, ◌++◌}
use Rattle.std.proofs.Common.{zero, suc}
use Rattle.adf_blocks.specs.{Sizes.blocks, declared.layout.TheConstants.MOST_BLOCKS}
use Rattle.adf_maps.specs.Maps.{MapValue, is_unread}

-- whether each of the first k blocks was not read
unfoldable pub unread_among : MapValue → ℕ → List Bool
unread_among m zero = []
unread_among m (suc k) = unread_among m k ++ is_unread m k ∷ []

-- whether each block was not, as far as the largest volume reaches
abbrev pub map_marks : MapValue → List ℕ → List Bool
map_marks m image = unread_among m (min MOST_BLOCKS (blocks image))
