-- Bitmap extension blocks. They have no checksum and no type, so every block is one.
use Rattle.std.specs.Prelude.{◌*◌, ℕ, List, [], ◌∷◌}
use Rattle.adf_blocks.specs.declared.layout.TheConstants.{MAP_EXT_FIRST, MAP_EXT_NEXT}
use Rattle.adf_blocks.specs.Fields.{Field, block_of_fields, long, longs}

-- the fields of a bitmap extension block with these pages and the next such block, with their offsets, the last first
abbrev pub map_ext_table : List ℕ → ℕ → List Field
map_ext_table pages next = (4 * MAP_EXT_NEXT, long next) ∷ (4 * MAP_EXT_FIRST, longs pages) ∷ []

-- the bytes of a bitmap extension block with these pages and the next such block
unfoldable pub map_ext_block : List ℕ → ℕ → List ℕ
map_ext_block pages next = block_of_fields (map_ext_table pages next)
