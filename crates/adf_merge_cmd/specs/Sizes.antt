-- The sizes and types of readings.
use Rattle.std.specs.Prelude.{◌==◌, ◌&&◌, ◌%◌, ℕ, Bool, List, length, nat_le, slice_index}
use Rattle.adf_merge_cmd.specs.declared.sizes.TheConstants.{LEAST_BYTES, MOST_BYTES}

-- a reading is whole blocks, four or more, and no more than the largest volume has
abbrev pub has_reading_size : List ℕ → Bool
has_reading_size r = (length r % 512 == 0) && nat_le LEAST_BYTES (length r) && nat_le (length r) MOST_BYTES

-- a reading begins with `DOS`
abbrev pub has_dos : List ℕ → Bool
has_dos r = (slice_index r 0 == 0x44) && (slice_index r 1 == 0x4F) && (slice_index r 2 == 0x53)
