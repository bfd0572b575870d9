-- What is written into the boot blocks of an image. The first four bytes stay, and so do all behind the boot blocks.
use Rattle.std.specs.Prelude.{◌≡◌, ◌==◌, ◌&&◌, ◌-◌, ℕ, Bool, List, false, true, if◌then◌else◌, not, replicate, slice_index, slice_range}
use Rattle.adf_base.specs.Words.{with_bytes, with_word}
use Rattle.adf_boot_blocks.specs.BootBlocks.{begins_with_dos, has_right_sum, is_bootable, with_sum}
use Rattle.adf_boot_blocks.specs.declared.boot.TheConstants.{BOOT_LEN, CODE, ROOT}

-- the image without code: zeros behind its type
unfoldable pub cleared : List ℕ → List ℕ
cleared image = with_bytes image 4 (replicate (BOOT_LEN - 4) 0)

-- the image with the boot blocks of another as they stand behind its own type
abbrev pub with_boot : List ℕ → List ℕ → List ℕ
with_boot image boot = with_bytes image 4 (slice_range boot 4 BOOT_LEN)

-- the same with a checksum that is right
abbrev pub copied : List ℕ → List ℕ → List ℕ
copied image boot = with_sum (with_boot image boot)

-- the checksum of boot blocks is right, but for another type than that of an image
abbrev pub is_of_other_type : List ℕ → List ℕ → Bool
is_of_other_type image boot = has_right_sum boot && not (slice_index boot 3 == slice_index image 3)

-- the image with the boot blocks of another that begins with `DOS`, as they stand, but with a checksum that is right where theirs was
unfoldable pub restored : List ℕ → List ℕ → List ℕ
restored image boot =
    if not (begins_with_dos boot) then image else (if is_of_other_type image boot then copied image boot else with_boot image boot)

-- the image with this code and the number of its root, and zeros behind
abbrev pub installed : List ℕ → ℕ → List ℕ → List ℕ
installed image root code = with_sum (with_bytes (with_word (cleared image) ROOT root) CODE code)

-- an image has the boot blocks of another: what is behind the checksum; that too, if it is not right for another type; and it is
-- bootable if the other is
pub record HasBootOf (boot image : List ℕ) : Type 0 where
  pub code : slice_range image 8 BOOT_LEN ≡ slice_range boot 8 BOOT_LEN
  pub sum : is_of_other_type image boot ≡ false → slice_range image 4 8 ≡ slice_range boot 4 8
  pub bootable : is_bootable boot ≡ true → is_bootable image ≡ true
