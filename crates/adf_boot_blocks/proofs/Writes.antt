-- What writes into the boot blocks leave.
use Rattle.std.proofs.Common.{◌≡◌, ℕ, List, true, ◌+◌, ◌-◌, ◌*◌, ◌<◌, ◌≤◌, length, slice_index, take, sym, ap, ◌∙◌, arith, refl}
use Rattle.std.proofs.{lemmas.Grind.common_steps, lemmas.List.get_or-take, lemmas.List.take-take}
use Rattle.byteorder.specs.Endian.{big_bytes}
use Rattle.adf_base.specs.Words.{with_bytes, with_word, words}
use Rattle.adf_base.proofs.WordLaws.{drop-with_bytes_above, front-with_bytes, length-big_bytes, length-with_bytes}
use Rattle.adf_boot_blocks.specs.BootBlocks.{IsOtherBoot, begins_with_dos, carry_sum, has_right_sum, is_bootable, with_sum}
use Rattle.adf_boot_blocks.specs.declared.boot.TheConstants.{BOOT_LEN, BOOT_WORDS, CHECKSUM, RIGHT_SUM}

pub same_boot : (image : List ℕ) → IsOtherBoot image image
same_boot image = record { long = refl; begins = refl; behind = refl }

-- fewer bytes at the front
front : (from : ℕ) (xs ys : List ℕ) → 4 ≤ from → take from xs ≡ take from ys → take 4 xs ≡ take 4 ys
front from xs ys low e = sym (four xs) ∙ ap (take 4) e ∙ four ys
  where
    four : (zs : List ℕ) → take 4 (take from zs) ≡ take 4 zs
    four zs = take-take 4 from zs low

-- bytes that are written between the type and the end of the boot blocks
pub other_bytes : (image bs : List ℕ) (from : ℕ) (xs : List ℕ) → IsOtherBoot image bs → BOOT_LEN ≤ length image → 4 ≤ from
    → from + length xs ≤ BOOT_LEN → IsOtherBoot image (with_bytes bs from xs)
other_bytes image bs from xs o long low room =
    let whole : BOOT_LEN ≤ length bs = omega (arith, o.long) in
    record {
      long = length-with_bytes bs from xs (omega arith) ∙ o.long;
      begins = front from (with_bytes bs from xs) bs low (front-with_bytes bs from xs (omega arith)) ∙ o.begins;
      behind = drop-with_bytes_above bs from xs BOOT_LEN (omega arith) room ∙ o.behind;
    }

-- a word that is written there
pub other_word : (image bs : List ℕ) (i v : ℕ) → IsOtherBoot image bs → BOOT_LEN ≤ length image → 4 ≤ 4 * i → 4 * i + 4 ≤ BOOT_LEN
    → IsOtherBoot image (with_word bs i v)
other_word image bs i v o long low room =
    other_bytes image bs (4 * i) (big_bytes 4 v) o long low (omega (arith, length-big_bytes 4 v))

-- one change after another
pub other_next : (image bs cs : List ℕ) → IsOtherBoot image bs → IsOtherBoot bs cs → IsOtherBoot image cs
other_next image bs cs o p = record { long = p.long ∙ o.long; begins = p.begins ∙ o.begins; behind = p.behind ∙ o.behind }

-- the checksum
pub other_sum : (image : List ℕ) → BOOT_LEN ≤ length image → IsOtherBoot image (with_sum image)
other_sum image long =
    other_word image image CHECKSUM (RIGHT_SUM - carry_sum (words BOOT_WORDS (with_word image CHECKSUM 0))) (same_boot image) long (omega arith) (omega arith)

-- the first bytes of an image and one with other boot blocks
pub begun_byte : (image other : List ℕ) → IsOtherBoot image other → (i : ℕ) → i < 4 → slice_index other i ≡ slice_index image i
begun_byte image other o i lt =
    grind (arith, common_steps, get_or-take 4 other i 0 lt, get_or-take 4 image i 0 lt, o.begins)

pub bootable : (image other : List ℕ) → IsOtherBoot image other → has_right_sum other ≡ true → begins_with_dos image ≡ true
    → is_bootable other ≡ true
bootable image other o right dos =
    let begins : begins_with_dos other ≡ true =
    rw (begun_byte image other o 0 (omega arith), begun_byte image other o 1 (omega arith), begun_byte image other o 2 (omega arith)) dos in
    rw (begins, right) refl
