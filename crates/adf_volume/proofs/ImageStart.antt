-- The size, boot bytes and root of an image.
use Rattle.std.proofs.Common.{Some, None, cond, slice_index, ◌≡◌, ◌<◌, ◌≤◌, ℕ, List, ◌∷◌, ◌++◌, Bool, true, false, length, refl, ap, arith}
use Rattle.std.proofs.{lemmas.Bool.le-ltb, lemmas.Bool.lt-ltb, lemmas.Bool.Decides.nat_tests, lemmas.Grind.common_steps}
use Rattle.adf_base.specs.{Words.block, declared.hash.Letters.Letters, declared.hash.Letters.TheVariants.Ascii, declared.hash.Letters.TheVariants.International}
use Rattle.adf_blocks.specs.{declared.cause.Cause.Cause, declared.cause.Cause.TheVariants.BadSize, Forms.first_cause, RootBlock.root_form}
use Rattle.adf_volume.specs.Demands.{AllHold, FirstFails, IsSize, boot_demands, boot_demands_by, boot_form_by, root_demands}
use Rattle.adf_volume.specs.{Image.letters_of, Image.root_of, Start.IsBegunBy, Start.is_image_len, Start.start_form_by}
use Rattle.adf_volume.proofs.{Lists.all_append, Lists.fails_left, Lists.fails_right, FormDemands.all_demanded, FormDemands.first_demanded}

-- a size is whole blocks
size_is : (image : List ℕ) → is_image_len (length image) ≡ true → IsSize image
size_is image h = (grind (arith, nat_tests), grind (arith, nat_tests))

size_not : (image : List ℕ) → is_image_len (length image) ≡ false → IsSize image → ⊥
size_not image h k = grind (arith, common_steps, nat_tests)

-- the size and the boot bytes are those of a volume
pub boot_holds : (letters : Letters) (image : List ℕ) → first_cause (start_form_by letters image) ≡ None → AllHold (boot_demands_by letters image)
boot_holds letters image h = go (is_image_len (length image)) refl h
  where
    go : (whole : Bool) → is_image_len (length image) ≡ whole → first_cause ((whole, BadSize) ∷ boot_form_by letters (block image 0)) ≡ None
        → AllHold (boot_demands_by letters image)
    go true w h = (size_is image w, all_demanded 0 (boot_form_by letters (block image 0)) h)
    go false w h = cc

-- the image begins as a volume
pub begins : (letters : Letters) (image : List ℕ) → first_cause (start_form_by letters image) ≡ None
    → first_cause (root_form (block image (root_of image))) ≡ None → IsBegunBy letters image
begins letters image h r = all_append (boot_demands_by letters image) (root_demands image (root_of image)) (boot_holds letters image h)
    (all_demanded (root_of image) (root_form (block image (root_of image))) r)

-- or not
pub boot_fails : (letters : Letters) (image : List ℕ) (c : Cause) → first_cause (start_form_by letters image) ≡ Some c
    → FirstFails (boot_demands_by letters image) 0 c
boot_fails letters image c h = grind (arith, common_steps, size_is, first_demanded, size_not)

-- or the size, the boot bytes or the root are those of no volume
pub fails_start : (letters : Letters) (image : List ℕ) (c : Cause) → first_cause (start_form_by letters image) ≡ Some c
    → FirstFails (boot_demands_by letters image ++ root_demands image (root_of image)) 0 c
fails_start letters image c h = fails_left (boot_demands_by letters image) (root_demands image (root_of image)) 0 c (boot_fails letters image c h)

pub fails_root : (letters : Letters) (image : List ℕ) (c : Cause) → first_cause (start_form_by letters image) ≡ None
    → first_cause (root_form (block image (root_of image))) ≡ Some c
    → FirstFails (boot_demands_by letters image ++ root_demands image (root_of image)) (root_of image) c
fails_root letters image c h r = grind (arith, common_steps, fails_right, boot_holds, first_demanded)

-- the type is the fourth byte of the image
pub type_byte : (image : List ℕ) → slice_index (block image 0) 3 ≡ slice_index image 3
unfolding block
type_byte (a ∷ b ∷ c ∷ d ∷ xs) = refl
type_byte _ = refl

-- where the boot bytes have no cause, the type is 0 or 1
pub plain_type : (image : List ℕ) → AllHold (boot_demands image) → slice_index (block image 0) 3 < 2
plain_type image h = grind (arith, common_steps, nat_tests)

-- where they have none by international letters, it is 2 or 3
other_type : (image : List ℕ) → AllHold (boot_demands_by International image) → 2 ≤ slice_index (block image 0) 3
other_type image h = grind (arith, common_steps, nat_tests)

-- the letters by which they have none are those of the image
pub own_letters : (letters : Letters) (image : List ℕ) → AllHold (boot_demands_by letters image) → letters_of image ≡ letters
unfolding letters_of
own_letters Ascii image h = ap (λ low. cond low Ascii International) (lt-ltb (slice_index (block image 0) 3) 2 (plain_type image h))
own_letters International image h = ap (λ low. cond low Ascii International) (le-ltb (slice_index (block image 0) 3) 2 (other_type image h))

pub plain_letters : (image : List ℕ) → AllHold (boot_demands image) → letters_of image ≡ Ascii
plain_letters = own_letters Ascii
