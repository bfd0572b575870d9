-- Images that get other boot blocks.
use Rattle.std.proofs.Common.{◌≡◌, ◌<◌, ◌≤◌, ◌%◌, ℕ, List, Bool, true, false, Option, None, Some, if◌then◌else◌, length, nat_le, not, refl}
use Rattle.std.specs.Prelude.{◌==◌, ◌&&◌}
use Rattle.std.proofs.lemmas.Bool.{and_parts, leb-true, lt-leb}
use Rattle.adf_boot_blocks.specs.{BootBlocks.begins_with_dos, declared.boot.TheConstants.BOOT_LEN, declared.refusal.BootRefusal.BootRefusal}
use Rattle.adf_boot_blocks.specs.Refusals.{copy_refusal, has_image_size, image_refusal}
use Rattle.adf_boot_blocks.specs.declared.refusal.BootRefusal.TheVariants.{BadSize, NotDos, BadSourceSize, SourceNotDos}
use Rattle.adf_boot_blocks.specs.declared.refusal.TheConstants.{LEAST_BYTES, MOST_BYTES}

-- an image that gets other boot blocks
pub record IsTaken (image : List ℕ) : Type 0 where
  pub least : LEAST_BYTES ≤ length image
  pub most : length image ≤ MOST_BYTES
  pub dos : begins_with_dos image ≡ true

-- a source that gives them, and the image that gets them
pub record IsCopied (image source : List ℕ) : Type 0 where
  pub boot : BOOT_LEN ≤ length source
  pub taken : IsTaken image

-- what two tests do not refuse is the rest
neither : (whole dos : Bool) (x y : BootRefusal) (rest : Option BootRefusal)
    → (if not whole then Some x else (if dos then rest else Some y)) ≡ None → (whole ≡ true) × (dos ≡ true) × (rest ≡ None)
neither true true x y rest e = (refl, refl, e)
neither true false x y rest e = cc
neither false dos x y rest e = cc

pub image_taken : (image : List ℕ) → image_refusal image ≡ None → IsTaken image
image_taken image e =
    let taken = neither (has_image_size image) (begins_with_dos image) BadSize NotDos None e in
    let size = and_parts ((length image % 512 == 0) && nat_le LEAST_BYTES (length image)) (nat_le (length image) MOST_BYTES) taken.0 in
    record {
      least = leb-true LEAST_BYTES (length image) (and_parts (length image % 512 == 0) (nat_le LEAST_BYTES (length image)) size.0).1;
      most = leb-true (length image) MOST_BYTES size.1;
      dos = taken.1;
    }

pub copy_taken : (image source : List ℕ) → copy_refusal image source ≡ None → IsCopied image source
copy_taken image source e =
    let taken = neither (nat_le BOOT_LEN (length source)) (begins_with_dos source) BadSourceSize SourceNotDos (image_refusal image) e in
    record { boot = leb-true BOOT_LEN (length source) taken.0; taken = image_taken image taken.2 }

and_none : (a b c : Bool) → c ≡ false → (a && b && c) ≡ false
and_none true true c e = e
and_none true false c e = refl
and_none false b c e = refl

pub large_refused : (image : List ℕ) → MOST_BYTES < length image → image_refusal image ≡ Some BadSize
large_refused image lt =
    let large : has_image_size image ≡ false =
    and_none (length image % 512 == 0) (nat_le LEAST_BYTES (length image)) (nat_le (length image) MOST_BYTES) (lt-leb (length image) MOST_BYTES lt) in
    rw large refl
