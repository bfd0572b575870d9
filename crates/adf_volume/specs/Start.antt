-- Images with a valid size, boot block and root.
use Rattle.std.specs.Prelude.{◌≡◌, ◌≤◌, ◌/◌, ◌%◌, ◌==◌, ◌&&◌, Bool, ℕ, List, ◌∷◌, ◌++◌, length}
use Rattle.adf_base.specs.{Words.block, declared.hash.Letters.Letters, declared.hash.Letters.TheVariants.Ascii}
use Rattle.adf_blocks.specs.{declared.cause.Cause.TheVariants.BadSize, Forms.Clause, Sizes.blocks, Sizes.is_allowed}
use Rattle.adf_names.specs.declared.kind.Kind.{Kind}
use Rattle.adf_volume.specs.Demands.{AllHold, boot_demands_by, boot_form_by, root_demands}
use Rattle.adf_volume.specs.Image.{kind_of, letters_of, root_of}
use Rattle.adf_volume.specs.{Types.letters_for, Types.most_blocks, declared.types.Types.Types, declared.types.Types.TheVariants.Plain}

-- the size, the boot bytes and the root of a volume with these letters are valid
abbrev pub IsBegunBy : Letters → List ℕ → Type 0
IsBegunBy letters image = AllHold (boot_demands_by letters image ++ root_demands image (root_of image))

-- an image that is no larger than volumes of these types begins as one of them
abbrev pub IsBegunOf : Types → List ℕ → Type 0
IsBegunOf types image = (blocks image ≤ most_blocks types) × IsBegunBy (letters_for types image) image

-- the same of a volume of type 0 or 1
abbrev pub IsBegun : List ℕ → Type 0
IsBegun = IsBegunOf Plain

-- the same of a volume with the letters of its own type
abbrev pub IsOwnBegun : List ℕ → Type 0
IsOwnBegun image = IsBegunBy (letters_of image) image

-- an image that begins as a volume with the letters of its own type, of this kind, these letters and this number of blocks
pub record IsImage (image : List ℕ) (read : Kind) (letters : Letters) (n : ℕ) : Type 0 where
  pub begun : IsOwnBegun image
  pub kind : read ≡ kind_of image
  pub own : letters ≡ letters_of image
  pub blocks : n ≡ blocks image

-- the length is whole blocks, and their number is allowed
abbrev pub is_image_len : ℕ → Bool
is_image_len size = (size % 512 == 0) && is_allowed (size / 512)

-- the form of the size and the boot bytes of an image with these letters
abbrev pub start_form_by : Letters → List ℕ → List Clause
start_form_by letters image = (is_image_len (length image), BadSize) ∷ boot_form_by letters (block image 0)

-- the same of an image of type 0 or 1
abbrev pub start_form : List ℕ → List Clause
start_form = start_form_by Ascii
