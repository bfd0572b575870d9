-- The types of volumes that are accepted.
use Rattle.std.specs.Prelude.{ℕ, Bool, List}
use Rattle.adf_base.specs.declared.hash.Letters.{Letters, TheVariants.Ascii}
use Rattle.adf_blocks.specs.Sizes.{is_allowed, is_plain_size}
use Rattle.adf_blocks.specs.declared.layout.TheConstants.{MOST_BLOCKS, MOST_PLAIN_BLOCKS}
use Rattle.adf_volume.specs.Image.{letters_of}
use Rattle.adf_volume.specs.declared.types.Types.{Types, TheVariants.Plain, TheVariants.WithInternational}

-- the letters by which the names of an image are read where these types are accepted
abbrev pub letters_for : Types → List ℕ → Letters
letters_for Plain image = Ascii
letters_for WithInternational image = letters_of image

-- the most blocks of a volume where these types are accepted
abbrev pub most_blocks : Types → ℕ
most_blocks Plain = MOST_PLAIN_BLOCKS
most_blocks WithInternational = MOST_BLOCKS

-- whether a volume may have n blocks where these types are accepted
abbrev pub is_size_of : Types → ℕ → Bool
is_size_of Plain n = is_plain_size n
is_size_of WithInternational n = is_allowed n
