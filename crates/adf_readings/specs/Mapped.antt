-- Readings with maps, which say what of the disk each has. Letters: m a reading with its map, ms such readings; b the number of a block.
use Rattle.std.specs.Prelude.{ℕ, Bool, false, true, if◌then◌else◌, not, List, [], ◌∷◌, Option, None, Some, map}
use Rattle.std.specs.List.{filter}
use Rattle.adf_maps.specs.Maps.{MapValue, is_unread}

-- a reading, and its map, if there is one
pub record MappedValue : Type 0 where
  pub image : List ℕ
  pub map : Option MapValue

-- a byte of a block is in no stretch that the map says was read
abbrev pub lacks_by : Option MapValue → ℕ → Bool
lacks_by None b = false
lacks_by (Some m) b = is_unread m b

-- a reading lacks a block
abbrev pub lacks : MappedValue → ℕ → Bool
lacks m b = lacks_by m.map b

abbrev pub images : List MappedValue → List (List ℕ)
images ms = map (λ m. m.image) ms

-- the readings that have a block
abbrev pub having : List MappedValue → ℕ → List MappedValue
having ms b = filter (λ m. not (lacks m b)) ms

abbrev pub is_none : List MappedValue → Bool
is_none [] = true
is_none (m ∷ ms) = false

-- no reading has a block
abbrev pub is_lacked : List MappedValue → ℕ → Bool
is_lacked ms b = is_none (having ms b)

-- the images whose versions of a block count: those that have it, or all, if none has it
abbrev pub sources : List MappedValue → ℕ → List (List ℕ)
sources ms b = if is_lacked ms b then images ms else images (having ms b)
