-- The bytes of fields, and blocks composed of fields.
use Rattle.std.specs.Prelude.{◌≤◌, ◌+◌, ◌*◌, ◌-◌, ℕ, List, [], ◌∷◌, length, replicate, reverse}
use Rattle.std.specs.List.{flat_map}
use Rattle.byteorder.specs.Endian.{big_bytes}
use Rattle.adf_base.specs.{Words.with_bytes, declared.dates.Stamp.Stamp}

-- the four bytes of a word, big-endian
abbrev pub long : ℕ → List ℕ
long w = big_bytes 4 w

-- the bytes of words, one after another
abbrev pub longs : List ℕ → List ℕ
longs ws = flat_map (big_bytes 4) ws

-- a length byte and a text
abbrev pub text : List ℕ → List ℕ
text bs = length bs ∷ bs

-- the three words of a date
abbrev pub stamp : Stamp → List ℕ
stamp s = longs (s.days ∷ s.mins ∷ s.ticks ∷ [])

-- a field: the offset of its first byte, and its bytes
abbrev pub Field : Type 0
Field = ℕ × List ℕ

-- a block with these fields, and 0 elsewhere
abbrev pub block_of_fields : List Field → List ℕ
block_of_fields [] = replicate 512 0
block_of_fields (f ∷ fs) = with_bytes (block_of_fields fs) f.0 f.1

-- the fields end at most at `top`, and each ends at most where the one before it begins
abbrev pub Descends : ℕ → List Field → Type 0
Descends top [] = Unit {0}
Descends top (f ∷ fs) = (f.0 + length f.1 ≤ top) × Descends f.0 fs

-- words stored downwards from word `i`
abbrev pub downwards : ℕ → List ℕ → Field
downwards i ws = (4 * (i + 1 - length ws), longs (reverse ws))
