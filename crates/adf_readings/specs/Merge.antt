-- The image that readings of one disk are merged into. Letters: n the number of blocks, b that of one; ms the readings with their maps.
use Rattle.std.specs.Prelude.{◌≡◌, ◌<◌, ◌*◌, ◌⊎◌, ℕ, true, false, List, All, Contains, length}
use Rattle.adf_base.specs.Words.{block}
use Rattle.adf_readings.specs.Mapped.{MappedValue, is_lacked, lacks}

-- each reading has so many blocks
abbrev pub HaveBlocks : ℕ → List MappedValue → Type 0
HaveBlocks n ms = All (λ m. length m.image ≡ n * 512) ms

-- a reading has this version of a block: one that has the block, if any has it
pub record HasVersion (ms : List MappedValue) (b : ℕ) (v : List ℕ) : Type 0 where
  pub reading : MappedValue
  pub one : Contains ms reading
  pub version : block reading.image b ≡ v
  pub has : (lacks reading b ≡ false) ⊎ (is_lacked ms b ≡ true)

-- each of so many blocks of an image is the version of a reading
pub record IsMergeOf (n : ℕ) (ms : List MappedValue) (image : List ℕ) : Type 0 where
  pub long : length image ≡ n * 512
  pub versions : (b : ℕ) → b < n → HasVersion ms b (block image b)

-- each of so many blocks is in a reading
abbrev pub AreFound : ℕ → List MappedValue → Type 0
AreFound n ms = (b : ℕ) → b < n → is_lacked ms b ≡ false
