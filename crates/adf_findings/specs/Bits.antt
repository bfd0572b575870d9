-- The bits as they are compared.
use Rattle.std.specs.Prelude.{◌≡◌, ◌-◌, ◌/◌, ◌%◌, ◌↔◌, ℕ, Bool, IsTrue, List, Option, Some, None}
use Rattle.std.specs.{BTreeMap.BTreeMap, BTreeMap.get, Ordering.nat_cmp}
use Rattle.adf_blocks.specs.declared.layout.TheConstants.{PAGE_BITS}
use Rattle.adf_volume.specs.Image.{IsFreeAt}
use Rattle.adf_findings.specs.Survey.{IsValidated}

-- the block of the page that has the bit of block b; none if the bit is not compared: the bitmap is not valid, or the page not taken
abbrev pub IsPageCompared : List ℕ → BTreeMap ℕ ℕ → ℕ → Option ℕ → Type 0
IsPageCompared image pages b None = IsValidated image → get nat_cmp pages ((b - 2) / PAGE_BITS) ≡ None
IsPageCompared image pages b (Some at) = IsValidated image × (get nat_cmp pages ((b - 2) / PAGE_BITS) ≡ Some at)

-- the bit of block b is compared, and is this one
abbrev pub IsBitCompared : List ℕ → BTreeMap ℕ ℕ → ℕ → Bool → Type 0
IsBitCompared image pages b t =
    (at : ℕ) × IsPageCompared image pages b (Some at) × (IsTrue t ↔ IsFreeAt image at ((b - 2) % PAGE_BITS))
