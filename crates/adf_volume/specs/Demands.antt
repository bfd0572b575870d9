-- The demands on one block: a list of conditions with their causes.
use Rattle.std.specs.Prelude.{◌≡◌, ℕ, List, [], ◌∷◌, Bool, ◌⊎◌, ◌*◌, length, slice_index, true, not, ◌==◌, ◌&&◌, nat_le}
use Rattle.adf_base.specs.Words.{block}
use Rattle.adf_base.specs.declared.hash.Letters.{Letters, TheVariants.Ascii, TheVariants.International as InternationalLetters}
use Rattle.adf_names.specs.declared.kind.Kind.{Kind, TheVariants.Ofs, TheVariants.Ffs}
use Rattle.adf_blocks.specs.declared.cause.Cause.{Cause, TheVariants.BadSize, TheVariants.NotDos, TheVariants.International, TheVariants.DirCache}
use Rattle.adf_blocks.specs.{Forms.Clause, RootBlock.root_form, PageBlock.page_form, HeadBlock.head_form_by, ExtBlock.ext_form, DataBlock.data_form}
use Rattle.adf_blocks.specs.Sizes.{blocks, is_allowed}

-- a condition, the cause to report if it fails, and the block reported with it
pub record Demand : Type 1 where
  pub cause : Cause
  pub at : ℕ
  pub holds : Type 0

-- a demand from its cause, block and condition
abbrev pub demand : Cause → ℕ → Type 0 → Demand
demand c b p = record { cause = c; at = b; holds = p }

-- each demand holds
abbrev pub AllHold : List Demand → Type 0
AllHold [] = Unit {0}
AllHold (x ∷ xs) = x.holds × AllHold xs

-- the first demand that fails has this block and cause
abbrev pub FirstFails : List Demand → ℕ → Cause → Type 0
FirstFails [] b c = ⊥
FirstFails (x ∷ xs) b c = ((x.holds → ⊥) × (x.at ≡ b) × (x.cause ≡ c)) ⊎ (x.holds × FirstFails xs b c)

-- the clauses of a form, as demands on block b
abbrev pub demands_at : ℕ → List Clause → List Demand
demands_at b [] = []
demands_at b (x ∷ xs) = demand x.1 b (x.0 ≡ true) ∷ demands_at b xs

-- the image is whole blocks, and their number is allowed
abbrev pub IsSize : List ℕ → Type 0
IsSize image = (length image ≡ 512 * blocks image) × (is_allowed (blocks image) ≡ true)

-- whether the boot block begins with `DOS` and a type up to 5
abbrev pub is_dos : List ℕ → Bool
is_dos b = (slice_index b 0 == 0x44) && (slice_index b 1 == 0x4F) && (slice_index b 2 == 0x53) && nat_le (slice_index b 3) 5

-- whether a type may have these letters: types 0 and 1 have ASCII letters, types 2 and 3 international ones
abbrev pub has_letters : Letters → ℕ → Bool
has_letters Ascii type = not (type == 2) && not (type == 3)
has_letters InternationalLetters type = not (type == 0) && not (type == 1)

-- the form of the first boot block: `DOS` and a type, of these letters and without directory caches
abbrev pub boot_form_by : Letters → List ℕ → List Clause
boot_form_by letters b =
    (is_dos b, NotDos)
    ∷ (has_letters letters (slice_index b 3), International)
    ∷ (not (slice_index b 3 == 4) && not (slice_index b 3 == 5), DirCache)
    ∷ []

-- the same on volumes of types 0 and 1
abbrev pub boot_form : List ℕ → List Clause
boot_form = boot_form_by Ascii

-- the demands on the size and the boot bytes of a volume with these letters
abbrev pub boot_demands_by : Letters → List ℕ → List Demand
boot_demands_by letters image = demand BadSize 0 (IsSize image) ∷ demands_at 0 (boot_form_by letters (block image 0))

-- the same on volumes of types 0 and 1
abbrev pub boot_demands : List ℕ → List Demand
boot_demands = boot_demands_by Ascii

-- the demands on the root at block b
abbrev pub root_demands : List ℕ → ℕ → List Demand
root_demands image b = demands_at b (root_form (block image b))

-- the demands on a bitmap page at block b
abbrev pub page_demands : List ℕ → ℕ → List Demand
page_demands image b = demands_at b (page_form (block image b))

-- the demands on a header at block b, in the chain of slot s of the directory at block up
-- names have these letters
abbrev pub head_demands_by : Letters → List ℕ → Kind → ℕ → ℕ → ℕ → List Demand
head_demands_by letters image kind b up s = demands_at b (head_form_by letters kind b up s (block image b))

-- the same on volumes of types 0 and 1
abbrev pub head_demands : List ℕ → Kind → ℕ → ℕ → ℕ → List Demand
head_demands = head_demands_by Ascii

-- the demands on an extension block at block b, of the file with header h
abbrev pub ext_demands : List ℕ → ℕ → ℕ → List Demand
ext_demands image b h = demands_at b (ext_form b h (block image b))

-- the demands on data block k at block b, of the file with header h: n bytes, then the next data block; none for FFS
abbrev pub data_demands : List ℕ → Kind → ℕ → ℕ → ℕ → ℕ → ℕ → List Demand
data_demands image Ofs b h k n next = demands_at b (data_form h k n next (block image b))
data_demands image Ffs b h k n next = []
