-- What the calls promise of images of volumes with directory caches, and of those of any type.
-- Letters: t a tree; l its layout; n what a call returns; b a block; c a cause.
use Rattle.std.specs.Prelude.{◌≡◌, ◌+◌, ◌&&◌, ℕ, Bool, true, false, List, length}
use Rattle.adf_base.specs.declared.hash.Letters.TheVariants.{International}
use Rattle.adf_names.specs.VolumeTypes.{type_number}
use Rattle.adf_tree.specs.Tree.{Tree}
use Rattle.adf_blocks.specs.{Causes.cause_number, declared.cause.Cause.Cause}
use Rattle.adf_volume.specs.{Layout.Layout, Start.is_image_len, declared.counts.Counts.Counts}
use Rattle.adf_volume.specs.declared.types.Types.TheVariants.{WithInternational}
use Rattle.adf_uncached.specs.{Uncached.is_cached, Cached.cached_counts}
use Rattle.adf_cached_files.specs.InPlace.{FirstFaultInPlace, FitsInPlace}
use Rattle.adf_memory.specs.{CheckCalls.ChecksImage, declared.verdict.Verdict.Verdict}
use Rattle.adf_memory.specs.Verdicts.{IsVerdictNumber, OnFault, WantsMemory, refused}

-- an image of an allowed size is that of a volume with directory caches if its type says so
abbrev pub is_cached_image : List ℕ → Bool
is_cached_image image = is_cached image && is_image_len (length image)

-- the verdict on a volume with directory caches: its numbers, of type 4 or 5, and no block of a fault
abbrev pub accepted_cached : Counts → Verdict
accepted_cached c = record {
  kind = type_number International c.kind + 2;
  blocks = c.blocks;
  used = c.used;
  free = c.free;
  dirs = c.dirs;
  files = c.files;
  block = 0;
}

-- n is 0 if a tree and a layout fit the image in place, as that of a volume with directory caches. Else it is the number of the first fault's cause, which
-- block b has, and nothing fits; or memory ran out, and b is 0
pub record IsCheckedCached (image : List ℕ) (b n : ℕ) : Type 0 where
  pub number : IsVerdictNumber n
  pub fits : n ≡ 0 → (t : Tree) × (l : Layout) × FitsInPlace image t l
  pub first : OnFault n ((c : Cause) × (cause_number c ≡ n) × FirstFaultInPlace image b c)
  pub none : OnFault n ((t : Tree) (l : Layout) → FitsInPlace image t l → ⊥)
  pub memory : WantsMemory n → b ≡ 0

-- adf_check_types of a volume with directory caches: the verdict has the counts of what fits, or the block of the fault
pub record ChecksWithCaches (image : List ℕ) (verdict : Verdict) (n : ℕ) : Type 0 where
  pub checked : IsCheckedCached image verdict.block n
  pub counts : n ≡ 0 → (t : Tree) (l : Layout) (fits : FitsInPlace image t l) → verdict ≡ accepted_cached (cached_counts image fits.cached.walk t l)
  pub refused : ¬ (n ≡ 0) → verdict ≡ refused verdict.block

-- adf_check_types: of a volume with directory caches, or of another
pub record ChecksAnyType (image : List ℕ) (verdict : Verdict) (n : ℕ) : Type 0 where
  pub cached : is_cached_image image ≡ true → ChecksWithCaches image verdict n
  pub others : is_cached_image image ≡ false → ChecksImage WithInternational image verdict n
