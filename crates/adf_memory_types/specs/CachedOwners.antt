-- What the call promises that tells the roles of blocks of volumes with directory caches, and of those of any type.
-- Letters: w the walk of an image's survey; n what a call returns; b a block, bs blocks.
use Rattle.std.specs.Prelude.{◌≡◌, ℕ, true, false, List, fold, set}
use Rattle.adf_findings.specs.Survey.{OnSurvey}
use Rattle.adf_volume.specs.declared.types.Types.TheVariants.{WithInternational}
use Rattle.adf_volume.specs.OwnerClass.{class_number}
use Rattle.adf_volume.specs.declared.owner_class.OwnerClass.TheVariants.{Ext}
use Rattle.adf_uncached.specs.Uncached.{right_blocks, uncached}
use Rattle.adf_memory.specs.CheckCalls.{TellsOwners}
use Rattle.adf_memory_types.specs.CachedCalls.{IsCheckedCached, is_cached_image}

-- the room where block b has the role of an extension block; as it was if it has no place for it
abbrev pub with_cache_role : List ℕ → ℕ → List ℕ
with_cache_role room b = set room b (class_number Ext)

-- and each of these blocks
abbrev pub with_cache_roles : List ℕ → List ℕ → List ℕ
with_cache_roles bs room = fold with_cache_role room bs

-- adf_owners_types of a volume with directory caches: the roles are those of the image without caches, where each block of a cache has that of an
-- extension block; a refused image leaves the room as it was
pub record TellsWithCaches (image old new : List ℕ) (n : ℕ) : Type 0 where
  pub checked : (b : ℕ) × IsCheckedCached image b n
  pub roles : n ≡ 0 → OnSurvey image (λ w _. (plain : List ℕ) × TellsOwners WithInternational (uncached image w) old plain 0
      × (new ≡ with_cache_roles (right_blocks image w) plain))
  pub unchanged : ¬ (n ≡ 0) → new ≡ old

-- adf_owners_types: of a volume with directory caches, or of another
pub record TellsAnyOwners (image old new : List ℕ) (n : ℕ) : Type 0 where
  pub cached : is_cached_image image ≡ true → TellsWithCaches image old new n
  pub others : is_cached_image image ≡ false → TellsOwners WithInternational image old new n
