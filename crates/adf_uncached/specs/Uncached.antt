-- Images of volumes with directory caches, as volumes without.
-- Letters: w the walk of an image's survey; d a directory, by its node; b a block, bs blocks.
use Rattle.std.specs.Prelude.{◌≡◌, ◌+◌, ◌-◌, ◌==◌, ◌||◌, ℕ, Bool, List, [], Option, Some, None, find, fold, set, slice_index, option_map}
use Rattle.std.specs.List.{range_with_len}
use Rattle.adf_blocks.specs.declared.cause.Cause.{TheVariants.DirCache, TheVariants.OwnedFree}
use Rattle.adf_volume.specs.{Fault.fault, Walk.Walk, Walk.heads, declared.fault.Fault.Fault}
use Rattle.adf_caches.specs.{Blocks.cache_blocks, Caches.directory_header, Caches.is_wrong_cache}
use Rattle.adf_uncached.specs.Bits.{is_free, with_free}
use Rattle.adf_uncached.specs.declared.images.Uncached.{Uncached}

-- the type in the boot block is one of directory caches
abbrev pub is_cached : List ℕ → Bool
is_cached image = (slice_index image 3 == 4) || (slice_index image 3 == 5)

-- the first directory whose cache is wrong, the root before all others
abbrev pub first_wrong : List ℕ → Walk → Option ℕ
first_wrong image w = find (is_wrong_cache image w) (range_with_len 0 (heads w + 1))

-- the blocks of the caches; none if that of a directory is wrong
abbrev pub blocks_if_right : List ℕ → Walk → Option ℕ → List ℕ
blocks_if_right image w (Some d) = []
blocks_if_right image w None = cache_blocks image w

-- the blocks of the caches, where none is wrong
abbrev pub right_blocks : List ℕ → Walk → List ℕ
right_blocks image w = blocks_if_right image w (first_wrong image w)

-- the image with the same type without caches: 2 for 4, 3 for 5
abbrev pub plainly_typed : List ℕ → List ℕ
plainly_typed image = set image 3 (slice_index image 3 - 2)

-- the image with the same type without caches, and these blocks free in the bitmap
abbrev pub freed : List ℕ → Walk → List ℕ → List ℕ
freed image w bs = fold (with_free w) (plainly_typed image) bs

-- the image as that of a volume without caches: of the type without, and the blocks of right caches free in the bitmap
abbrev pub uncached : List ℕ → Walk → List ℕ
uncached image w = freed image w (right_blocks image w)

-- the fault of the first of these blocks that is free in the bitmap
abbrev pub free_fault : List ℕ → Walk → List ℕ → Option Fault
free_fault image w bs = option_map (λ b. fault b OwnedFree) (find (is_free image w) bs)

-- the fault of the wrong cache of a directory, at its header; if none is wrong, of a block of a cache that is free in the bitmap
abbrev pub fault_if_wrong : List ℕ → Walk → Option ℕ → Option Fault
fault_if_wrong image w (Some d) = Some (fault (directory_header image w d) DirCache)
fault_if_wrong image w None = free_fault image w (cache_blocks image w)

-- the fault of the caches, if they have one
abbrev pub cache_fault : List ℕ → Walk → Option Fault
cache_fault image w = fault_if_wrong image w (first_wrong image w)

-- what is kept of an image as one without caches: its bytes, the blocks of its caches, and their fault
pub record KeepsAs (u : Uncached) (copy listed : List ℕ) (caches : Option Fault) : Type 0 where
  pub bytes : u.image.items ≡ copy
  pub blocks : u.blocks.items ≡ listed
  pub fault : u.fault ≡ caches

-- it is the image as one without caches
abbrev pub IsUncached : List ℕ → Walk → Uncached → Type 0
IsUncached image w u = KeepsAs u (uncached image w) (right_blocks image w) (cache_fault image w)
