-- Verdicts on the bytes of an image as one without directory caches, with the fault of its caches, if they have one.
-- Letters: t a tree; l a layout; b a block, c a cause; n a number of blocks.
use Rattle.std.specs.Prelude.{◌≡◌, ◌+◌, ◌-◌, ℕ, Bool, true, false, List, Option, Some, None, min}
use Rattle.adf_tree.specs.Tree.{Tree}
use Rattle.adf_blocks.specs.declared.cause.Cause.{Cause, TheVariants.LostBlock, TheVariants.OwnedFree}
use Rattle.adf_volume.specs.{Fault.fault, Fits.FitsOf, Layout.Layout, Walk.FirstFaultOf}
use Rattle.adf_volume.specs.{declared.counts.Counts.Counts, declared.fault.Fault.Fault, declared.types.Types.TheVariants.WithInternational}

-- whether a cause is one of a bit of the bitmap
abbrev pub is_of_bit : Cause → Bool
is_of_bit LostBlock = true
is_of_bit OwnedFree = true
is_of_bit _ = false

-- the parts of the image have no fault: if it has one, it is of a bit
abbrev pub HasParts : List ℕ → Type 0
HasParts image = (b : ℕ) (c : Cause) → FirstFaultOf WithInternational image b c → is_of_bit c ≡ true

-- the caches have no fault, and the tree and the layout fit the image as one without caches
pub record FitsUncached (caches : Option Fault) (bytes : List ℕ) (t : Tree) (l : Layout) : Type 0 where
  pub right : caches ≡ None
  pub fits : FitsOf WithInternational bytes t l

-- the first fault: of a part, else of the caches, else of a bit
pub data FirstFaultUncached (caches : Option Fault) (bytes : List ℕ) (b : ℕ) (c : Cause) : Type 0 where
  at_part : FirstFaultOf WithInternational bytes b c → is_of_bit c ≡ false → FirstFaultUncached caches bytes b c
  at_cache : HasParts bytes → caches ≡ Some (fault b c) → FirstFaultUncached caches bytes b c
  at_bit : caches ≡ None → FirstFaultOf WithInternational bytes b c → is_of_bit c ≡ true → FirstFaultUncached caches bytes b c

-- the counts of a volume without caches, with this many of its free blocks in use
abbrev pub with_used : ℕ → Counts → Counts
with_used n counts = record {
  kind = counts.kind;
  blocks = counts.blocks;
  used = counts.used + min n counts.free;
  free = counts.free - min n counts.free;
  dirs = counts.dirs;
  files = counts.files;
}
