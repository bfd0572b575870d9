-- Images of volumes with directory caches: what fits them, and their first faults.
-- Letters: w the walk of an image's survey; t a tree; l a layout; b a block, c a cause.
use Rattle.std.specs.Prelude.{ℕ, List, length}
use Rattle.adf_tree.specs.Tree.{Tree}
use Rattle.adf_blocks.specs.declared.cause.Cause.{Cause}
use Rattle.adf_volume.specs.{Counts.counts_of, Layout.Layout, Walk.Walk, declared.counts.Counts.Counts}
use Rattle.adf_findings.specs.Survey.{FindingValue, IsSurvey}
use Rattle.adf_uncached.specs.Uncached.{cache_fault, right_blocks, uncached}
use Rattle.adf_uncached.specs.Verdict.{FirstFaultUncached, FitsUncached, with_used}

-- an image is that of a volume with directory caches, with this tree and this layout
pub record FitsCached (image : List ℕ) (t : Tree) (l : Layout) : Type 0 where
  pub walk : Walk
  pub findings : List FindingValue
  pub survey : IsSurvey image walk findings
  pub fits : FitsUncached (cache_fault image walk) (uncached image walk) t l

-- an image of such a type has this first fault
pub record FirstFaultCached (image : List ℕ) (b : ℕ) (c : Cause) : Type 0 where
  pub walk : Walk
  pub findings : List FindingValue
  pub survey : IsSurvey image walk findings
  pub first : FirstFaultUncached (cache_fault image walk) (uncached image walk) b c

-- the counts of a volume with directory caches: of the image as one without, with the blocks of its caches in use
abbrev pub cached_counts : List ℕ → Walk → Tree → Layout → Counts
cached_counts image w t l = with_used (length (right_blocks image w)) (counts_of (uncached image w) t l)
