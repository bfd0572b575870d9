use Rattle.std.proofs.Common.{◌≡◌, ◌<◌, ℕ}
use Rattle.adf_base.specs.Words.{block}
use Rattle.adf_check.specs.Volumes.{OnVolume}
use Rattle.adf_volume.specs.Lists.{In}
use Rattle.adf_cached_files.proofs.sameness.are_same_but_pages.Given as goal

abbrev pub invariant-loop-b : goal.invariant-loop-b
invariant-loop-b l = OnVolume l.volume (λ _ m. (k : ℕ) → 0 < k → k < l.b → ¬ In m.pages k → block l.image k ≡ block l.copy k)
