use Rattle.std.proofs.Common.{◌≤◌, ℕ}
use Rattle.adf_build.specs.Building.{IsBuildable}
use Rattle.adf_build.proofs.counting.fewest_blocks.Given as goal

abbrev pub invariant-loop-blocks : goal.invariant-loop-blocks
invariant-loop-blocks l = (m : ℕ) → IsBuildable l.tree m → l.blocks ≤ m
