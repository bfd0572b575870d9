use Rattle.std.proofs.Common.{◌<◌, ◌≤◌, ℕ}
use Rattle.adf_keep.specs.Links.{IsBitBeside}
use Rattle.adf_keep.proofs.links_beside.are_bits_beside.Given as goal

abbrev pub invariant-loop-b : goal.invariant-loop-b
invariant-loop-b l = (b : ℕ) → 2 ≤ b → b < l.b → IsBitBeside l.x.volume.now l.x.image.now l.x.links.now b
