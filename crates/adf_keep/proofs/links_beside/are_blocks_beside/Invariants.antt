use Rattle.std.proofs.Common.{◌<◌, ℕ}
use Rattle.adf_keep.specs.Links.{ArePlaces, IsBlockBeside}
use Rattle.adf_keep.proofs.links_beside.are_blocks_beside.Given as goal

abbrev pub invariant-loop-b : goal.invariant-loop-b
invariant-loop-b l = ArePlaces l.x.volume.now l.x.places.now → (b : ℕ) → b < l.b
    → IsBlockBeside l.x.volume.now l.x.image.now l.x.links.now b
