use Rattle.std.proofs.Common.{◌<◌, ℕ}
use Rattle.adf_keep.specs.Links.{IsWordBeside}
use Rattle.adf_keep.proofs.links_beside.are_words_beside.Given as goal

abbrev pub invariant-loop-i : goal.invariant-loop-i
invariant-loop-i l = (i : ℕ) → i < l.i → IsWordBeside l.x.volume.now l.x.image.now l.x.links.now l.b i
