use Rattle.std.specs.Prelude.{Some, slice_get}
use Rattle.std.proofs.Common.{◌≡◌, ◌<◌, ◌≤◌, ℕ, get_or}
use Rattle.adf_keep.specs.Links.{AreLed, ArePlaces, IsWanted}
use Rattle.adf_keep.specs.declared.links.WantedLink.{WantedLink}
use Rattle.adf_keep.proofs.links_kept.are_kept.Given as goal

abbrev pub invariant-loop-k : goal.invariant-loop-k
invariant-loop-k l = ArePlaces l.x.image.now l.x.places.now → AreLed l.x.image.now l.x.led.now → (k : ℕ) → k < l.k → (want : WantedLink) → slice_get l.wanted k ≡ Some want
    → 1 ≤ get_or l.owns k 0 → IsWanted l.x.image.now l.x.letters want (get_or l.owns k 0)
