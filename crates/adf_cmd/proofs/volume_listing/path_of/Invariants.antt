use Rattle.std.proofs.Common.{◌≡◌, ◌++◌, reverse}
use Rattle.adf_tree.specs.{Paths.names_of, Tree.Tree}
use Rattle.adf_volume.specs.{Fits.Fits, Layout.Layout}
use Rattle.adf_cmd.proofs.volume_listing.path_of.Given as goal

abbrev pub invariant-loop-row : goal.invariant-loop-row
invariant-loop-row l =
    (t : Tree) (m : Layout) → Fits l.volume t m → names_of t.entries l.fn.n ≡ names_of t.entries l.node ++ reverse l.path.items

abbrev pub decreases-loop-row : goal.decreases-loop-row
decreases-loop-row l = l.node
