use Rattle.std.proofs.Common.{ℕ, List, subst, arith}
use Rattle.adf_tree.specs.Tree.{Tree}
use Rattle.adf_volume.specs.{Fits.FitsBy, Image.letters_of, Layout.Layout, Made.layout_in, Made.tree_in_by}
use Rattle.adf_check.proofs.StoreStands.{stands_as}
use Rattle.adf_check.proofs.checked.Checked.len.Goals as goal

pub returns-clause-count : goal.returns-clause-count
returns-clause-count c = λ letters t l fits.
    omega (arith, c.len.ensures, (stands_as c.self.invariant.tells c.self.view_is fits).headers.count)

pub returns-clause-fits : goal.returns-clause-fits
returns-clause-fits c =
    let image = c.self.inside.image in
    let tells = c.self.invariant.tells in
    subst (λ (i : List ℕ). (t : Tree) × (l : Layout) × FitsBy (letters_of i) i t l) c.self.view_is
    (tree_in_by (letters_of image) image tells.walk, layout_in tells.walk, tells.fits)
