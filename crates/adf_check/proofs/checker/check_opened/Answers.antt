use Rattle.std.proofs.Common.{ℕ, List, subst, sym}
use Rattle.adf_tree.specs.Tree.{Tree}
use Rattle.adf_volume.specs.{Fits.FitsBy, Image.letters_of, Layout.Layout, Made.layout_in, Made.tree_in_by}
use Rattle.adf_check.proofs.checker.check_opened.Goals as goal

pub returns-clause-fits : goal.returns-clause-fits
returns-clause-fits c =
    let image = c.args.opened.image in
    let tells = c.in_ok-check_bitmap.ensures.fits in
    subst (λ (i : List ℕ). (t : Tree) × (l : Layout) × FitsBy (letters_of image) i t l) (sym c.new.ensures)
    (tree_in_by (letters_of image) image tells.walk, layout_in tells.walk, tells.fits)
