use Rattle.std.proofs.Common.{◌++◌, ◌∙◌, ap, sym, reverse}
use Rattle.adf_tree.specs.Paths.{names_of}
use Rattle.adf_cmd.proofs.EntryNames.{gathered_all, gathered_more, parent_smaller}
use Rattle.adf_cmd.proofs.volume_listing.path_of.Goals as goal

pub loop-row-smaller : goal.loop-row-smaller
loop-row-smaller c =
    let t = c.requires.0 in
    let fits = c.requires.2 in
    parent_smaller t.entries c.loop-row.node c.in-Some.row fits.1.tree (c.in-Some.ensures _ t c.requires.1 fits.1)

pub loop-row-preserved : goal.loop-row-preserved
loop-row-preserved c = λ t l fits.
    let row = c.in-Some.row in
    let es = t.entries in
    let path = c.loop-row.path.items in
    gathered_more es (names_of es c.args.n) path c.loop-row.node row fits.1.tree (c.in-Some.ensures _ t l fits.1) (c.loop-row.invariant t l fits)
    ∙ ap (λ p. names_of es row.parent ++ reverse p) (sym c.in_ok-push.ensures.items)

pub returns : goal.returns
returns c = λ t l fits.
    let es = t.entries in
    let gathered = c.loop-row.path.items in
    let names = c.loop-row.invariant t l fits in
    c.reverse.ensures.items ∙ gathered_all es (names_of es c.args.n) gathered c.loop-row.node (c.in_default.ensures _ t l fits.1) names
