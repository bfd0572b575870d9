use Rattle.std.proofs.Common.{◌≡◌, ◌-◌, suc, refl, ap, sym, ◌∙◌, arith}
use Rattle.adf_volume.specs.Layout.{at_node}
use Rattle.adf_check.proofs.{VolumeCounts.header_inside, NodeSteps.header_here, StoreStands.stands}
use Rattle.adf_check.proofs.lookup.block_of.Goals as goal

pub returns-clause-block : goal.returns-clause-block
returns-clause-block c = λ letters t l fits.
    let node : c.args.node ≡ suc (c.node.inside.0 - 1) = omega (arith, c.node.view_is, c.if-node-eq0.false) in
    let at = header_here c.args.store.now.headers.items (c.node.inside.0 - 1) c.index.result.now refl (omega (arith, c.requires.node))
    c.index.ensures in
    sym ((stands c.requires.tells fits).headers.head (c.node.inside.0 - 1) c.index.result.now at)
    ∙ ap (at_node c.args.image.now l) (sym node)

pub returns-clause-inside : goal.returns-clause-inside
returns-clause-inside c =
    let at = header_here c.args.store.now.headers.items (c.node.inside.0 - 1) c.index.result.now refl (omega (arith, c.requires.node))
    c.index.ensures in
    header_inside c.requires.tells (c.node.inside.0 - 1) c.index.result.now at
