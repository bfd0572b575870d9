use Rattle.std.proofs.Common.{◌∷◌, ◌++◌, [], arith, refl}
use Rattle.adf_keep.specs.Kept.{setting_of}
use Rattle.adf_keep.specs.Verdicts.{AreVerdicts.none, Setting}
use Rattle.adf_keep.proofs.KeeperSteps.{begun_as, buildable, verdicts_more}
use Rattle.adf_keep.proofs.keeping.keep.Goals as goal

pub loop-p-init : goal.loop-p-init
loop-p-init c = ([], none, begun_as _ _ _ _ _ c.in_ok-keeper.keeper c.of.ensures c.with_letters-draft.ensures.tree c.in_ok-keeper.ensures.state)

pub loop-p-preserved : goal.loop-p-preserved
loop-p-preserved c =
    let g : Setting = setting_of c.args.image.now c.args.held c.args.terms in
    let before = c.loop-p.invariant in
    let after = c.in_ok-take.ensures g before.0 before.2 in (
      before.0 ++ after.0 ∷ [],
      verdicts_more g c.args.proposal.now c.loop-p.p-index before.0 c.p-item.result after.0 (omega arith) c.p-item.is before.1 after.1,
      after.2,
    )

pub returns-clause-fits : goal.returns-clause-fits
returns-clause-fits c =
    let g : Setting = setting_of c.args.image.now c.args.held c.args.terms in
    let now = c.loop-p.invariant in
    buildable g now.0 c.loop-p.keeper _ now.2.keeper refl c.requires c.in_ok-keeper.ensures.room
