use Rattle.std.proofs.Common.{◌≢◌}
use Rattle.adf_blocks.specs.declared.cause.Cause.TheVariants.{NoMemory}
use Rattle.adf_tree.specs.Tree.{Tree}
use Rattle.adf_volume.specs.{Fault.IsTrueFaultBy, Fits.FitsBy, Layout.Layout, Walk.FirstFaultBy}
use Rattle.adf_volume.proofs.NoneFits.{none_fits}
use Rattle.adf_check.proofs.ClaimSteps.{if_err}
use Rattle.adf_check.proofs.checker.check_by.Goals as goal

pub returns-clause-first : goal.returns-clause-first
returns-clause-first c =
    let image = c.args.image.now in
    if_err c.check_all.result (IsTrueFaultBy c.args.letters image) (λ f. f.cause ≢ NoMemory → FirstFaultBy c.args.letters image f.block f.cause)
    c.check_all.ensures.fault (λ f right ne. right.first ne)

pub returns-clause-none : goal.returns-clause-none
returns-clause-none c =
    let image = c.args.image.now in
    if_err c.check_all.result (IsTrueFaultBy c.args.letters image)
    (λ f. f.cause ≢ NoMemory → (t : Tree) (l : Layout) → FitsBy c.args.letters image t l → ⊥) c.check_all.ensures.fault
    (λ f right ne t l fits. none_fits image f.block f.cause t l (right.first ne) fits)
