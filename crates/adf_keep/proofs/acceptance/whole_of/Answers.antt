use Rattle.adf_volume.specs.Types.{letters_for}
use Rattle.adf_keep.proofs.WholeRescue.{whole_rescue}
use Rattle.adf_keep.proofs.acceptance.whole_of.Goals as goal

pub returns-clause-whole : goal.returns-clause-whole
returns-clause-whole c = λ types t l fits.
    whole_rescue types c.args.volume.now c.in_ok-prepared.prepared t l fits
    (c.in_ok-prepared.ensures.tree (letters_for types c.args.volume.now) t l fits) c.in_ok-prepared.ensures.size c.in_ok-prepared.ensures.none
    c.in_ok-prepared.ensures.deleted
