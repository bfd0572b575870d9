use Rattle.adf_keep.proofs.LaidAgain.{laid_accepted, laid_long}
use Rattle.adf_keep.proofs.laying.lay_with.Goals as goal

pub put_back-requires-clause-whole : goal.put_back-requires-clause-whole
put_back-requires-clause-whole c = laid_long c.in_ok-image.image.items c.args.tree.now c.in_ok-image.ensures.laid

pub returns-clause-accepted : goal.returns-clause-accepted
returns-clause-accepted c = λ types letters own.
    laid_accepted types letters c.args.tree.now c.in_ok-image.image.items c.args.boot.now _ c.in_ok-image.ensures.laid c.requires.boot c.put_back.ensures own
