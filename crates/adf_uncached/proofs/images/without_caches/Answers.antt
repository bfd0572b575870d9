use Rattle.adf_uncached.proofs.images.without_caches.Goals as goal

pub uncached_of-requires : goal.uncached_of-requires
uncached_of-requires c = rw c.in_ok-survey.ensures.image c.requires

pub returns : goal.returns
returns c = rw c.in_ok-survey.ensures.image at c.uncached_of.ensures
