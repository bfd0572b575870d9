use Rattle.adf_cache_laying.proofs.caching.stands_with_caches.Goals as goal

pub returns-clause-found : goal.returns-clause-found
returns-clause-found c = λ kept w fs s v gs t.
    (rw c.in_ok-laid.ensures.image at c.are_found_alike.ensures) w fs s v gs t c.if-not-are_found_alike.false
