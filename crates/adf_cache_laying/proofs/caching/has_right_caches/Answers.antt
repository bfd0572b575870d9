use Rattle.adf_cache_laying.proofs.caching.has_right_caches.Goals as goal

pub returns-clause-tree : goal.returns-clause-tree
returns-clause-tree c = λ yes. c.in_ok-keeps.ensures c.args.image.now (λ v gs t. c.in_ok-uncached.ensures v gs t) yes
