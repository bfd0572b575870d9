use Rattle.std.proofs.Common.{◌≡◌, ◌≢◌, ◌+◌, arith, below_more, true}
use Rattle.adf_caches.specs.Caches.{first_cache, is_found_directory}
use Rattle.adf_cache_laying.proofs.directories.entries_have_caches.Goals as goal

pub loop-i-preserved : goal.loop-i-preserved
loop-i-preserved c = λ w fs s.
    let image = c.args.survey.now.image in
    below_more (λ k. is_found_directory image w (k + 1) ≡ true → first_cache image w (k + 1) ≢ 0) c.loop-i.i (c.loop-i.invariant w fs s)
    (c.has_cache.ensures w fs s c.if-not-has_cache.false)

pub returns : goal.returns
returns c = λ w fs s yes k lt. c.loop-i.invariant w fs s k (omega (arith, lt, c.len-i-end.ensures w fs s, c.loop-i-test.false))
