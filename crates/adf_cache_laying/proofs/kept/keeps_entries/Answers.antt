use Rattle.std.proofs.Common.{◌≡◌, ◌+◌, arith, below_more, true}
use Rattle.adf_caches.specs.Caches.{directory_header, is_found_directory}
use Rattle.adf_cache_laying.specs.LaidCaches.{IsSameButCache}
use Rattle.adf_cache_laying.proofs.kept.keeps_entries.Goals as goal

pub loop-i-preserved : goal.loop-i-preserved
loop-i-preserved c = λ w fs s.
    let volume = c.args.found.now.image in
    below_more (λ k. is_found_directory volume w (k + 1) ≡ true → IsSameButCache volume c.args.image.now (directory_header volume w (k + 1)))
    c.loop-i.i (c.loop-i.invariant w fs s) (c.keeps_directory.ensures w fs s c.if-not-keeps_directory.false)

pub returns : goal.returns
returns c = λ w fs s yes k lt. c.loop-i.invariant w fs s k (omega (arith, lt, c.len-i-end.ensures w fs s, c.loop-i-test.false))
