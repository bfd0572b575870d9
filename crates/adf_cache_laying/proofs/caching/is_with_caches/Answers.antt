use Rattle.std.proofs.Common.{ap, arith, length}
use Rattle.adf_cache_laying.proofs.caching.is_with_caches.Goals as goal

pub returns : goal.returns
returns c = λ yes.
    let is = c.image-volume.ensures in
    record {
      long = omega (arith, c.if-image-volume.false, ap length is);
      boots = rw is at (c.has_boot.ensures c.if-not-has_boot.false);
      right = c.in_ok-right.ensures.right yes;
      all = c.in_ok-stands.ensures.all c.if-not-stands.false;
      found = c.in_ok-stands.ensures.found c.if-not-stands.false;
      kept = c.in_ok-stands.ensures.kept c.if-not-stands.false;
      tree = rw is at (c.in_ok-right.ensures.tree yes);
    }
