use Rattle.std.proofs.Common.{arith}
use Rattle.adf_caches.specs.Caches.{directory_header}
use Rattle.adf_cache_laying.specs.LaidCaches.{IsSameButCache}
use Rattle.adf_cache_laying.proofs.LaidSteps.{all_directories}
use Rattle.adf_cache_laying.proofs.kept.keeps_all.Goals as goal

pub returns : goal.returns
returns c = λ w fs s yes.
    let volume = c.args.found.now.image in
    record {
      directories = all_directories volume w
          (λ d. IsSameButCache volume c.args.image.now (directory_header volume w d))
          (c.keeps_directory.ensures w fs s c.if-not-keeps_directory.false) (c.keeps_entries.ensures w fs s c.if-not-keeps_entries.false);
      others = λ b n lt. c.keeps_others.ensures w fs s yes b n (omega (arith, lt, c.requires.count));
    }
