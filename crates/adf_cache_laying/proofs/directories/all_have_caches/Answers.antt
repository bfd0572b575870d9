use Rattle.std.proofs.Common.{◌≢◌}
use Rattle.adf_caches.specs.Caches.{first_cache}
use Rattle.adf_cache_laying.proofs.LaidSteps.{all_directories}
use Rattle.adf_cache_laying.proofs.directories.all_have_caches.Goals as goal

pub returns : goal.returns
returns c = λ w fs s yes.
    let image = c.args.survey.now.image in
    all_directories image w (λ d. first_cache image w d ≢ 0)
    (c.has_cache.ensures w fs s c.if-not-has_cache.false) (c.entries_have_caches.ensures w fs s yes)
