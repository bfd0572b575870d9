use Rattle.std.proofs.Common.{◌∙◌, ap, subst}
use Rattle.adf_blocks.specs.Sizes.{blocks}
use Rattle.adf_cache_laying.specs.LaidCaches.{AreFoundAlike}
use Rattle.adf_cache_laying.proofs.alike.are_found_alike.Goals as goal

pub returns-in-Some : goal.returns-in-Some
returns-in-Some c = λ w fs s v gs t same.
    subst (λ n. AreFoundAlike n w fs v gs) (c.in-Some.ensures ∙ ap blocks c.image.ensures) (c.are_alike.ensures w fs s v gs t same)
