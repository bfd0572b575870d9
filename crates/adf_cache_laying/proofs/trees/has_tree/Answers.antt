use Rattle.std.proofs.Common.{subst}
use Rattle.adf_volume.specs.{Fits.FitsOf, declared.types.Types.TheVariants.WithInternational}
use Rattle.adf_cache_laying.proofs.trees.has_tree.Goals as goal

pub returns-in-Some : goal.returns-in-Some
returns-in-Some c = λ yes.
    let fits = rw c.in-Some.is at c.in_ok-other.ensures.fits in
    (fits.0, subst (λ t. FitsOf WithInternational c.args.image.now t fits.0) (c.is_same_tree.ensures yes) fits.1)
