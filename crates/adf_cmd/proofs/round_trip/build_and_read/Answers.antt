use Rattle.std.proofs.Common.{◌≡◌, ◌∙◌, ℕ, List}
use Rattle.adf_base.specs.declared.hash.Letters.{Letters}
use Rattle.adf_tree.specs.Tree.{Tree}
use Rattle.adf_volume.specs.{Fits.FitsBy, Layout.Layout}
use Rattle.adf_volume.proofs.{FitWalks.one_fit, TypeLaws.own_fit_of}
use Rattle.adf_build.specs.Plan.{planned}
use Rattle.adf_cmd.proofs.round_trip.build_and_read.Goals as goal

pub unreachable-requires : goal.unreachable-requires
unreachable-requires c =
    let tree = c.args.tree.now in
    (rw c.in-Ok-Err.field-0-is at c.in-Ok-Err.ensures.none) tree (planned tree c.args.blocks)
    (own_fit_of (rw (← c.deref.ensures.value) at c.in_ok-image.ensures.fits))

same_tree : {letters others : Letters} {image : List ℕ} {t u : Tree} {l m : Layout} → FitsBy letters image t l → FitsBy others image u m → t ≡ u
same_tree {image = image} {t = t} {u = u} {l = l} {m = m} f g = (one_fit image t u l m f g).0

pub returns-in-Ok-clause-same : goal.returns-in-Ok-clause-same
returns-in-Ok-clause-same c =
    let (t, l, read) = rw c.in-Ok-Ok.field-0-is at c.in-Ok-Ok.ensures.fits in
    let image = rw c.in-Ok-Ok.field-0-is at c.in-Ok-Ok.ensures.image in
    let fits = rw (← c.deref.ensures.value, ← image) at c.in_ok-image.ensures.fits in
    c.in-Ok.ensures.tree _ t l read.1 ∙ same_tree read.1 fits
