-- Surveys without findings are those of volumes of types 0 and 1.
use Rattle.std.proofs.Common.{◌≡◌, ℕ, List, []}
use Rattle.adf_base.specs.declared.hash.Letters.TheVariants.{Ascii}
use Rattle.adf_tree.specs.Tree.{Tree}
use Rattle.adf_volume.specs.{Fits.FitsBy, Layout.Layout, Made.layout_in, Made.tree_in, Walk.Walk, declared.types.Types.TheVariants.Plain}
use Rattle.adf_findings.specs.Survey.{FindingValue, IsSurvey}
use Rattle.adf_findings.proofs.FirstFindings as by
use Rattle.adf_findings.proofs.{FirstFindings.Shows, TypesRead.types_read}

pub shown : (image : List ℕ) {w : Walk} → IsSurvey image w [] → Shows image Ascii w []
shown image {w} v = by.shows_none image Ascii [] (types_read image Plain) w v

pub none_found : (image : List ℕ) (w : Walk) → IsSurvey image w [] → FitsBy Ascii image (tree_in image w) (layout_in w)
none_found image w v = by.none_found image Ascii [] (types_read image Plain) w v

pub finds_none : (image : List ℕ) (t : Tree) (l : Layout) (w : Walk) (fs : List FindingValue) → FitsBy Ascii image t l → IsSurvey image w fs → fs ≡ []
finds_none image t l w fs fit v = by.finds_none image Ascii [] (types_read image Plain) t l w fs fit v
