use Rattle.std.specs.Prelude.{Some, slice_get}
use Rattle.std.proofs.Common.{◌≡◌, ◌<◌, ap, arith, below_more, length}
use Rattle.std.proofs.lemmas.{List.length-map, Option.slice_get_within}
use Rattle.adf_findings.specs.{Parts.finding_value, Survey.FindingValue}
use Rattle.adf_cache_laying.specs.LaidCaches.{IsOfTypeOrLink}
use Rattle.adf_cache_laying.proofs.alike.are_of_type_or_links.Goals as goal

pub loop-k-preserved : goal.loop-k-preserved
loop-k-preserved c = λ w fs s j f lt.
    below_more (λ i. (g : FindingValue) → slice_get fs i ≡ Some g → IsOfTypeOrLink g) c.loop-k.k
    (λ i below g. c.loop-k.invariant w fs s i g below)
    (c.is_of_type_or_link.ensures w fs s c.if-not-is_of_type_or_link.false) j lt f

pub returns : goal.returns
returns c = λ w fs s told k f e.
    let count = ap length (c.findings-k-end.ensures w fs s) in
    let within : k < length fs = slice_get_within fs k f e in
    let lt : k < c.loop-k.k = omega (arith, within, count, length-map c.findings-k-end.result.now finding_value, c.loop-k-test.false) in
    c.loop-k.invariant w fs s k f lt e
