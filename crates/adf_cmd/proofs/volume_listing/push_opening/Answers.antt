use Rattle.std.proofs.Common.{◌≡◌, ap}
use Rattle.adf_blocks.specs.Sizes.{blocks}
use Rattle.adf_volume.specs.declared.counts.Counts.{Counts}
use Rattle.adf_cmd.proofs.volume_listing.push_opening.Goals as goal

pub returns : goal.returns
returns c = λ date t l dates fits.
    let exact = c.counts-counts.ensures.exact _ t l fits.1 in
    let kind : c.counts-counts.result.kind ≡ t.kind = ap (λ (n : Counts). n.kind) exact in
    let size : c.counts-counts.result.blocks ≡ blocks c.args.volume.now = ap (λ (n : Counts). n.blocks) exact in
    rw (kind, c.label.ensures _ t l fits.1, c.stamps.ensures _ t l fits.1, size) at c.push_opening_lines.ensures date dates
