use Rattle.std.proofs.Common.{◌≡◌, ◌∙◌, ◌*◌, ap, arith}
use Rattle.adf_blocks.specs.Sizes.{chunk}
use Rattle.adf_volume.specs.Image.{kind_of}
use Rattle.adf_findings.proofs.Gaps.{block_within}
use Rattle.adf_findings.proofs.remains.gap_at.Goals as goal

pub overflow_mul-first : goal.overflow_mul-first
overflow_mul-first c =
    let kind = kind_of c.args.image.now in
    let first : c.chunk_len.result * c.args.k ≡ chunk kind * c.args.k = ap (λ n. n * c.args.k) (c.chunk_len.ensures.exact ∙ ap chunk c.kind.ensures) in
    omega (arith, first, block_within kind c.args.size c.args.k c.requires, c.ranges.size.fits)
