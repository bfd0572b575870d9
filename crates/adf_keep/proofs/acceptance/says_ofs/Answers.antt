use Rattle.std.proofs.Common.{◌∙◌, ap, sym}
use Rattle.adf_keep.proofs.acceptance.says_ofs.Goals as goal

pub returns-in-Ffs : goal.returns-in-Ffs
returns-in-Ffs c = λ letters t l fits yes.
    (sym (ap (λ k. k.kind) (c.counts.ensures.exact letters t l fits)) ∙ c.in-Ffs.is, c.any_says.ensures letters t l fits yes)
