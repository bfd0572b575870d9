use Rattle.std.proofs.Common.{◌+◌, refl}
use Rattle.adf_keep.proofs.acceptance.any_says.Goals as goal

pub returns-then-file_says : goal.returns-then-file_says
returns-then-file_says c = λ letters t l fits yes. (c.loop-before.before + 1, c.if-file_says.ensures letters t l fits refl)
