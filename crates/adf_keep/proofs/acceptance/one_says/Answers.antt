use Rattle.std.proofs.Common.{arith, refl}
use Rattle.adf_keep.proofs.DataForms.{says_found}
use Rattle.adf_keep.proofs.acceptance.one_says.Goals as goal

pub returns-then-says_one : goal.returns-then-says_one
returns-then-says_one c = λ _.
    says_found c.args.image.now c.args.head c.args.datas.now c.loop-k.k c.in-Ok.number (omega arith) c.in-Ok.ensures.1 (c.if-says_one.ensures refl)
