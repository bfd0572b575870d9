use Rattle.std.proofs.Common.{◌+◌, ◌*◌, arith}
use Rattle.adf_manifest.proofs.DigitLaws.{word_is}
use Rattle.adf_manifest.proofs.digits.read_word.Goals as goal

pub returns-clause-some : goal.returns-clause-some
returns-clause-some c =
    word_is c.in_ok-d.d (c.from.result * 16777216 + c.from-2.result * 65536 + c.from-3.result * 256 + c.from-4.result)
    c.in_ok-a.ensures.byte c.in_ok-b.ensures.byte c.in_ok-c.ensures.byte (omega arith) (omega arith)
    (rw (c.in_ok-a.ensures.some, c.in_ok-b.ensures.some, c.in_ok-c.ensures.some, c.in_ok-d.ensures.some))
