use Rattle.std.proofs.Common.{◌≡◌, ◌≤◌, arith, sym, length, length-take-le, take}
use Rattle.adf_runs.proofs.KnownBytes.{consumes_more, read_front}
use Rattle.adf_runs.proofs.streams.read_behind.Goals as goal

pub returns-in-Ok-clause-bytes : goal.returns-in-Ok-clause-bytes
returns-in-Ok-clause-bytes g c = λ start before.
    let front = take c.args.filled c.args.buffer.now in
    let whole : length front ≡ c.args.filled = length-take-le c.args.filled c.args.buffer.now (omega (arith, c.requires.inside, c.requires.room)) in
    let few : c.in-Ok.count ≤ length c.read.new.buf = omega (arith, c.in-Ok.ensures.count) in
    consumes_more _ _ _ _ _ _ (read_front c.args.filled c.in-Ok.count front c.read.new.buf _ (sym whole) few) before c.in-Ok.ensures.bytes.0
