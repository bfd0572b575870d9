use Rattle.std.proofs.Common.{arith, length-append, ◌++◌, take}
use Rattle.std.proofs.lemmas.{Grind.common_steps, List.append_assoc, List.length-take-le, List.take_more}
use Rattle.adf_memory.proofs.tables.put_blocks.Goals as goal

pub loop-i-preserved : goal.loop-i-preserved
loop-i-preserved c = λ xs room at e.
    let ds = c.args.datas.now in
    let i = c.loop-i.i in
    let put = c.put.ensures (xs ++ take i ds) room (omega (arith, at, length-append xs (take i ds), length-take-le i ds (omega arith)))
    (c.loop-i.invariant xs room at e) in
    grind (arith, common_steps, put, append_assoc, take_more)
