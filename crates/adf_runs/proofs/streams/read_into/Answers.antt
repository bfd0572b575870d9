use Rattle.std.proofs.Common.{arith, ◌+◌}
use Rattle.std.proofs.lemmas.Grind.{common_steps}
use Rattle.adf_runs.proofs.KnownBytes.{front_at_most, still_at_most}
use Rattle.adf_runs.proofs.streams.read_into.Goals as goal

pub returns-then-count-eq0-clause-all : goal.returns-then-count-eq0-clause-all
returns-then-count-eq0-clause-all g c = grind (arith, common_steps)

pub returns-then-count-eq0-clause-taken : goal.returns-then-count-eq0-clause-taken
returns-then-count-eq0-clause-taken g c = grind (arith, common_steps)

pub loop-filled-preserved : goal.loop-filled-preserved
loop-filled-preserved g c = grind (arith, common_steps)

pub returns-clause-all : goal.returns-clause-all
returns-clause-all g c = grind (arith, common_steps)

pub returns-in_err-make_room-clause-at_most : goal.returns-in_err-make_room-clause-at_most
returns-in_err-make_room-clause-at_most g c =
    let so_far = c.loop-filled.invariant in
    front_at_most (c.args.limit + 1) c.loop-filled.filled _ _ c.loop-filled.buffer.items so_far.limited so_far.taken

pub returns-in_err-count-clause-at_most : goal.returns-in_err-count-clause-at_most
returns-in_err-count-clause-at_most g c =
    let so_far = c.loop-filled.invariant in
    let taken = front_at_most (c.args.limit + 1) c.loop-filled.filled _ _ c.loop-filled.buffer.items so_far.limited so_far.taken in
    still_at_most _ _ _ _ taken c.in_err-count.ensures.kept

pub returns-then-count-eq0-clause-at_most : goal.returns-then-count-eq0-clause-at_most
returns-then-count-eq0-clause-at_most g c =
    front_at_most (c.args.limit + 1) c.loop-filled.filled _ _ _ c.loop-filled.invariant.limited (returns-then-count-eq0-clause-taken g c)

pub returns-clause-at_most : goal.returns-clause-at_most
returns-clause-at_most g c =
    let so_far = c.loop-filled.invariant in
    front_at_most (c.args.limit + 1) c.loop-filled.filled _ _ c.loop-filled.buffer.items so_far.limited so_far.taken
