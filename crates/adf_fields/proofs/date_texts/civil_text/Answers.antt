use Rattle.std.proofs.Common.{arith, ◌/◌, ◌%◌}
use Rattle.adf_fields.proofs.Digits.{two_places}
use Rattle.adf_fields.proofs.date_texts.civil_text.Goals as goal

pub returns : goal.returns
returns c =
    let hours = two_places (c.args.s.mins / 60) (omega arith) in
    let mins = two_places (c.args.s.mins % 60) (omega arith) in
    let seconds = two_places (c.args.s.ticks / 50) (omega arith) in
    let ticks = two_places (c.args.s.ticks % 50) (omega arith) in
    simp (c.laid_out.ensures, c.laid_out-2.ensures, c.laid_out-3.ensures, c.laid_out-4.ensures, hours, mins, seconds, ticks) at c.format.ensures.ok
