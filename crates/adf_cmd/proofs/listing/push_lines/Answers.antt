use Rattle.std.proofs.Common.{sym, append_assoc, append-nil}
use Rattle.adf_cmd.proofs.Lines.{lines_of_more, lines_of_none}
use Rattle.adf_cmd.proofs.listing.push_lines.Goals as goal

pub loop-i-init : goal.loop-i-init
loop-i-init c = rw lines_of_none (sym (append-nil c.args.text.now.items))

pub loop-i-preserved : goal.loop-i-preserved
loop-i-preserved c = rw (c.in_ok-push_line.ensures, c.loop-i.invariant, lines_of_more c.args.number c.args.block.now c.loop-i.i, append_assoc)
