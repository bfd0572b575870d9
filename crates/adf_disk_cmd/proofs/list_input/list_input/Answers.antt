use Rattle.adf_disk_cmd.proofs.{Endings.unread_ends, HeldTables.does_held}
use Rattle.std.proofs.{lemmas.Grind.common_steps, Common.arith}
use Rattle.adf_runs.specs.Streams.{seen}
use Rattle.adf_disk_cmd.proofs.list_input.list_input.Goals as goal

pub returns-in-Ok-clause-ends : goal.returns-in-Ok-clause-ends
returns-in-Ok-clause-ends g c =
    does_held (seen g.R.Source.left g.R.Source.has_failed c.args.input.now c.read_excerpt.new.input) c.list_part.ensures.ends c.in-Ok.ensures.part
    c.in-Ok.ensures.failed c.list_part.ensures.blames

pub returns-in-Err-clause-ends : goal.returns-in-Err-clause-ends
returns-in-Err-clause-ends g c = grind (arith, common_steps, unread_ends)
