use Rattle.std.proofs.{Common.arith, lemmas.Grind.common_steps}
use Rattle.adf_manifest.proofs.StateLaws.{bare_tree, preamble_step, stopped}
use Rattle.adf_manifest.proofs.reader.line_in_preamble.Goals as goal

pub returns-in-Entry-clause-lines : goal.returns-in-Entry-clause-lines
returns-in-Entry-clause-lines c = rw c.in-Entry.is c.first_entry.ensures.lines

pub returns-in_ok-with_label-in-Label-clause-lines : goal.returns-in_ok-with_label-in-Label-clause-lines
returns-in_ok-with_label-in-Label-clause-lines c = grind (arith, common_steps, preamble_step)

pub returns-else-is_some-3-clause-lines : goal.returns-else-is_some-3-clause-lines
returns-else-is_some-3-clause-lines c = grind (arith, common_steps, preamble_step)

pub returns-in-Entry-clause-fault : goal.returns-in-Entry-clause-fault
returns-in-Entry-clause-fault c = grind (arith, common_steps, bare_tree, stopped)
