use Rattle.std.proofs.Common.{◌∙◌, sym}
use Rattle.adf_names.proofs.Positions.{cut_at_position, uncut_at_none}
use Rattle.adf_memory.specs.Words.{is_zero}
use Rattle.adf_memory.proofs.words.cut.Goals as goal

pub returns-in-Some-clause-some : goal.returns-in-Some-clause-some
returns-in-Some-clause-some c = cut_at_position is_zero c.args.bytes.now c.in-Some.at (sym c.in-Some.is ∙ c.zero.ensures)

pub returns-in-None-clause-none : goal.returns-in-None-clause-none
returns-in-None-clause-none c = uncut_at_none is_zero c.args.bytes.now (sym c.in-None.is ∙ c.zero.ensures)
