use Rattle.std.proofs.Common.{sym, ◌∙◌}
use Rattle.adf_findings.specs.Survey.BootTells.{clean_boot, other_type}
use Rattle.adf_findings.proofs.start.judge_boot.Goals as goal

pub returns-in-None-clause-reported : goal.returns-in-None-clause-reported
returns-in-None-clause-reported c = clean_boot c.in-None.ensures.none

pub returns-then-is_other_type-clause-reported : goal.returns-then-is_other_type-clause-reported
returns-then-is_other_type-clause-reported c = other_type c.in-Some.ensures.some (sym c.is_other_type.ensures ∙ c.if-is_other_type.true)
