use Rattle.std.proofs.Common.{codes}
use Rattle.adf_words.specs.Arguments.{flag_rule}
use Rattle.adf_disk_cmd.proofs.command_line.survey_flags.Goals as goal

pub returns-clause-app : goal.returns-clause-app
returns-clause-app c =
    let one = c.with_argument-searches.ensures.app _ (flag_rule (codes "search")) c.new.ensures.app c.flag.ensures.rule c.flag.ensures.local in
    let two = c.with_argument-plans.ensures.app _ (flag_rule (codes "plan")) one c.flag-2.ensures.rule c.flag-2.ensures.local in
    c.with_argument.ensures.app _ (flag_rule (codes "json")) two c.flag-3.ensures.rule c.flag-3.ensures.local

pub returns-clause-local : goal.returns-clause-local
returns-clause-local c =
    let one = c.with_argument-searches.ensures.local c.new.ensures.local c.flag.ensures.local in
    c.with_argument.ensures.local (c.with_argument-plans.ensures.local one c.flag-2.ensures.local) c.flag-3.ensures.local
