use Rattle.std.proofs.Common.{codes}
use Rattle.adf_words.specs.{Arguments.flag_rule, FileArguments.file_rule}
use Rattle.adf_survey_cmd.proofs.command_line.survey_rescue_command.Goals as goal

pub returns-clause-app : goal.returns-clause-app
returns-clause-app c =
    let one = c.with_argument-typed.ensures.app _ (flag_rule (codes "keep-type")) c.new.ensures.app c.flag.ensures.rule c.flag.ensures.local in
    let two = c.with_argument-linked.ensures.app _ (flag_rule (codes "keep-all")) one c.flag-2.ensures.rule c.flag-2.ensures.local in
    let three = c.with_argument-rescues.ensures.app _ (flag_rule (codes "deleted")) two c.flag-3.ensures.rule c.flag-3.ensures.local in
    let four = c.with_argument-formatted.ensures.app _ (flag_rule (codes "before-format")) three c.flag-4.ensures.rule c.flag-4.ensures.local in
    c.with_argument.ensures.app _ file_rule four c.file_argument.ensures.rule c.file_argument.ensures.local

pub returns-clause-local : goal.returns-clause-local
returns-clause-local c =
    let one = c.with_argument-typed.ensures.local c.new.ensures.local c.flag.ensures.local in
    let two = c.with_argument-linked.ensures.local one c.flag-2.ensures.local in
    let three = c.with_argument-rescues.ensures.local two c.flag-3.ensures.local in
    c.with_argument.ensures.local (c.with_argument-formatted.ensures.local three c.flag-4.ensures.local) c.file_argument.ensures.local
