use Rattle.std.proofs.Common.{codes}
use Rattle.adf_words.specs.{Arguments.flag_rule, FileArguments.file_rule}
use Rattle.adf_disk_cmd.proofs.command_line.telling_command.Goals as goal

pub returns-clause-app : goal.returns-clause-app
returns-clause-app c =
    let one = c.with_argument-tells.ensures.app _ (flag_rule (codes "json")) c.new.ensures.app c.flag.ensures.rule c.flag.ensures.local in
    c.with_argument.ensures.app _ file_rule one c.file_argument.ensures.rule c.file_argument.ensures.local

pub returns-clause-local : goal.returns-clause-local
returns-clause-local c =
    c.with_argument.ensures.local (c.with_argument-tells.ensures.local c.new.ensures.local c.flag.ensures.local) c.file_argument.ensures.local
