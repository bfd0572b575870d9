use Rattle.std.proofs.Common.{codes}
use Rattle.adf_words.specs.{Arguments.required_rule, FileArguments.file_rule}
use Rattle.adf_disk_cmd.proofs.command_line.volume_command.Goals as goal

pub returns-clause-app : goal.returns-clause-app
returns-clause-app c =
    let one = c.with_argument-volumes.ensures.app _ (required_rule (codes "name")) c.new.ensures.app c.required.ensures.rule c.required.ensures.local in
    c.with_argument.ensures.app _ file_rule one c.file_argument.ensures.rule c.file_argument.ensures.local

pub returns-clause-local : goal.returns-clause-local
returns-clause-local c =
    c.with_argument.ensures.local (c.with_argument-volumes.ensures.local c.new.ensures.local c.required.ensures.local) c.file_argument.ensures.local
