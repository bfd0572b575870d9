use Rattle.std.proofs.Common.{codes}
use Rattle.adf_words.specs.{Arguments.flag_rule, FileArguments.file_rule}
use Rattle.adf_boot_cmd.proofs.command_line.told_command.Goals as goal

pub returns : goal.returns
returns c =
    let one = c.with_argument-flagged.ensures.app _ (flag_rule (codes "json")) c.bare_command.ensures c.flag.ensures.rule c.flag.ensures.local in
    c.with_argument.ensures.app _ file_rule one c.file_argument.ensures.rule c.file_argument.ensures.local
