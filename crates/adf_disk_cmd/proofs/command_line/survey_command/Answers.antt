use Rattle.adf_words.specs.FileArguments.{file_rule}
use Rattle.adf_disk_cmd.specs.CommandLine.{disk_survey_flags}
use Rattle.adf_disk_cmd.proofs.command_line.survey_command.Goals as goal

pub returns-clause-app : goal.returns-clause-app
returns-clause-app c =
    c.with_argument.ensures.app disk_survey_flags file_rule c.survey_flags.ensures.app c.file_argument.ensures.rule c.file_argument.ensures.local

pub returns-clause-local : goal.returns-clause-local
returns-clause-local c = c.with_argument.ensures.local c.survey_flags.ensures.local c.file_argument.ensures.local
