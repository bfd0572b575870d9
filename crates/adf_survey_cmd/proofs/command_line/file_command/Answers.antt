use Rattle.adf_words.specs.FileArguments.{file_rule}
use Rattle.adf_survey_cmd.proofs.command_line.file_command.Goals as goal

pub returns-clause-app : goal.returns-clause-app
returns-clause-app c = c.with_argument.ensures.app _ file_rule c.new.ensures.app c.file_argument.ensures.rule c.file_argument.ensures.local

pub returns-clause-local : goal.returns-clause-local
returns-clause-local c = c.with_argument.ensures.local c.new.ensures.local c.file_argument.ensures.local
