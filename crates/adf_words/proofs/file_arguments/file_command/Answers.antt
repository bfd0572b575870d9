use Rattle.std.proofs.lemmas.Result.{IfOk-weaker}
use Rattle.adf_words.proofs.CommandLines.{argument_added}
use Rattle.adf_words.proofs.file_arguments.file_command.Goals as goal

pub returns-clause-app : goal.returns-clause-app
returns-clause-app c =
    IfOk-weaker c.arg.result _ _ (argument_added _ _ _ _ c.new.ensures.app c.file_argument.ensures.rule c.file_argument.ensures.local)
    c.arg.ensures
