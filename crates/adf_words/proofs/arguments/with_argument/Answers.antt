use Rattle.std.proofs.Common.{◌∙◌, ◌||◌, Bool, ap₂}
use Rattle.std.proofs.lemmas.Result.{IfOk-weaker}
use Rattle.adf_words.proofs.CommandLines.{argument_added}
use Rattle.adf_words.proofs.arguments.with_argument.Goals as goal

pub returns-clause-app : goal.returns-clause-app
returns-clause-app c = λ a r known is local.
    IfOk-weaker c.arg.result _ _ (argument_added a r _ _ (rw c.in_ok-command.was at known) is local) c.arg.ensures

pub returns-clause-local : goal.returns-clause-local
returns-clause-local c = λ known local.
    IfOk-weaker c.arg.result _ _
    (λ new adds. adds.globals ∙ ap₂ (λ (x y : Bool). x || y) (rw c.in_ok-command.was at known) local) c.arg.ensures
