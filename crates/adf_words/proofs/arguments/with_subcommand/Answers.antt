use Rattle.std.proofs.lemmas.Result.{IfOk-weaker}
use Rattle.adf_words.proofs.CommandLines.{subcommand_added}
use Rattle.adf_words.proofs.arguments.with_subcommand.Goals as goal

pub returns : goal.returns
returns c = λ a s known is local.
    IfOk-weaker c.subcommand.result _ _ (subcommand_added a s _ _ (rw c.in_ok-command.was at known) (rw c.in_ok-subcommand.was at is)
    (rw c.in_ok-subcommand.was at local)) c.subcommand.ensures
