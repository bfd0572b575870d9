use Rattle.std.proofs.{Common.refl, lemmas.Result.IfOk-weaker}
use Rattle.adf_words.proofs.CommandLines.{subcommand_added}
use Rattle.adf_words.proofs.command_line.with_plain.Goals as goal

pub returns : goal.returns
returns c =
    IfOk-weaker c.subcommand.result _ _ (subcommand_added _ _ _ _ refl c.new.ensures.app c.new.ensures.local) c.subcommand.ensures
