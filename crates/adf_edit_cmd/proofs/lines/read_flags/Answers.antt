use Rattle.std.proofs.Common.{◌≢◌, arith}
use Rattle.std.proofs.lemmas.Grind.{common_steps}
use Rattle.adf_edit_cmd.specs.Lines.{flags_text}
use Rattle.adf_edit_cmd.proofs.ScriptLines.{no_next_flags}
use Rattle.adf_edit_cmd.proofs.lines.read_flags.Goals as goal

pub loop-word-preserved : goal.loop-word-preserved
loop-word-preserved c =
    let next : c.args.text.now ≢ flags_text c.loop-word.word = grind (arith, common_steps) in
    no_next_flags c.args.text.now c.loop-word.word c.loop-word.invariant next
