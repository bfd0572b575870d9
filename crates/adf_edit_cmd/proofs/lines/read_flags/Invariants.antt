use Rattle.std.proofs.Common.{◌≢◌, ◌<◌, ℕ}
use Rattle.adf_edit_cmd.specs.Lines.{flags_text}
use Rattle.adf_edit_cmd.proofs.lines.read_flags.Given as goal

abbrev pub invariant-loop-word : goal.invariant-loop-word
invariant-loop-word l = (word : ℕ) → word < l.word → l.text ≢ flags_text word
