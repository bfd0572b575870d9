use Rattle.std.proofs.Common.{◌≡◌, take}
use Rattle.std.specs.String.{string_bytes}
use Rattle.adf_names.specs.PathTexts.{path_text}
use Rattle.adf_names.proofs.path_texts.joined.Given as goal

abbrev pub invariant-loop-i : goal.invariant-loop-i
invariant-loop-i l = string_bytes l.text ≡ path_text (take l.i l.path)
