use Rattle.std.proofs.Common.{◌≡◌, take}
use Rattle.adf_names.specs.Texts.{uppers_by}
use Rattle.adf_names.proofs.name.Name.raised.Given as goal

abbrev pub invariant-loop-c : goal.invariant-loop-c
invariant-loop-c l = l.text.items ≡ uppers_by l.letters (take l.c-index l.name)
