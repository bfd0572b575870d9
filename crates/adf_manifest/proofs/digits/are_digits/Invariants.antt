use Rattle.std.proofs.Common.{◌≡◌, take}
use Rattle.std.specs.List.{list_all}
use Rattle.adf_manifest.specs.Texts.{is_digit}
use Rattle.adf_manifest.proofs.digits.are_digits.Given as goal

abbrev pub invariant-loop-c : goal.invariant-loop-c
invariant-loop-c l = l.all ≡ list_all is_digit (take l.c-index l.text)
