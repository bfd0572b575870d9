use Rattle.std.proofs.Common.{◌≡◌, ◌-◌, take, ◌∷◌, ◌++◌, replicate}
use Rattle.adf_names.specs.Texts.{uppers}
use Rattle.adf_tree.proofs.name_key.padded.Given as goal

abbrev pub invariant-loop-i : goal.invariant-loop-i
invariant-loop-i l = l.text ≡ 0 ∷ (uppers (take l.i l.name) ++ replicate (31 - l.i) 0)
