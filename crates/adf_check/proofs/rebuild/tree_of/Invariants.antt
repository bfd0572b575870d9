use Rattle.std.proofs.Common.{◌≡◌, take}
use Rattle.adf_check.specs.Volumes.{OnVolume}
use Rattle.adf_check.proofs.rebuild.tree_of.Given as goal

abbrev pub invariant-loop-i : goal.invariant-loop-i
invariant-loop-i l = OnVolume l.volume (λ t _.
    l.tree ≡ record { kind = t.kind; letters = t.letters; label = t.label; stamps = t.stamps; entries = take l.i t.entries })
