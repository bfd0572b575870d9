use Rattle.std.proofs.Common.{◌≡◌, ◌<◌, length, take, fold}
use Rattle.adf_base.specs.Hash.{hash_more}
use Rattle.adf_base.proofs.hash.slot.Given as goal

abbrev pub invariant-loop-c : goal.invariant-loop-c
invariant-loop-c l = (l.hash ≡ fold hash_more (length l.name) (take l.c-index l.name)) × (l.hash < 2048)
