use Rattle.std.proofs.Common.{◌≡◌, map, take}
use Rattle.std.specs.List.{join_with_byte}
use Rattle.adf_json.proofs.paths.joined.Given as goal

abbrev pub invariant-loop-i : goal.invariant-loop-i
invariant-loop-i l = l.text.items ≡ join_with_byte 47 (map (λ name. name.now) (take l.i l.path))
