use Rattle.std.proofs.Common.{◌≡◌, ◌++◌, map, take}
use Rattle.std.specs.List.{join_with_byte}
use Rattle.adf_json.specs.Objects.{member_text, member_value}
use Rattle.adf_json.proofs.objects.push_object.Given as goal

abbrev pub invariant-loop-i : goal.invariant-loop-i
invariant-loop-i l = l.text.items ≡ l.initial.text.items ++ join_with_byte 44 (map (λ m. member_text (member_value m)) (take l.i l.members))
