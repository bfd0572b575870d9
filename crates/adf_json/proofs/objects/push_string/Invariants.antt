use Rattle.std.proofs.Common.{◌≡◌, ◌++◌, take}
use Rattle.std.specs.List.{flat_map}
use Rattle.adf_json.specs.Objects.{byte_in_string}
use Rattle.adf_json.proofs.objects.push_string.Given as goal

abbrev pub invariant-loop-c : goal.invariant-loop-c
invariant-loop-c l = l.text.items ≡ l.initial.text.items ++ flat_map byte_in_string (take l.c-index l.bytes)
