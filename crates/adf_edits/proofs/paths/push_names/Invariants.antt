use Rattle.std.proofs.Common.{◌≡◌, ◌++◌, take}
use Rattle.adf_edits.proofs.paths.push_names.Given as goal

abbrev pub invariant-loop-name : goal.invariant-loop-name
invariant-loop-name l = l.path.items ≡ l.fn.path.items ++ take l.name-index l.names
