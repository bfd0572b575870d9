use Rattle.std.proofs.Common.{◌≡◌, take}
use Rattle.adf_edits.specs.Index.{path_key}
use Rattle.adf_edits.proofs.index.key_of.Given as goal

abbrev pub invariant-loop-name : goal.invariant-loop-name
invariant-loop-name l = l.key.items ≡ path_key (take l.name-index l.path)
