use Rattle.std.proofs.Common.{◌≡◌, ◌≤◌, List, drop, length}
use Rattle.adf_tree.specs.{Tree.find_by, Tree.find_from_by, declared.entry.Entry.Entry}
use Rattle.adf_memory.specs.TableNames.{HasNamesOfBy}
use Rattle.adf_memory.proofs.lookup.find.Given as goal

abbrev pub invariant-loop-name : goal.invariant-loop-name
invariant-loop-name l = record {
  found : (es : List Entry) → HasNamesOfBy l.letters l.entries es
      → find_by l.letters es l.path ≡ find_from_by l.letters es l.node (drop l.name-index l.path);
  inside : l.node ≤ length l.entries;
}
