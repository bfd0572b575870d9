use Rattle.std.proofs.Common.{◌≡◌, ◌≤◌, drop, length}
use Rattle.adf_tree.specs.Tree.{find_from_by}
use Rattle.adf_check.specs.Volumes.{OnVolume}
use Rattle.adf_check.proofs.lookup.find.Given as goal

abbrev pub invariant-loop-name : goal.invariant-loop-name
invariant-loop-name l = record {
  found : OnVolume l.image (λ t _.
      find_from_by t.letters t.entries 0 l.path ≡ find_from_by t.letters t.entries l.node (drop l.name-index l.path));
  node : l.node ≤ length l.store.headers.items;
}
