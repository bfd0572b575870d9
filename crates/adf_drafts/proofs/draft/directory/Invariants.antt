use Rattle.std.proofs.Common.{◌≡◌, ◌≤◌, drop, length}
use Rattle.adf_tree.specs.Tree.{directory_from_by}
use Rattle.adf_drafts.specs.Draft.{addition_node, built}
use Rattle.adf_drafts.proofs.draft.directory.Given as goal

abbrev pub invariant-loop-name : goal.invariant-loop-name
invariant-loop-name l = record {
  within : l.node ≤ length l.entries;
  leads : directory_from_by l.letters (built l.letters l.entries).entries 0 l.path
      ≡ directory_from_by l.letters (built l.letters l.entries).entries (addition_node (built l.letters l.entries).nodes l.node) (drop l.name-index l.path);
}
