use Rattle.std.proofs.Common.{[], take}
use Rattle.adf_tree.specs.Tree.{Tree}
use Rattle.adf_memory.specs.TableAdditions.{AreSoundBefore, IsDraftOf}
use Rattle.adf_memory.proofs.building.add_all.Given as goal

abbrev pub invariant-loop-i : goal.invariant-loop-i
invariant-loop-i l = record {
  drafts : (t : Tree) → IsDraftOf t l.contents [] l.fn.draft → IsDraftOf t l.contents (take l.i l.additions) l.draft;
  sound : AreSoundBefore l.fn.draft.tree.letters l.contents l.additions l.i;
}
