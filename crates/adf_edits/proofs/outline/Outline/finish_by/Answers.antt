use Rattle.std.proofs.Common.{arith, append_assoc}
use Rattle.std.proofs.lemmas.Grind.{common_steps}
use Rattle.adf_edits.proofs.Additions.{grown, room_grown}
use Rattle.adf_edits.proofs.outline.Outline.finish_by.Goals as goal

pub loop-item-preserved : goal.loop-item-preserved
loop-item-preserved c = record {
  tree = grown c.args.letters c.args.self c.loop-item.yielded c.in-Some.item c.loop-item.draft.tree c.in_ok-draft.draft.tree
      c.loop-item.invariant.tree c.in_ok-draft.ensures.tree;
  room = room_grown c.args.letters c.args.self c.loop-item.yielded c.in-Some.item c.loop-item.draft.tree c.loop-item.invariant.tree
      c.loop-item.invariant.room c.in_ok-draft.ensures.room;
  all = grind (arith, common_steps, append_assoc);
}
