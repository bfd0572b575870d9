use Rattle.std.proofs.Common.{◌≡◌, ◌≤◌, ◌*◌, arith, length}
use Rattle.std.proofs.lemmas.Grind.{common_steps}
use Rattle.adf_memory.specs.Building.{new_tree}
use Rattle.adf_memory.proofs.Filled.{in_front}
use Rattle.adf_memory.proofs.building.build_in_room.Goals as goal

pub tree_of-requires : goal.tree_of-requires
tree_of-requires c = (new_tree c.args.volume.now, c.in_ok-draft.ensures.draft c.args.contents.now)

pub returns-in-Ok-clause-volume : goal.returns-in-Ok-clause-volume
returns-in-Ok-clause-volume c =
    let tree = c.in_ok-tree.ensures.tree (new_tree c.args.volume.now) (c.in_ok-draft.ensures.draft c.args.contents.now) in
    let wide : c.args.volume.now.blocks * 512 ≤ length c.args.room.now = omega arith in
    let size : length c.build_into.new.room ≡ c.args.volume.now.blocks * 512 = grind (arith, common_steps, c.build_into.auto.room) in
    record {
      image = c.build_into.new.room;
      laid = rw tree at c.in-Ok.ensures.laid;
      size = size;
      room = in_front c.build_into.new.room c.args.room.now (c.args.volume.now.blocks * 512) size wide;
    }

pub returns-in-Err-Full-clause-fault : goal.returns-in-Err-Full-clause-fault
returns-in-Err-Full-clause-fault c =
    let tree = c.in_ok-tree.ensures.tree (new_tree c.args.volume.now) (c.in_ok-draft.ensures.draft c.args.contents.now) in
    let told = rw (tree, c.in-Err-Full.field-0-is) at c.in-Err-Full.ensures.fault in (
      record {
        kind = c.in_ok-draft.ensures.sound.0;
        label = c.in_ok-draft.ensures.sound.1;
        additions = rw c.in_ok-draft.ensures.letters at c.in_ok-tree.ensures.sound;
      },
      told.1,
      told.2,
      told.3,
    )
