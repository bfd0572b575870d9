use Rattle.std.proofs.Common.{◌≡◌, ◌<◌, arith, subst}
use Rattle.std.proofs.lemmas.Grind.{common_steps}
use Rattle.adf_tree.specs.Tree.{Tree}
use Rattle.adf_blocks.specs.declared.layout.TheConstants.{MOST_BLOCKS}
use Rattle.adf_build.specs.Building.{need_of}
use Rattle.adf_memory.specs.Building.{IsFewest, new_tree}
use Rattle.adf_memory.proofs.building.fewest_for.Goals as goal

pub tree_of-requires : goal.tree_of-requires
tree_of-requires c = (new_tree c.args.volume.now, c.in_ok-draft.ensures.draft c.args.contents.now)

pub returns-in-Some-clause-fewest : goal.returns-in-Some-clause-fewest
returns-in-Some-clause-fewest c =
    let tree = c.in_ok-tree.ensures.tree (new_tree c.args.volume.now) (c.in_ok-draft.ensures.draft c.args.contents.now) in
    subst (λ (t : Tree). IsFewest t c.in-Some.blocks) tree (record { room = c.in-Some.ensures.room; fewest = c.in-Some.ensures.fewest })

pub returns-clause-fault : goal.returns-clause-fault
returns-clause-fault c =
    let tree = c.in_ok-tree.ensures.tree (new_tree c.args.volume.now) (c.in_ok-draft.ensures.draft c.args.contents.now) in
    let need : c.unwrap-need.result ≡ need_of c.in_ok-tree.tree MOST_BLOCKS = grind (arith, common_steps) in
    let few : c.from.result < c.unwrap-need.result = grind (arith, common_steps) in (
      record {
        kind = c.in_ok-draft.ensures.sound.0;
        label = c.in_ok-draft.ensures.sound.1;
        additions = rw c.in_ok-draft.ensures.letters at c.in_ok-tree.ensures.sound;
      },
      rw tree at need,
      grind (arith, common_steps),
      few,
    )
