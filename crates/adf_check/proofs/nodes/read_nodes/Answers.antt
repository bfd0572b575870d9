use Rattle.std.proofs.{Common.subst, Common.sym, Common.refl, Common.arith, lemmas.Grind.common_steps}
use Rattle.adf_check.specs.{Reading.IsInNode, Store.store_value}
use Rattle.adf_check.proofs.{NodeSteps.enter_node, NodeSteps.all_read, NumberBounds.headers_within, NumberBounds.lists_short}
use Rattle.adf_check.proofs.nodes.read_nodes.Goals as goal

pub enter-requires : goal.enter-requires
enter-requires c = grind (arith, common_steps, lists_short refl c.loop-node.invariant.read)

pub read_node-requires : goal.read_node-requires
read_node-requires c = record {
  state = subst (λ s. IsInNode c.args.image.now s c.loop-node.node) (sym c.in_ok-enter.ensures.entered)
      (enter_node c.args.image.now (store_value c.loop-node.store) c.loop-node.node (omega arith) c.loop-node.invariant);
}

pub returns-clause-state : goal.returns-clause-state
returns-clause-state c = search (arith, all_read)

pub loop-node-smaller : goal.loop-node-smaller
loop-node-smaller c = omega (arith, headers_within refl c.loop-node.invariant.read)
