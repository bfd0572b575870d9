use Rattle.adf_check.specs.{Reading.IsInChain, Reading.sees_of, Progress.left, Store.store_value}
use Rattle.adf_check.proofs.chains.read_chain.Given as goal

abbrev pub invariant-loop-link : goal.invariant-loop-link
invariant-loop-link l = record {
  state : IsInChain l.image (store_value l.store) l.chain l.link (sees_of l.seen);
}

abbrev pub decreases-loop-link : goal.decreases-loop-link
decreases-loop-link l = left l.store
