use Rattle.adf_check.specs.{Store.store_value, Volumes.OnVolume}
use Rattle.adf_check.proofs.ChainLookups.{OnChain, chain_left}
use Rattle.adf_check.proofs.lookup.child.Given as goal

abbrev pub invariant-loop-b : goal.invariant-loop-b
invariant-loop-b l = OnVolume l.image (λ t m. OnChain t.letters l.image t m l.fn.parent l.name l.b)

abbrev pub decreases-loop-b : goal.decreases-loop-b
decreases-loop-b l = chain_left (store_value l.store) l.b
