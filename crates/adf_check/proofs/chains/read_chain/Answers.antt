use Rattle.std.proofs.Common.{◌≡◌, ◌+◌, suc, subst, arith}
use Rattle.adf_check.specs.{Reading.IsAtSlot, Reading.sees_of, Store.store_value}
use Rattle.adf_check.proofs.ChainSteps.{chain_ends}
use Rattle.adf_check.proofs.chains.read_chain.Goals as goal

pub returns-clause-state : goal.returns-clause-state
returns-clause-state c =
    let image = c.args.image.now in
    let chain = c.args.chain.now in
    let store = store_value c.loop-link.store in
    let next : suc chain.slot ≡ chain.slot + 1 = omega arith in
    subst (IsAtSlot image store chain.parent chain.up) next
    (chain_ends image store chain c.loop-link.link (sees_of c.loop-link.seen) c.loop-link.invariant.state c.loop-link-test.false)
