use Rattle.std.proofs.Common.{◌≡◌, ◌++◌, ◌+◌, ◌-◌, ◌<◌, ap, arith, length, subst, sym}
use Rattle.adf_blocks.specs.Sizes.{blocks}
use Rattle.adf_caches.specs.Caches.{is_cache_block, next_cache}
use Rattle.adf_caches.proofs.BlockSteps.{Lists, chain_more, listed_all, listed_last}
use Rattle.adf_caches.proofs.all_blocks.push_chain.Goals as goal

pub returns-then-b-eq0 : goal.returns-then-b-eq0
returns-then-b-eq0 c = λ w fs survey d bs way.
    let image = c.args.survey.now.image in
    listed_all (is_cache_block image w d) (next_cache image) c.loop-k.list.items (blocks image - c.loop-k._k) c.loop-k.b (c.args.list.now.items ++ bs)
    c.if-b-eq0.true (c.loop-k.invariant w fs survey d bs way)

pub loop-k-preserved : goal.loop-k-preserved
loop-k-preserved c = λ w fs survey d bs way.
    let image = c.args.survey.now.image in
    let all = c.args.list.now.items ++ bs in
    let lt : c.loop-k._k < blocks image = omega (arith, c.loop-k-test.true, ap length c.image-image.ensures) in
    subst (λ l. Lists (is_cache_block image w d) (next_cache image) l (blocks image - (c.loop-k._k + 1)) c.next_cache-b.result all)
    (sym c.in_ok-push.ensures.items)
    (chain_more image w d c.loop-k.list.items c.loop-k._k c.loop-k.b c.next_cache-b.result all lt c.if-b-eq0.false
    (rw c.image-image.ensures at c.next_cache-b.ensures) (c.loop-k.invariant w fs survey d bs way))

pub returns : goal.returns
returns c = λ w fs survey d bs way.
    let image = c.args.survey.now.image in
    let all = c.args.list.now.items ++ bs in
    let none : blocks image - c.loop-k._k ≡ 0 = omega (arith, c.loop-k-test.false, ap length c.image-image.ensures) in
    listed_last (is_cache_block image w d) (next_cache image) c.loop-k.list.items c.loop-k.b all
    (subst (λ n. Lists (is_cache_block image w d) (next_cache image) c.loop-k.list.items n c.loop-k.b all) none
    (c.loop-k.invariant w fs survey d bs way))
