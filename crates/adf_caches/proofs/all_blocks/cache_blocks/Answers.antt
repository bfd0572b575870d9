use Rattle.std.proofs.Common.{◌+◌}
use Rattle.adf_caches.proofs.BlockSteps.{blocks_more}
use Rattle.adf_caches.proofs.all_blocks.cache_blocks.Goals as goal

pub loop-i-preserved : goal.loop-i-preserved
loop-i-preserved c = λ w fs survey chains.
    blocks_more c.args.survey.now.image w (c.loop-i.i + 1) c.loop-i.list.items c.push_cache-in-loop-i.new.list.items
    (c.loop-i.invariant w fs survey chains) (c.in_ok-push_cache-2.ensures w fs survey chains)
