use Rattle.std.proofs.Common.{sym}
use Rattle.adf_keep.specs.Links.{IsInHashChain.first, IsInHashChain.next}
use Rattle.adf_keep.proofs.links_places.walk_chain.Goals as goal

pub loop-init : goal.loop-init
loop-init c = record {
  chain = λ low. first low (sym c.word-h.ensures);
  walk = λ walk directory. walk;
}

pub returns-then-not-branch : goal.returns-then-not-branch
returns-then-not-branch c = λ walk directory.
    c.in_ok-put_place.ensures.walk (c.loop.invariant.walk walk directory)
    (λ low. record { directory = directory; few = c.requires; chain = c.loop.invariant.chain low })

pub loop-preserved : goal.loop-preserved
loop-preserved c = record {
  chain = λ low. next low (c.loop.invariant.chain (c.in_ok-put_place.ensures.new (cc))) (sym c.word-h-in-loop.ensures);
  walk = λ walk directory.
      c.in_ok-put_place.ensures.walk (c.loop.invariant.walk walk directory)
      (λ low. record { directory = directory; few = c.requires; chain = c.loop.invariant.chain low });
}
