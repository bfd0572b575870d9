use Rattle.std.proofs.Common.{refl, sym}
use Rattle.adf_keep.specs.Links.{IsInLinkChain.first, IsInLinkChain.next}
use Rattle.adf_keep.proofs.links_led.follow_links.Goals as goal

pub loop-init : goal.loop-init
loop-init c = record {
  chain = λ low. first low (sym c.word-b.ensures);
  led = λ are. are;
}

pub loop-preserved : goal.loop-preserved
loop-preserved c =
    let new = c.if-not-is_new.ensures refl in
    record {
      chain = λ low. next low (c.loop.invariant.chain new.0) (sym c.word-b-in-loop.ensures);
      led = λ are. c.note_led.ensures c.args.image.now (c.loop.invariant.led are) (c.loop.invariant.chain new.0);
    }
