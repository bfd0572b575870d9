use Rattle.std.proofs.Common.{◌≤◌}
use Rattle.adf_keep.specs.Links.{AreLed, IsInLinkChain}
use Rattle.adf_keep.proofs.links_led.follow_links.Given as goal

abbrev pub invariant-loop : goal.invariant-loop
invariant-loop l = record {
  chain : 1 ≤ l.b → IsInLinkChain l.image l.t l.b;
  led : AreLed l.image l.initial.led.items → AreLed l.image l.led.items;
}
