use Rattle.adf_keep.specs.Links.{AreLed}
use Rattle.adf_keep.proofs.links_led.led_links.Given as goal

abbrev pub invariant-loop-own : goal.invariant-loop-own
invariant-loop-own l = AreLed l.image l.led.items
