use Rattle.std.proofs.Common.{subst, sym}
use Rattle.adf_keep.specs.Links.{AreLed}
use Rattle.adf_keep.proofs.LinksLed.{none_led}
use Rattle.adf_keep.proofs.links_led.none_led.Goals as goal

pub returns : goal.returns
returns c = λ image. subst (λ xs. AreLed image xs) (sym (c.in_ok-vec.ensures.items_if_clones_equal (λ y e. e))) (none_led image c.args.count)
