use Rattle.std.proofs.Common.{refl, subst, sym}
use Rattle.adf_keep.specs.Links.{AreLed, AreMarkedLinks, ArePlaces, HasEntries, HasLinks}
use Rattle.adf_keep.proofs.links.is_linked.Goals as goal

pub returns : goal.returns
returns c =
    let volume = c.args.wish.now.volume.now in
    let image = c.args.image.now in
    λ yes. record {
      size = c.if-owns-wish.false;
      links = c.in_ok-links.links.items;
      marked = subst (λ n. AreMarkedLinks n c.args.owns.now c.in_ok-links.links.items) c.blocks-2.ensures.blocks c.in_ok-links.ensures;
      beside = subst (λ links. HasLinks volume image links) c.deref-2.ensures.value
          (c.if-not-is_beside.ensures.links (subst (λ places. ArePlaces volume places) (sym c.deref.ensures.value) c.in_ok-before.ensures) refl);
      entries = subst (λ links. HasEntries volume image links) c.deref-2.ensures.value
          (c.if-not-is_beside.ensures.entries (subst (λ places. ArePlaces volume places) (sym c.deref.ensures.value) c.in_ok-before.ensures) refl);
      each = c.are_kept.ensures (subst (λ places. ArePlaces image places) (sym c.deref-3.ensures.value) c.in_ok-places.ensures)
          (subst (λ led. AreLed image led) (sym c.deref-4.ensures.value) c.in_ok-led.ensures) yes;
    }
