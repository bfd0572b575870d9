use Rattle.adf_cache_laying.proofs.alike.are_alike.Goals as goal

pub returns : goal.returns
returns c = λ w fs s v gs t told. record {
  count = c.are_as_many.ensures.entries w fs s v gs t c.if-not-are_as_many.false;
  places = c.are_at_same_places.ensures w fs s v gs t c.if-not-are_at_same_places.false;
  parts = c.are_same_parts.ensures w fs s v gs t c.if-not-are_same_parts.false;
  findings = c.are_as_many.ensures.findings w fs s v gs t c.if-not-are_as_many.false;
  told = c.are_of_type_or_links.ensures v gs t told;
}
