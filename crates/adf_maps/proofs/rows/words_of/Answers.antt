use Rattle.std.proofs.Common.{length, nat_lt, rules, tests}
use Rattle.std.proofs.lemmas.Iterator.{Consumers.YieldsList-at, Consumers.YieldsList-from_filter, Consumers.map_from_collect, Splits.YieldsList-from_slice_split}
use Rattle.adf_maps.specs.Maps.{is_blank}
use Rattle.adf_maps.proofs.rows.words_of.Goals as goal

pub returns : goal.returns
returns c = map_from_collect _ c.collect.ensures.ran
    (YieldsList-from_filter _ (λ w. nat_lt 0 (length w))
    (YieldsList-at c.filter.ensures.source
    (YieldsList-from_slice_split _ is_blank c.args.line.now c.split.ensures.rest c.split.ensures.done c.split.ensures.closure (λ x r q k. search (rules, tests))))
    c.filter.ensures.closure (λ x r q k. search (rules, tests)))
