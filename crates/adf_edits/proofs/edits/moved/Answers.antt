use Rattle.std.proofs.lemmas.List.Elements.{filter_passes}
use Rattle.adf_edits.specs.Edits.{is_within}
use Rattle.adf_edits.proofs.edits.moved.Goals as goal

pub push_moved-requires : goal.push_moved-requires
push_moved-requires c = rw c.in_ok-rest.ensures.within (filter_passes (is_within c.args.from.now) c.args.items.items)
