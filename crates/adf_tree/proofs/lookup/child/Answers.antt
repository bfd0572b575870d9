use Rattle.std.proofs.Common.{arith, sym, ◌∙◌, ap}
use Rattle.adf_base.specs.Hash.{slot_by}
use Rattle.adf_tree.proofs.ChildLookup.{child_not_before_by, child_not_past_by, no_children_by}
use Rattle.adf_tree.proofs.lookup.child.Goals as goal

pub loop-i-init : goal.loop-i-init
loop-i-init c =
    child_not_before_by c.args.letters c.args.entries.now c.args.parent c.args.name.now c.slot_by-slot.result c.start_of-start.result
    (c.slot_by-slot.ensures.exact ∙ ap (slot_by c.args.letters) c.bytes.ensures.bytes) c.start_of-start.ensures.parted

pub returns : goal.returns
returns c =
    sym (no_children_by c.args.letters c.args.entries.now c.args.parent c.args.name.now
    (child_not_past_by c.args.letters c.args.entries.now c.args.parent c.args.name.now c.slot_by-slot.result c.place_of-end.result c.loop-i.i
    (c.slot_by-slot.ensures.exact ∙ ap (slot_by c.args.letters) c.bytes.ensures.bytes) c.requires c.place_of-end.ensures.exact
    (omega arith) c.loop-i.invariant))
