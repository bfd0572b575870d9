use Rattle.std.proofs.Common.{arith, ◌∙◌, ap}
use Rattle.std.proofs.lemmas.Grind.{common_steps}
use Rattle.adf_base.specs.Hash.{slot_by}
use Rattle.adf_memory.proofs.TableNames.{before_both, found_here, one_more, past_end}
use Rattle.adf_memory.proofs.lookup.child.Goals as goal

pub loop-i-init : goal.loop-i-init
loop-i-init c = λ es has.
    before_both has c.args.parent c.args.name.now c.slot_by-slot.result
    (c.slot_by-slot.ensures.exact ∙ ap (slot_by c.args.letters) c.bytes.ensures.bytes)
    c.start_of.result c.max-start.result c.start_of.ensures.within c.requires c.max-start.ensures c.start_of.ensures.parted

pub returns-then-is_child-clause-found : goal.returns-then-is_child-clause-found
returns-then-is_child-clause-found c = grind (arith, common_steps, found_here)

pub loop-i-preserved : goal.loop-i-preserved
loop-i-preserved c = grind (arith, common_steps, one_more)

pub returns-clause-found : goal.returns-clause-found
returns-clause-found c = λ es has.
    past_end has c.args.parent c.args.name.now c.slot_by-slot.result
    (c.slot_by-slot.ensures.exact ∙ ap (slot_by c.args.letters) c.bytes.ensures.bytes)
    c.end_of-end.result c.loop-i.i c.end_of-end.ensures.within c.end_of-end.ensures.parted (omega arith) (c.loop-i.invariant es has)
