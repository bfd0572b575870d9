use Rattle.std.proofs.Common.{subst, sym}
use Rattle.adf_keep.specs.{Entry.IsEntryOf, Reasons.IsEntryFault}
use Rattle.adf_keep.proofs.FileForms.{found_weaker}
use Rattle.adf_keep.proofs.entries.read_entry.Goals as goal

pub returns-in-Some-block : goal.returns-in-Some-block
returns-in-Some-block c = λ bs are.
    found_weaker c.read_headed.result _ _ _ _
    (λ f h. (subst (λ o. IsEntryOf c.args.kind c.args.image.now o f.meta f.body f.claimed.items) (sym c.in-Some.is) h.0, h.1))
    (λ why h. (subst (λ o. IsEntryFault c.args.kind c.args.image.now bs o why) (sym c.in-Some.is) h.0, h.1))
    (c.read_headed.ensures bs are)
