use Rattle.std.proofs.Common.{sym, ◌∙◌}
use Rattle.adf_drafts.proofs.DraftDirectories.{has_none_in, has_room_in}
use Rattle.adf_drafts.proofs.draft.Draft.room_in.Goals as goal

pub returns-in-None-clause-some : goal.returns-in-None-clause-some
returns-in-None-clause-some c = rw (← c.self.view_is, c.copy.ensures) (λ path is.
    has_room_in c.self.invariant c.args.name.now is (sym c.get.ensures ∙ c.in-None.is))

pub returns-in-Some-clause-none : goal.returns-in-Some-clause-none
returns-in-Some-clause-none c = rw (← c.self.view_is) (λ path is.
    has_none_in c.self.invariant c.args.name.now is (sym c.get.ensures ∙ c.in-Some.is))
