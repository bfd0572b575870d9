use Rattle.std.proofs.Common.{ap, ◌∙◌}
use Rattle.adf_tree.specs.Tree.{entry}
use Rattle.adf_check.specs.Rebuild.{body_with}
use Rattle.adf_check.proofs.TreeEntries.{entry_back, entry_none}
use Rattle.adf_check.proofs.rebuild.entry_of.Goals as goal

pub returns : goal.returns
returns c = λ letters t l st.
    entry_back c.in-Some.row c.body_with-body.result (entry t.entries c.args.n) (c.in-Some.ensures letters t l st)
    (c.body_with-body.ensures ∙ ap body_with (c.in_ok-read.ensures.bytes letters t l st))

pub returns-in_default : goal.returns-in_default
returns-in_default c = λ letters t l st. entry_none (entry t.entries c.args.n) (c.in_default.ensures letters t l st)
