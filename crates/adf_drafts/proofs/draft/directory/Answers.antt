use Rattle.std.proofs.Common.{sym, ◌∙◌}
use Rattle.adf_drafts.proofs.DraftLookup.{step_to, step_within}
use Rattle.adf_drafts.proofs.draft.directory.Goals as goal

pub returns-then-not-is_dir-clause-room : goal.returns-then-not-is_dir-clause-room
returns-then-not-is_dir-clause-room c =
    c.loop-name.invariant.leads
    ∙ step_to c.args.path.now c.loop-name.name-index c.requires c.loop-name.invariant.within c.loop-name-test.true c.name-item.is
    (sym c.get.ensures ∙ c.in-Some.is) (sym c.is_dir.ensures ∙ c.if-not-is_dir.true)

pub loop-name-preserved : goal.loop-name-preserved
loop-name-preserved c =
    let at = sym c.get.ensures ∙ c.in-Some.is in
    record {
      within = step_within c.args.path.now c.loop-name.name-index c.requires c.loop-name.invariant.within c.loop-name-test.true c.name-item.is at;
      leads = c.loop-name.invariant.leads
          ∙ step_to c.args.path.now c.loop-name.name-index c.requires c.loop-name.invariant.within c.loop-name-test.true c.name-item.is
          at (sym c.is_dir.ensures ∙ c.if-not-is_dir.false);
    }
