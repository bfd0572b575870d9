use Rattle.adf_keep.proofs.Rescues.{proposes_more}
use Rattle.adf_keep.proofs.proposing.propose.Goals as goal

pub returns-clause-claims : goal.returns-clause-claims
returns-clause-claims c =
    let behind = c.in_ok-home.ensures.behind in
    proposes_more c.args.claims.now c.in_ok-entries.entries.items _ behind.0 behind.1 c.in_ok-entries.ensures.claims
