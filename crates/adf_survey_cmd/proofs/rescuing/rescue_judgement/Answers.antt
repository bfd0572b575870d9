use Rattle.adf_survey_cmd.proofs.Rescued.{kept_of}
use Rattle.adf_survey_cmd.proofs.rescuing.rescue_judgement.Goals as goal

pub returns-in-Ok : goal.returns-in-Ok
returns-in-Ok c =
    kept_of c.lay_prepared.result c.args.wish c.in-Ok.prepared c.args.judgement.now.reading c.args.judgement.now.claims.items
    c.args.judgement.now.deleted.items c.args.input.now
    (rw c.terms_of.ensures at c.in-Ok.ensures.kept) c.lay_prepared.ensures.volume c.lay_prepared.ensures.status
