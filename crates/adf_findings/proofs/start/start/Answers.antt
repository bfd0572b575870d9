use Rattle.adf_findings.specs.Survey.UnreadTells.{bad_boot, bad_root}
use Rattle.adf_findings.proofs.start.start.Goals as goal

pub returns-in-Err-clause-unread : goal.returns-in-Err-clause-unread
returns-in-Err-clause-unread c = bad_boot c.in-Err.ensures.fails c.in-Err.ensures.bad

pub returns-in-Err-judge_root-clause-unread : goal.returns-in-Err-judge_root-clause-unread
returns-in-Err-judge_root-clause-unread c =
    bad_root c.in-Ok.ensures.reported (rw c.sized-image.ensures at c.in-Err-judge_root.ensures.skipped)
