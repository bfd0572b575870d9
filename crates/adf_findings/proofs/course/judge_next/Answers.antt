use Rattle.std.proofs.Common.{arith}
use Rattle.adf_findings.proofs.{CourseSteps.role_is, Outcomes.clean_outcome, Outcomes.reported_outcome, Outcomes.skipped_outcome}
use Rattle.adf_findings.proofs.course.judge_next.Goals as goal

pub returns-in-Clean : goal.returns-in-Clean
returns-in-Clean c = λ s h n.
    let x = c.args.reference.now in
    let part = c.numbered-part.result in
    let ok = c.in_ok-judge_named.ensures in
    let is = role_is x.due.part part h.stands (omega (arith, c.len.ensures, c.args.progress.now.found.nodes.ok)) c.numbered-part.ensures in
    clean_outcome x h.course h.stands h.told n part is c.in_ok-judge_named.field-0 (ok.judged s h n is) c.judge_named.ensures.rest ok.names c.in-Clean.is

pub returns-in_ok-note-in-Reported : goal.returns-in_ok-note-in-Reported
returns-in_ok-note-in-Reported c = λ s h n.
    let x = c.args.reference.now in
    let part = c.numbered-part.result in
    let ok = c.in_ok-judge_named.ensures in
    let is = role_is x.due.part part h.stands (omega (arith, c.len.ensures, c.args.progress.now.found.nodes.ok)) c.numbered-part.ensures in
    reported_outcome x h.course h.stands h.told n part is c.in_ok-judge_named.field-0 (ok.judged s h n is) c.judge_named.ensures.rest ok.names
    c.in-Reported.at c.in-Reported.cause c.of_part.result c.of_part.ensures c.note.new.findings c.in_ok-note-in-Reported.ensures c.in-Reported.is

pub returns-in_ok-skip-in-Skipped : goal.returns-in_ok-skip-in-Skipped
returns-in_ok-skip-in-Skipped c = λ s h n.
    let x = c.args.reference.now in
    let part = c.numbered-part.result in
    let ok = c.in_ok-judge_named.ensures in
    let is = role_is x.due.part part h.stands (omega (arith, c.len.ensures, c.args.progress.now.found.nodes.ok)) c.numbered-part.ensures in
    skipped_outcome x h.course h.stands h.told n part is c.in_ok-judge_named.field-0 (ok.judged s h n is) c.judge_named.ensures.rest ok.names
    c.in-Skipped.at c.in-Skipped.cause c.of_part-in-Skipped.result c.of_part-in-Skipped.ensures c.note-in-Skipped.new.findings
    c.in_ok-note-in-Skipped.ensures c.skip.new.self c.in-Skipped.is c.in_ok-skip-in-Skipped.ensures
