use Rattle.std.proofs.Common.{rules, subst, sym}
use Rattle.adf_shelf_cmd.specs.Lines.{TellsReport, IsReport, report_status, report_text}
use Rattle.adf_shelf_cmd.proofs.batch.write_line.Goals as goal

pub returns-clause-err : goal.returns-clause-err
returns-clause-err g c =
    let report = c.check_file-report.result in
    let line : TellsReport c.args.checks.json c.args.name.now (report_text report) c.deref.result.now = search rules in
    let front = rw c.in-Err.ensures.failed at c.in-Err.ensures.err in
    rw c.in-Err.ensures.failed (report_status report, c.deref.result.now, (report_text report, c.check_file-report.ensures, line), front)

pub returns-in-Ok-clause-ok : goal.returns-in-Ok-clause-ok
returns-in-Ok-clause-ok g c =
    let report = c.check_file-report.result in
    let known = g.F.Files.bytes_of c.args.files.now c.args.name.now in
    let may_fail = g.F.Files.may_fail c.args.files.now c.args.name.now in
    let line : TellsReport c.args.checks.json c.args.name.now (report_text report) c.deref.result.now = search rules in
    let is_report = subst (λ s. IsReport c.args.checks.types known may_fail s (report_text report)) (sym c.status.ensures.value)
    c.check_file-report.ensures in
    (c.deref.result.now, (report_text report, is_report, line), c.in-Ok.ensures.ok)
