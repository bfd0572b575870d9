use Rattle.std.proofs.Common.{◌≡◌, false}
use Rattle.adf_shelf_cmd.specs.Lines.{IsLineOf, IsReportOf, IsRunStatus}
use Rattle.adf_shelf_cmd.proofs.Progress.{Progress}
use Rattle.adf_shelf_cmd.proofs.batch.write_verdicts.Given as goal

abbrev pub invariant-loop-name : goal.invariant-loop-name
invariant-loop-name g l = record {
  works : g.W.Sink.has_failed l.output ≡ false;
  status : IsRunStatus l.status;
  progress : Progress (IsLineOf l.checks.json (IsReportOf l.checks.types (g.F.Files.bytes_of l.files) (g.F.Files.may_fail l.files)))
      (g.N.Names.left l.fn.names) (g.N.Names.left l.names) l.status (g.W.Sink.held l.fn.output) (g.W.Sink.held l.output);
}

abbrev pub decreases-loop-name : goal.decreases-loop-name
decreases-loop-name g l = g.N.Names.most l.names
