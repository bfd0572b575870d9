use Rattle.std.proofs.Common.{◌∷◌, [], arith, rules, subst, sym}
use Rattle.adf_shelf_cmd.proofs.Progress.{Progress, broken, max_status, started, stepped, stopped}
use Rattle.adf_shelf_cmd.specs.{Lines.IsLineOf, Lines.IsReportOf, Lines.Reports, Names.AreGiven}
use Rattle.adf_shelf_cmd.proofs.batch.write_verdicts.Goals as goal

pub loop-name-init : goal.loop-name-init
loop-name-init g c = record {
  works = c.requires.writes;
  status = (omega arith, omega arith);
  progress = started (IsLineOf c.args.checks.json (IsReportOf c.args.checks.types
      (g.F.Files.bytes_of c.args.files.now) (g.F.Files.may_fail c.args.files.now))) _ _;
}

pub loop-name-preserved : goal.loop-name-preserved
loop-name-preserved g c =
    let may : Reports = IsLineOf c.args.checks.json (IsReportOf c.args.checks.types (g.F.Files.bytes_of c.args.files.now)
    (g.F.Files.may_fail c.args.files.now)) in
    record {
      works = search rules;
      status = max_status c.loop-name.status c.in-Ok.one c.max-status.result c.max-status.ensures c.loop-name.invariant.status c.in-Ok.ensures.status;
      progress =
          let given : AreGiven (g.N.Names.left c.loop-name.names) (g.N.Names.left c.next.new.self) (c.next.new.name.items ∷ []) = search rules in
          let after = stepped may _ _ _ c.loop-name.status c.in-Ok.one _ _ _ c.next.new.name.items
          c.loop-name.invariant.progress given (rw c.deref.ensures.value at c.in-Ok.ensures.ok) in
          subst (λ s. Progress may (g.N.Names.left c.args.names.now) (g.N.Names.left c.next.new.self) s
          (g.W.Sink.held c.args.output.now) (g.W.Sink.held c.write_line.new.output)) (sym c.max-status.ensures) after;
    }

pub returns-in-Err-clause-part : goal.returns-in-Err-clause-part
returns-in-Err-clause-part g c =
    let may : Reports = IsLineOf c.args.checks.json (IsReportOf c.args.checks.types (g.F.Files.bytes_of c.args.files.now)
    (g.F.Files.may_fail c.args.files.now)) in
    let given : AreGiven (g.N.Names.left c.loop-name.names) (g.N.Names.left c.next.new.self) (c.next.new.name.items ∷ []) = search rules in
    broken may _ _ _ c.loop-name.status _ _ _ _ c.next.new.name.items c.loop-name.invariant.progress given
    (rw c.deref.ensures.value at c.in-Err.ensures.err)

pub returns-in-Err-Device-clause-part : goal.returns-in-Err-Device-clause-part
returns-in-Err-Device-clause-part g c = stopped _ _ _ c.loop-name.status _ _ _ c.loop-name.invariant.works c.loop-name.invariant.progress

pub returns-in-Err-NoMemory-clause-part : goal.returns-in-Err-NoMemory-clause-part
returns-in-Err-NoMemory-clause-part g c = stopped _ _ _ c.loop-name.status _ _ _ c.loop-name.invariant.works c.loop-name.invariant.progress
