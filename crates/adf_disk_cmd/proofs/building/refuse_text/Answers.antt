use Rattle.std.proofs.Common.{◌≢◌, [], refl, rules}
use Rattle.adf_plans.specs.declared.plan_text.TextKind.TheVariants.{NoMemory}
use Rattle.adf_runs.proofs.PendingText.{appends_nil}
use Rattle.adf_disk_cmd.proofs.building.refuse_text.Goals as goal

pub returns-in-Ok : goal.returns-in-Ok
returns-in-Ok c =
    let other : c.args.fault.kind ≢ NoMemory = search rules in record {
      ends = λ text none held. ([], (none other, refl, refl), appends_nil held);
      blames = record { read = refl; written = refl };
    }
