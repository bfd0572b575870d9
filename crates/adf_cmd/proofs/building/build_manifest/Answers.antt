use Rattle.adf_runs.proofs.Endings.{silently}
use Rattle.adf_cmd.proofs.AnswerLaws.{build_ends, fault_ends}
use Rattle.adf_cmd.proofs.building.build_manifest.Goals as goal

pub returns-in-Ok : goal.returns-in-Ok
returns-in-Ok g c = build_ends c.args.lines _ _ _ c.in-Ok.ensures.manifest c.build_tree.ensures

pub returns-in-Err : goal.returns-in-Err
returns-in-Err g c = silently c.requires
    (fault_ends c.refuse_manifest.result c.args.lines c.args.bytes.now c.in-Err.fault c.in-Err.ensures.fault c.refuse_manifest.ensures)
