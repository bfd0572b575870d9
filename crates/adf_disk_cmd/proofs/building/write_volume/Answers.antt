use Rattle.std.proofs.Common.{◌*◌, inr, take}
use Rattle.adf_base.proofs.Results.{on_err}
use Rattle.adf_disk_cmd.proofs.BuiltDisks.{given_planned}
use Rattle.adf_disk_cmd.proofs.building.write_volume.Goals as goal

pub returns-in_err-write_all-clause-part : goal.returns-in_err-write_all-clause-part
returns-in_err-write_all-clause-part g c =
    on_err c.from_residual.result
    (inr (
      take (c.args.blocks * 512) c.args.given.now,
      given_planned c.args.blocks c.args.partition.now c.args.given.now c.if-partition.true (c.requires.enough c.if-partition.true),
      c.in_err-write_all.ensures.err,
    ))
