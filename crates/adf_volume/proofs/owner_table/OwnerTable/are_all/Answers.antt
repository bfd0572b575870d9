use Rattle.std.proofs.Common.{arith}
use Rattle.adf_volume.proofs.owner_table.OwnerTable.are_all.Goals as goal

pub returns : goal.returns
returns c = (
  (λ t b lo hi. c.loop-b.invariant.all.0 t b lo (omega arith)),
  (λ h. c.loop-b.invariant.all.1 (λ b lo hi. let within = c.loop-b.invariant.inside in h b lo (omega arith))),
)
