use Rattle.std.proofs.Common.{◌∙◌, arith}
use Rattle.adf_memory.proofs.Rooms.{put_keeps}
use Rattle.adf_memory.proofs.found_roles.put_roles.Goals as goal

pub loop-b-preserved : goal.loop-b-preserved
loop-b-preserved c = record {
  behind = λ k far. put_keeps c.loop-b.roles c.loop-b.b c.number.result k far ∙ c.loop-b.invariant.behind k (omega arith);
}
