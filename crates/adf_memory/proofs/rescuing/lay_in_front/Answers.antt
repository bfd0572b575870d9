use Rattle.std.proofs.Common.{◌≡◌, ◌≤◌, ◌*◌, arith, length}
use Rattle.std.proofs.lemmas.Grind.{common_steps}
use Rattle.adf_memory.proofs.Filled.{in_front}
use Rattle.adf_memory.proofs.rescuing.lay_in_front.Goals as goal

pub returns-in-Ok-clause-volume : goal.returns-in-Ok-clause-volume
returns-in-Ok-clause-volume c =
    let wide : c.args.blocks * 512 ≤ length c.args.room.now = omega arith in
    let size : length c.lay_in.new.room ≡ c.args.blocks * 512 = grind (arith, common_steps, c.lay_in.auto.room) in (
      c.lay_in.new.room,
      c.in-Ok.ensures.volume,
      in_front c.lay_in.new.room c.args.room.now (c.args.blocks * 512) size wide,
    )
