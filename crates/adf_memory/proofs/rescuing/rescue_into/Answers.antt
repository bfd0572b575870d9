use Rattle.std.proofs.Common.{ap, arith, length}
use Rattle.std.proofs.lemmas.Result.{IfOk-weaker}
use Rattle.adf_memory.proofs.PreparedRescues.{length_sized, room_explained, volume_given}
use Rattle.adf_memory.proofs.rescuing.rescue_into.Goals as goal

pub put_rescue-requires : goal.put_rescue-requires
put_rescue-requires c = omega (arith, ap length c.in-Ok.ensures.boot, length_sized 1024 c.args.input.image.now)

pub returns-in-Ok-clause-volume : goal.returns-in-Ok-clause-volume
returns-in-Ok-clause-volume c =
    IfOk-weaker c.put_rescue.result _ _ (λ told has. record {
      volume = has.volume;
      is_given = volume_given c.args.input.types c.args.input.image.now c.in-Ok.ready has.volume c.in-Ok.ensures has.is_given;
      size = has.size;
      room = has.room;
      rows = has.rows;
      paths = has.paths;
    }) c.put_rescue.ensures.volume

pub returns-in-Ok-clause-fault : goal.returns-in-Ok-clause-fault
returns-in-Ok-clause-fault c =
    room_explained c.args.input.types c.args.input.image.now c.in-Ok.ready (length c.args.room.now) c.put_rescue.result c.in-Ok.ensures
    c.put_rescue.ensures.fault
