use Rattle.std.proofs.Common.{ap, ◌∙◌, ◌-◌, arith, length, length-append, length-drop, min}
use Rattle.std.proofs.lemmas.Grind.{common_steps}
use Rattle.adf_memory.specs.Areas.{bytes_from}
use Rattle.adf_memory.proofs.{Filled.filled_so, TableBytes.all_put, TableBytes.behind_more, TableBytes.bytes_behind, TableBytes.bytes_more}
use Rattle.adf_memory.proofs.reading.put_bytes.Goals as goal

pub loop-put-preserved : goal.loop-put-preserved
loop-put-preserved c =
    let all = bytes_from c.args.image.now c.args.kind c.args.datas.now c.args.from in
    let part = c.in-Some.part.now in
    let more = c.in-Some.ensures.part in
    let room = c.put_part-put.new.room in
    let m = min (length part) (length c.loop-put.room - c.loop-put.put) in
    let here = bytes_behind c.args.image.now c.args.kind c.args.datas.now c.args.from c.loop-put.put c.loop-put.invariant.enough ∙ more.1 in
    record {
      within = omega (arith, c.put_part-put.ensures.count, c.put_part-put.auto.room);
      enough = omega (arith, c.put_part-put.ensures.count, ap length here, length-drop c.loop-put.put all, length-append part more.0);
      bytes = bytes_more all c.loop-put.room room part more.0 c.loop-put.put m c.put_part-put.result
          c.put_part-put.ensures.front c.put_part-put.ensures.count c.loop-put.invariant.bytes here (omega arith);
      behind = c.put_part-put.ensures.behind ∙ behind_more c.loop-put.room c.args.room.now c.loop-put.put c.put_part-put.result
          (omega (arith, c.put_part-put.ensures.count)) c.loop-put.invariant.behind;
    }

pub returns-in_default-clause-count : goal.returns-in_default-clause-count
returns-in_default-clause-count c =
    let all = bytes_from c.args.image.now c.args.kind c.args.datas.now c.args.from in
    let none = bytes_behind c.args.image.now c.args.kind c.args.datas.now c.args.from c.loop-put.put c.loop-put.invariant.enough
    ∙ c.in_default.ensures.none in
    omega (arith, all_put all c.loop-put.put c.loop-put.invariant.enough none)

pub returns-in_default-clause-bytes : goal.returns-in_default-clause-bytes
returns-in_default-clause-bytes c = grind (arith, common_steps, filled_so, returns-in_default-clause-count)

pub returns-clause-bytes : goal.returns-clause-bytes
returns-clause-bytes c = grind (arith, common_steps, filled_so)
