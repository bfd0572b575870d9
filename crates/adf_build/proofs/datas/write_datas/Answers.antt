use Rattle.std.proofs.Common.{arith}
use Rattle.adf_build.proofs.WriteSteps.{data_step, left_step}
use Rattle.adf_build.proofs.datas.write_datas.Goals as goal

pub loop-j-preserved : goal.loop-j-preserved
loop-j-preserved c = record {
  work = data_step c.write_one.new.image c.loop-j.image _ c.args.plan.blocks c.args.kind c.args.k c.loop-j.j c.data_count-datas.result
      c.ext_count.result _ c.nth_free-in-loop-j.result c.nth_free.result c.nth_free_or_none.result c.min.result c.args.bytes.now c.loop-j.left.now
      c.split_at.result.0.now (omega arith) c.data_count-datas.ensures.exact c.ext_count.ensures (omega arith) c.loop-j.invariant.left
      (omega (arith, c.chunk_len.ensures.exact)) c.split_at.ensures.front c.nth_free-in-loop-j.ensures c.nth_free.ensures c.nth_free_or_none.ensures
      c.loop-j.invariant.work c.write_one.ensures;
  left = left_step c.args.kind c.loop-j.j c.min.result c.args.bytes.now c.loop-j.left.now c.split_at.result.1.now c.loop-j.invariant.left
      (omega (arith, c.chunk_len.ensures.exact)) c.split_at.ensures.back;
}
