use Rattle.std.proofs.Common.{refl, arith}
use Rattle.adf_volume.proofs.Sizes.{size_high}
use Rattle.adf_build.specs.Plan.{exts_needed}
use Rattle.adf_build.proofs.WriteSteps.{ext_step}
use Rattle.adf_build.proofs.exts.write_exts.Goals as goal

pub loop-j-preserved : goal.loop-j-preserved
loop-j-preserved c =
    ext_step c.write_ext.new.image c.loop-j.image _ _ c.args.plan.blocks c.args.k c.loop-j.j c.args.datas c.ext_count-count.result
    c.nth_free-own.result c.nth_free.result _ c.min-short.result c.nth_free_or_none.result (omega arith) c.ext_count-count.ensures refl
    (omega (arith, c.saturating_sub.ensures)) c.table_of.ensures c.nth_free-own.ensures c.nth_free.ensures c.nth_free_or_none.ensures
    c.loop-j.invariant c.write_ext.ensures.exact

pub table_of-requires-clause-room : goal.table_of-requires-clause-room
unfolding exts_needed
table_of-requires-clause-room c =
    omega (arith, size_high c.args.plan.blocks c.args.plan.allowed, c.requires.room, c.ext_count-count.ensures, c.loop-j-test.true)
