use Rattle.std.proofs.Common.{arith}
use Rattle.adf_build.proofs.WriteSteps.{file_step}
use Rattle.adf_build.proofs.heads.write_file.Goals as goal

pub returns : goal.returns
returns c slots =
    file_step c.write_datas.new.image c.args.image.now c.write_header.new.image c.write_exts.new.image c.args.bytes.now slots _ c.args.plan.blocks
    c.args.kind
    c.args.spot c.args.entry.now _ c.data_blocks-datas.result c.ext_count-exts.result c.min-short.result c.nth_free_or_none.result c.requires.body
    c.data_blocks-datas.ensures c.ext_count-exts.ensures (omega arith) (omega arith) c.table_of.ensures c.nth_free_or_none.ensures
    c.write_header.ensures c.write_exts.ensures c.write_datas.ensures
