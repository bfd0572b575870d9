use Rattle.std.proofs.Common.{◌*◌, min}
use Rattle.adf_check.specs.{Reading.IsInDatas, Store.store_value}
use Rattle.adf_check.proofs.datas.read_datas.Given as goal

abbrev pub invariant-loop-m : goal.invariant-loop-m
invariant-loop-m l = record {
  state : IsInDatas l.image (store_value l.store) l.file l.table (min (72 * l.m) l.count);
}
