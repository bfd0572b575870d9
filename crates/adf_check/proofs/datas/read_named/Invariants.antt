use Rattle.adf_check.specs.{Reading.IsInDatas, Store.store_value}
use Rattle.adf_check.proofs.datas.read_named.Given as goal

abbrev pub invariant-loop-k : goal.invariant-loop-k
invariant-loop-k l = record {
  state : IsInDatas l.image (store_value l.store) l.datas.file l.datas.table.now l.k;
}
