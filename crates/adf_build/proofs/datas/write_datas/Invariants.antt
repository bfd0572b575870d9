use Rattle.std.proofs.Common.{◌≡◌, ◌-◌, ◌*◌, drop, map}
use Rattle.std.specs.List.{range_with_len}
use Rattle.adf_blocks.specs.Sizes.{chunk}
use Rattle.adf_build.specs.{Laid.data_part, Laid.data_writes, Writes.with_blocks}
use Rattle.adf_build.proofs.datas.write_datas.Given as goal

abbrev pub invariant-loop-j : goal.invariant-loop-j
invariant-loop-j l = record {
  work : with_blocks l.image (map (data_part l.plan.blocks l.kind l.k l.bytes) (range_with_len l.j (l.count - l.j)))
      ≡ with_blocks l.initial.image (data_writes l.plan.blocks l.kind l.k l.bytes);
  left : l.left ≡ drop (chunk l.kind * l.j) l.bytes;
}
