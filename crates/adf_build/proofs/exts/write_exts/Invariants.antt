use Rattle.std.proofs.Common.{◌≡◌, ◌-◌, map}
use Rattle.std.specs.List.{range_with_len}
use Rattle.adf_build.specs.{Laid.ext_part, Laid.ext_writes, Writes.with_blocks}
use Rattle.adf_build.proofs.exts.write_exts.Given as goal

abbrev pub invariant-loop-j : goal.invariant-loop-j
invariant-loop-j l =
    with_blocks l.image (map (ext_part l.plan.blocks l.k l.datas) (range_with_len l.j (l.count - l.j)))
    ≡ with_blocks l.initial.image (ext_writes l.plan.blocks l.k l.datas)
