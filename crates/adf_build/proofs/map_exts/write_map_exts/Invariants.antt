use Rattle.std.proofs.Common.{◌≡◌, ◌-◌, map}
use Rattle.std.specs.List.{range_with_len}
use Rattle.adf_build.specs.{Laid.map_ext_part, Laid.map_ext_writes, Writes.with_blocks}
use Rattle.adf_build.proofs.map_exts.write_map_exts.Given as goal

abbrev pub invariant-loop-j : goal.invariant-loop-j
invariant-loop-j l =
    with_blocks l.image (map (map_ext_part l.plan.blocks) (range_with_len l.j (l.count - l.j)))
    ≡ with_blocks l.initial.image (map_ext_writes l.plan.blocks)
