use Rattle.std.proofs.Common.{◌≡◌, ◌-◌, map}
use Rattle.std.specs.List.{range_with_len}
use Rattle.adf_blocks.specs.Sizes.{pages_needed}
use Rattle.adf_build.specs.{Laid.page_part, Laid.page_writes, Writes.with_blocks}
use Rattle.adf_build.proofs.pages.write_pages.Given as goal

abbrev pub invariant-loop-j : goal.invariant-loop-j
invariant-loop-j l =
    with_blocks l.image (map (page_part l.plan.blocks l.total) (range_with_len l.j (pages_needed l.plan.blocks - l.j)))
    ≡ with_blocks l.initial.image (page_writes l.plan.blocks l.total)
