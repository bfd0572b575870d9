use Rattle.std.proofs.Common.{◌≡◌, ◌+◌, ◌*◌, take, length, map}
use Rattle.std.specs.List.{range_with_len}
use Rattle.adf_blocks.specs.declared.layout.TheConstants.{PAGE_BITS}
use Rattle.adf_build.specs.Bits.{bits_from, is_free_bit}
use Rattle.adf_build.proofs.pages.words_of_page.Given as goal

abbrev pub invariant-loop-w : goal.invariant-loop-w
invariant-loop-w l = record {
  whole : length l.words ≡ 127;
  work : take l.w l.words ≡ map (λ w. bits_from (is_free_bit l.plan.blocks l.total) (PAGE_BITS * l.j + 32 * w) 32) (range_with_len 0 l.w);
}
