use Rattle.std.specs.List.{flat_map, range_with_len}
use Rattle.std.proofs.Common.{◌≡◌, ◌+◌}
use Rattle.adf_findings.specs.Survey.{OnSurvey}
use Rattle.adf_caches.specs.Blocks.{HaveChains, blocks_of_cache}
use Rattle.adf_caches.proofs.all_blocks.cache_blocks.Given as goal

abbrev pub invariant-loop-i : goal.invariant-loop-i
invariant-loop-i l = OnSurvey l.survey.image (λ w _. HaveChains l.survey.image w
    → l.list.items ≡ flat_map (blocks_of_cache l.survey.image w) (range_with_len 0 (l.i + 1)))
