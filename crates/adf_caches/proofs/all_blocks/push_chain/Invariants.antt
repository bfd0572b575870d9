use Rattle.std.specs.Prelude.{Some}
use Rattle.std.proofs.Common.{◌≡◌, ◌++◌, ◌-◌, ℕ, List}
use Rattle.adf_blocks.specs.Sizes.{blocks}
use Rattle.adf_findings.specs.Survey.{OnSurvey}
use Rattle.adf_caches.specs.Caches.{is_cache_block, next_cache}
use Rattle.adf_caches.specs.Paths.{way_by}
use Rattle.adf_caches.proofs.BlockSteps.{Lists}
use Rattle.adf_caches.proofs.all_blocks.push_chain.Given as goal

abbrev pub invariant-loop-k : goal.invariant-loop-k
invariant-loop-k l = OnSurvey l.survey.image (λ w _. (d : ℕ) (bs : List ℕ)
    → way_by (is_cache_block l.survey.image w d) (next_cache l.survey.image) (blocks l.survey.image) l.fn.first ≡ Some bs
    → Lists (is_cache_block l.survey.image w d) (next_cache l.survey.image) l.list.items (blocks l.survey.image - l._k) l.b (l.initial.list.items ++ bs))
