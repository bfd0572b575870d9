use Rattle.std.proofs.Common.{◌≡◌, ◌-◌, ◌≤◌}
use Rattle.adf_base.specs.Words.{word}
use Rattle.adf_caches.specs.Records.{records_fit}
use Rattle.adf_caches.specs.declared.{blocks.TheConstants.RECORD_COUNT, records.TheConstants.RECORD_START}
use Rattle.adf_caches.proofs.blocks.records_fit.Given as goal

abbrev pub invariant-loop-k : goal.invariant-loop-k
invariant-loop-k l = (l.at ≤ 512)
    × (records_fit l.cache (l._k-end - l._k) l.at ≡ records_fit l.cache (word l.cache RECORD_COUNT) RECORD_START)
