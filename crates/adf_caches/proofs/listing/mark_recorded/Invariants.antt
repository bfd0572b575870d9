use Rattle.std.proofs.Common.{◌≡◌, ◌-◌, ◌≤◌, map, true}
use Rattle.adf_findings.specs.Survey.{OnSurvey}
use Rattle.adf_caches.specs.Caches.{entry_recorded, records_in}
use Rattle.adf_caches.specs.Marking.{KeepsOthers, mark_each}
use Rattle.adf_caches.specs.Records.{records_fit, records_from}
use Rattle.adf_caches.proofs.listing.mark_recorded.Given as goal

abbrev pub invariant-loop-k : goal.invariant-loop-k
invariant-loop-k l = record {
  inside : l.at ≤ 512;
  fit : records_fit l.cache (l._k-end - l._k) l.at ≡ true;
  marked : OnSurvey l.survey.image (λ w _. mark_each (map (entry_recorded l.survey.image w l.fn.d) (records_from l.cache (l._k-end - l._k) l.at))
      l.marks.items ≡ mark_each (map (entry_recorded l.survey.image w l.fn.d) (records_in l.cache)) l.initial.marks.items);
  others : OnSurvey l.survey.image (λ w _. KeepsOthers w l.fn.d l.initial.marks.items l.marks.items);
}
