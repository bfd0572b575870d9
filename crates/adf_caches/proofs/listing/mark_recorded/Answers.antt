use Rattle.std.proofs.Common.{◌∙◌, ap, sym}
use Rattle.adf_caches.specs.Caches.{entry_recorded}
use Rattle.adf_caches.proofs.RecordSteps.{fit_step, keeps_both, keeps_marked, named_step, recorded_in}
use Rattle.adf_caches.specs.Records.{record_at}
use Rattle.adf_caches.proofs.listing.mark_recorded.Goals as goal

pub loop-k-preserved : goal.loop-k-preserved
loop-k-preserved c =
    let image = c.args.survey.now.image in
    let d = c.args.d in
    let before = c.loop-k.invariant in
    let bytes = c.args.cache.now in
    let e = c.word-k-end.result in
    let marks = c.loop-k.marks.items in
    let more = c.mark_one.new.marks.items in
    let marked = c.mark_one.ensures.marked c.if-not-mark_one.false in
    record {
      inside = c.in-Some.ensures.inside;
      fit = fit_step bytes c.loop-k._k e c.loop-k.at c.in-Some.next c.loop-k-test.true c.in-Some.ensures.next before.fit;
      marked = λ w fs survey.
          let names = c.entry_recorded.ensures w fs survey ∙ ap (entry_recorded image w d) c.in-Some.ensures.record in
          named_step bytes c.loop-k._k e c.loop-k.at c.in-Some.next c.loop-k-test.true c.in-Some.ensures.next (entry_recorded image w d) marks more
          c.entry_recorded.result _ names marked (before.marked w fs survey);
      others = λ w fs survey.
          let names = c.entry_recorded.ensures w fs survey ∙ ap (entry_recorded image w d) c.in-Some.ensures.record in
          keeps_both w d _ marks more (before.others w fs survey)
          (keeps_marked w d c.entry_recorded.result marks more marked
          (λ n h. (recorded_in image w d (record_at bytes c.loop-k.at) n (sym names ∙ h)).1));
    }
