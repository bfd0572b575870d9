use Rattle.std.proofs.Common.{◌∙◌, ap, refl, subst, sym}
use Rattle.adf_memory.specs.{Verdicts.refused, declared.verdict.Verdict.Verdict}
use Rattle.adf_memory.proofs.ToldCauses.{some_number}
use Rattle.adf_memory_types.specs.CachedCalls.{IsCheckedCached, accepted_cached}
use Rattle.adf_memory_types.proofs.KeptImages.{accepted_told, counts_told, first_at, refused_told}
use Rattle.adf_memory_types.proofs.verdict.check_kept.Goals as goal

pub returns-in-Ok : goal.returns-in-Ok
returns-in-Ok c =
    let image = c.args.image.now in
    let u = c.args.uncached.now in
    let (t, l, fits) = c.in-Ok.ensures.fits in
    record {
      checked = accepted_told image c.accepted_cached.result.block t l fits;
      counts = λ zero t l fits. c.accepted_cached.ensures
          ∙ ap accepted_cached
          (counts_told image u c.requires c.in-Ok.volume c.counts_with_caches.result c.in-Ok.ensures.image c.counts_with_caches.ensures t l fits);
      refused = λ some. absurd (some refl);
    }

pub returns-in-Err : goal.returns-in-Err
returns-in-Err c =
    let image = c.args.image.now in
    let f = c.in-Err.fault in
    let told = c.told_block.ensures in
    let block = ap (λ (v : Verdict). v.block) c.refused.ensures in
    let checked = refused_told image f.cause c.told_block.result c.number.result c.number.ensures
    (first_at image f.cause f.block c.told_block.result c.in-Err.ensures.first told.fault) told.memory in
    record {
      checked = subst (λ b. IsCheckedCached image b c.number.result) (sym block) checked;
      counts = λ zero. absurd (some_number f.cause (sym c.number.ensures ∙ zero));
      refused = λ some. c.refused.ensures ∙ ap refused (sym block);
    }
