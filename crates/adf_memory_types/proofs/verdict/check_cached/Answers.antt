use Rattle.std.proofs.Common.{◌∙◌, ap, subst, sym}
use Rattle.adf_blocks.specs.declared.cause.Cause.TheVariants.{NoMemory}
use Rattle.adf_memory.specs.{Verdicts.refused, declared.verdict.Verdict.Verdict}
use Rattle.adf_memory.proofs.ToldCauses.{some_number}
use Rattle.adf_memory_types.specs.CachedCalls.{IsCheckedCached}
use Rattle.adf_memory_types.proofs.KeptImages.{memory_told}
use Rattle.adf_memory_types.proofs.verdict.check_cached.Goals as goal

pub returns-in-Ok : goal.returns-in-Ok
returns-in-Ok c = c.check_kept.ensures

pub returns-in-Err : goal.returns-in-Err
returns-in-Err c =
    let block = ap (λ (v : Verdict). v.block) c.refused.ensures in
    record {
      checked = subst (λ b. IsCheckedCached c.args.image.now b c.number.result) (sym block) (memory_told c.args.image.now c.number.result c.number.ensures);
      counts = λ zero. absurd (some_number NoMemory (sym c.number.ensures ∙ zero));
      refused = λ some. c.refused.ensures ∙ ap refused (sym block);
    }
