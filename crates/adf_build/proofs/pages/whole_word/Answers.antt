use Rattle.std.proofs.Common.{◌+◌, refl, sym, ◌∙◌, arith}
use Rattle.adf_build.proofs.WholeWords.{none_free, all_free}
use Rattle.std.proofs.lemmas.Grind.{common_steps}
use Rattle.adf_build.proofs.pages.whole_word.Goals as goal
use Rattle.adf_build.proofs.pages.whole_word.Goals.{else-first-root-via-then-first-root+else-root-last, else-first-root-via-else-first-root}

pub returns-then-is_used_block : goal.returns-then-is_used_block
returns-then-is_used_block c =
    none_free c.args.plan.blocks c.args.total c.args.q (2 + c.args.q) (2 + c.args.q + 31) refl (omega arith)
    (λ l. elim c.else-first-root.branch [
      | else-first-root-via-then-first-root+else-root-last w ↦ omega arith
      | else-first-root-via-else-first-root w ↦ omega arith
    ]) (sym c.is_used_block.ensures ∙ c.if-is_used_block.true)

pub returns-then-plan-first : goal.returns-then-plan-first
returns-then-plan-first c = grind (arith, common_steps)

pub returns-then-not-is_used_block : goal.returns-then-not-is_used_block
returns-then-not-is_used_block c = grind (arith, all_free)
