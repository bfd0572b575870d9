use Rattle.std.proofs.Common.{◌≡◌, sym, ◌∙◌, arith, rules}
use Rattle.std.proofs.lemmas.List.{take_all}
use Rattle.adf_build.proofs.Bits.{words_step}
use Rattle.adf_build.proofs.pages.words_of_page.Goals as goal

pub loop-w-preserved : goal.loop-w-preserved
loop-w-preserved c = record {
  whole = search rules;
  work = words_step c.loop-w.words c.args.plan.blocks c.args.total c.args.j c.loop-w.w c.page_word.result (omega (arith, c.loop-w.invariant.whole))
      c.loop-w.invariant.work c.page_word.ensures;
}

pub returns : goal.returns
returns c =
    let e : c.loop-w.w ≡ 127 = omega arith in
    sym (take_all 127 c.loop-w.words (omega (arith, c.loop-w.invariant.whole))) ∙ (rw e at c.loop-w.invariant.work)
