use Rattle.std.proofs.{Common.arith, lemmas.Grind.common_steps}
use Rattle.adf_check.proofs.lookup.find.Goals as goal

pub returns-in-None : goal.returns-in-None
returns-in-None c = λ letters t l fits.
    grind (arith, common_steps, c.loop-name.invariant.found letters t l fits, c.child.ensures.found letters t l fits)

pub loop-name-preserved : goal.loop-name-preserved
loop-name-preserved c = record {
  found = λ letters t l fits.
      grind (arith, common_steps, c.loop-name.invariant.found letters t l fits, c.child.ensures.found letters t l fits);
  node = grind (arith, common_steps);
}

pub returns : goal.returns
returns c = λ letters t l fits. grind (arith, common_steps, c.loop-name.invariant.found letters t l fits)
