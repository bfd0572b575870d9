use Rattle.std.specs.Prelude.{None}
use Rattle.std.proofs.Common.{◌≡◌, arith}
use Rattle.std.proofs.lemmas.Grind.{common_steps}
use Rattle.adf_cache_laying.proofs.TreeSteps.{tree_kept}
use Rattle.adf_cache_laying.proofs.trees.keeps_tree.Goals as goal

pub returns : goal.returns
returns c = λ image held yes.
    let right : c.args.uncached.now.fault ≡ None = grind (arith, common_steps) in
    tree_kept image c.args.uncached.now held c.args.volume.now c.in-Some.tree (rw c.in-Some.is at c.in_ok-tree.ensures.fits)
    (rw c.deref.ensures.value at (c.in_ok-has.ensures yes)) right
