use Rattle.std.proofs.Common.{◌∙◌, ap, arith}
use Rattle.std.proofs.lemmas.Grind.{common_steps}
use Rattle.adf_drafts.specs.ChildMap.{number_in, Numbers}
use Rattle.adf_drafts.proofs.ChildMaps.{no_more}
use Rattle.adf_drafts.proofs.child_map.ChildMap.make_buckets.Goals as goal

pub loop-alloc-preserved : goal.loop-alloc-preserved
loop-alloc-preserved c = grind (arith, common_steps, no_more)

pub returns-in_err-push-clause-same : goal.returns-in_err-push-clause-same
returns-in_err-push-clause-same c = λ p x. ap (λ (n : Numbers). number_in n p x) c.in_err-push.ensures.items ∙ c.loop-alloc.invariant p x
