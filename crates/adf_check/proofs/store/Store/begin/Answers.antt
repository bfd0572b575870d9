use Rattle.std.proofs.{Common.set, Common.arith, lemmas.Grind.common_steps}
use Rattle.adf_check.proofs.{RootRead.begun_with_root, RootRead.root_is_free, ClaimSteps.on_ok}
use Rattle.adf_check.proofs.store.Store.begin.Goals as goal

pub returns : goal.returns
returns c = grind (arith, common_steps, root_is_free, set, on_ok, begun_with_root)

pub claim-requires-clause-below : goal.claim-requires-clause-below
claim-requires-clause-below c = grind (arith, common_steps)

pub unwrap-requires : goal.unwrap-requires
unwrap-requires c = grind (arith, common_steps)
