use Rattle.std.proofs.Common.{ap, is_some, refl}
use Rattle.adf_keep.proofs.FileForms.{at_none, some_of}
use Rattle.adf_keep.proofs.entries.read_dir.Goals as goal

pub returns-in-Some : goal.returns-in-Some
returns-in-Some c = λ bs are. (some_of c.in_ok-why.field-0 c.in-Some.why _ c.in-Some.is (c.in_ok-why.ensures.fault bs are), c.release.ensures _ bs (c.in_ok-why.ensures.claims _ bs are))

pub returns : goal.returns
returns c = λ bs are. (
  refl,
  refl,
  at_none c.in_ok-why.field-0 _ (ap is_some c.in_default.is) c.in_ok-why.ensures.named,
  c.in_ok-why.ensures.claims _ bs are,
)
