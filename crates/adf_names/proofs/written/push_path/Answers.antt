use Rattle.std.proofs.Common.{arith, refl, ◌==◌, append_assoc, take}
use Rattle.adf_names.specs.PathTexts.{path_text, with_name}
use Rattle.adf_names.proofs.PathParts.{path_text_step}
use Rattle.adf_names.proofs.PathSteps.{name_put}
use Rattle.adf_names.proofs.written.push_path.Goals as goal

pub loop-i-preserved : goal.loop-i-preserved
loop-i-preserved c =
    let i = c.loop-i.i in
    let name = c.index-path-i.result in
    let front = path_text (take i c.args.path.now) in
    rw (
      c.in_ok-push_name.ensures,
      c.bytes.ensures.bytes,
      c.loop-i.invariant,
      ← path_text_step c.args.path.now i name (with_name front name (i == 0)) (omega arith) c.index-path-i.is refl,
      name_put front name (i == 0),
      append_assoc,
    )
