use Rattle.std.proofs.Common.{arith, ◌∙◌, ap, ◌==◌}
use Rattle.std.proofs.lemmas.Grind.{common_steps}
use Rattle.std.specs.String.{string_bytes}
use Rattle.adf_names.specs.PathTexts.{with_name}
use Rattle.adf_names.proofs.PathParts.{path_text_step}
use Rattle.adf_names.proofs.path_texts.joined.Goals as goal

pub loop-i-preserved : goal.loop-i-preserved
loop-i-preserved c =
    path_text_step c.args.path.now c.loop-i.i c.index-path-i.result (string_bytes c.push_name.new.text) (omega arith) c.index-path-i.is
    (c.in_ok-push_name.ensures ∙ ap (λ t. with_name t c.index-path-i.result (c.loop-i.i == 0)) c.loop-i.invariant)

pub returns-clause-ok : goal.returns-clause-ok
returns-clause-ok c = grind (arith, common_steps)
