use Rattle.std.proofs.Common.{◌∙◌, ap, List, ℕ, [], ◌∷◌, ◌++◌, not}
use Rattle.std.proofs.lemmas.List.Elements.{All-push}
use Rattle.adf_names.specs.PathTexts.{between_slashes, IsName}
use Rattle.adf_names.proofs.PathParts.{last_name, one_part, some_name, last_part, part_before}
use Rattle.adf_names.proofs.path_texts.has_names.Goals as goal

pub loop-after-preserved : goal.loop-after-preserved
loop-after-preserved c =
    let so_far = c.loop-after.invariant in
    let part : List ℕ = c.cut.result.0.now in
    let here = some_name c.read_name.result part
    (c.is_none.ensures ∙ ap not c.if-is_none.false) c.read_name.ensures.some c.read_name.ensures.name in (
      so_far.0 ++ here.0 ∷ [],
      one_part c.args.text.now part c.loop-after.rest.now here.0 so_far.0 (between_slashes c.in-Some.text.now) so_far.1
          (part_before c.cut.result.1 part (between_slashes c.loop-after.rest.now) c.in-Some.text c.in-Some.is c.cut.ensures.more) here.1,
      All-push IsName so_far.0 here.0 so_far.2 here.2,
    )

pub returns-in-None-clause-yes : goal.returns-in-None-clause-yes
returns-in-None-clause-yes c =
    let so_far = c.loop-after.invariant in
    let part : List ℕ = c.cut.result.0.now in
    let here = some_name c.read_name.result part (c.is_none.ensures ∙ ap not c.if-is_none.false) c.read_name.ensures.some c.read_name.ensures.name in
    let cut = last_part c.cut.result.1 part (between_slashes c.loop-after.rest.now) c.in-None.is c.cut.ensures.last in
    (so_far.0 ++ here.0 ∷ [], last_name c.args.text.now part c.loop-after.rest.now here.0 so_far.0 so_far.1 cut here.1 so_far.2 here.2)
