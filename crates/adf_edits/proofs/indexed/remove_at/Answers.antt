use Rattle.std.proofs.Common.{◌≡◌, ◌∙◌, List, Option, Some, ap, arith, sym}
use Rattle.std.proofs.lemmas.Grind.{common_steps}
use Rattle.adf_tree.specs.Additions.{Addition}
use Rattle.adf_edits.specs.Index.{standing}
use Rattle.adf_edits.proofs.IndexEdits.{remove_step}
use Rattle.adf_edits.proofs.indexed.remove_at.Goals as goal

pub forget-requires : goal.forget-requires
forget-requires c =
    (remove_step c.args.places.now c.take.new.self c.args.path.now c.args.place c.requires.found c.take.ensures.rest c.requires.empty
    c.take.ensures.entries).1

pub returns-clause-step : goal.returns-clause-step
returns-clause-step c =
    let same : c.forget.new.self.entries.items ≡ c.take.new.self.entries.items = grind (arith, common_steps) in
    (remove_step c.args.places.now c.take.new.self c.args.path.now c.args.place c.requires.found c.take.ensures.rest c.requires.empty
    c.take.ensures.entries).0
    ∙ ap (λ (qs : List (Option Addition)). Some (standing qs)) (sym same)
