use Rattle.std.proofs.Common.{◌≡◌, ◌++◌, ◌∙◌, [], List, Option, ap, arith, sym}
use Rattle.std.proofs.{Common.append_assoc, lemmas.Grind.common_steps, lemmas.List.append-nil, lemmas.List.Elements.filter_map-append}
use Rattle.adf_tree.specs.Additions.{Addition}
use Rattle.adf_edits.specs.Index.{standing}
use Rattle.adf_edits.proofs.indexed.items_of.Goals as goal

pub loop-entry-preserved : goal.loop-entry-preserved
loop-entry-preserved c = grind (arith, common_steps, filter_map-append, append_assoc)

pub returns : goal.returns
returns c =
    let none : c.loop-entry.entry-iterator.rest.items ≡ [] = grind (arith, common_steps) in
    let all : c.loop-entry.yielded ≡ c.args.entries.items =
    sym (append-nil c.loop-entry.yielded) ∙ (ap (λ (ps : List (Option Addition)). c.loop-entry.yielded ++ ps) (sym none) ∙ c.loop-entry.invariant.all) in
    c.loop-entry.invariant.items ∙ ap standing all
