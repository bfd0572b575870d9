use Rattle.std.proofs.Common.{◌≡◌, ◌∷◌, [], arith, append_assoc, map}
use Rattle.std.proofs.{lemmas.Grind.common_steps, lemmas.List.length_push}
use Rattle.adf_edits.specs.Edits.{edit_value}
use Rattle.adf_edit_cmd.proofs.EditSteps.{edit_next, edits_over}
use Rattle.adf_edit_cmd.proofs.editing.edit_all.Goals as goal

pub loop-edit-preserved : goal.loop-edit-preserved
loop-edit-preserved c =
    let front : c.loop-edit.edit-iterator.rest.items ≡ c.in-Some.edit ∷ c.next.new.self.rest.items = grind (arith, common_steps) in
    record {
      rest = edit_next (map edit_value c.args.edits.items) c.args.given.now c.args.outline c.loop-edit.edit-iterator.rest.items
          c.next.new.self.rest.items c.in-Some.edit c.loop-edit.given.now c.behind_file-rest.result.now c.loop-edit.outline c.in_ok-outline.outline
          front c.in_ok-outline.ensures c.behind_file-rest.ensures c.loop-edit.invariant.rest;
      all = grind (arith, common_steps, append_assoc);
      count = grind (arith, common_steps, length_push);
    }

pub returns : goal.returns
returns c =
    let none : c.loop-edit.edit-iterator.rest.items ≡ [] = grind (arith, common_steps) in
    edits_over (map edit_value c.args.edits.items) c.args.given.now c.args.outline c.loop-edit.edit-iterator.rest.items c.loop-edit.given.now
    c.loop-edit.outline none c.loop-edit.invariant.rest
