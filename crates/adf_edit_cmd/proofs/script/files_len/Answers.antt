use Rattle.std.proofs.Common.{rules, ◌≡◌, ◌≤◌, arith, get_or, length}
use Rattle.std.proofs.lemmas.Grind.{common_steps}
use Rattle.adf_edit_cmd.proofs.EditSteps.{len_next, len_over}
use Rattle.adf_edit_cmd.proofs.script.files_len.Goals as goal

pub loop-edit-preserved : goal.loop-edit-preserved
loop-edit-preserved c =
    let is : get_or c.args.edits.now c.loop-edit.edit-index c.edit-item.result ≡ c.edit-item.result = grind (arith, common_steps) in
    let from = len_next c.args.edits.now c.loop-edit.edit-index c.edit-item.result (omega arith) is in
    record {
      small = omega (arith, c.loop-edit.invariant.small, c.bytes_taken-len.ensures.few);
      total = omega (arith, c.loop-edit.invariant.total, from, c.bytes_taken-len.ensures.exact);
    }

pub returns : goal.returns
returns c =
    let past : length c.args.edits.now ≤ c.loop-edit.edit-index = search rules in
    omega (arith, c.loop-edit.invariant.total, len_over c.args.edits.now c.loop-edit.edit-index past)
