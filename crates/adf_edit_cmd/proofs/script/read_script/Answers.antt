use Rattle.std.proofs.Common.{◌<◌, length, map, subst, sym}
use Rattle.adf_edits.specs.Edits.{edit_value}
use Rattle.adf_edit_cmd.proofs.Scripts.{Continues, next_read, script_read}
use Rattle.adf_edit_cmd.proofs.script.read_script.Goals as goal

pub loop-settings-smaller : goal.loop-settings-smaller
loop-settings-smaller c =
    let next = next_read c.args.text.now c.loop-settings.left.now c.cut_line.result.0.now c.loop-settings.edits.items c.read_next.new.edits.items
    c.in_ok-read_next.field-0 c.loop-settings.invariant.lines c.cut_line.ensures.line c.in_ok-read_next.ensures in
    subst (λ l. length l < length c.loop-settings.left.now) (sym c.cut_line.ensures.rest) next.taken

pub loop-settings-preserved : goal.loop-settings-preserved
loop-settings-preserved c =
    let next = next_read c.args.text.now c.loop-settings.left.now c.cut_line.result.0.now c.loop-settings.edits.items c.read_next.new.edits.items
    c.in_ok-read_next.field-0 c.loop-settings.invariant.lines c.cut_line.ensures.line c.in_ok-read_next.ensures in
    record {
      lines = subst (λ l. Continues c.args.text.now (map edit_value c.read_next.new.edits.items) l) (sym c.cut_line.ensures.rest) next.lines;
      few = next.few;
    }

pub returns-in-Some-clause-script : goal.returns-in-Some-clause-script
returns-in-Some-clause-script c =
    script_read c.args.text.now c.loop-settings.left.now c.in-Some.rest.now c.loop-settings.edits.items c.in-Some.settings
    c.loop-settings.invariant.lines c.loop-settings.invariant.few c.in-Some.ensures
