use Rattle.adf_edit_cmd.specs.Edited.{disk_of}
use Rattle.adf_edit_cmd.proofs.editing.by_script.Goals as goal

pub returns : goal.returns
returns c = (disk_of c.in_ok-old.old, c.in_ok-old.ensures.old, c.in_ok-new.ensures)
