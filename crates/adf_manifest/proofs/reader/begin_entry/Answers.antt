use Rattle.std.proofs.Common.{◌<◌, length}
use Rattle.adf_tree.proofs.AddRoom.{no_room_by}
use Rattle.adf_manifest.proofs.StateLaws.{path_filled}
use Rattle.adf_manifest.proofs.reader.begin_entry.Goals as goal

pub returns-in-Err-EmptyPath-clause-fault : goal.returns-in-Err-EmptyPath-clause-fault
returns-in-Err-EmptyPath-clause-fault c =
    let some : 0 < length c.as_slice.result.now =
    rw c.as_slice.ensures.value (path_filled c.args.line.path.now c.in-Ok.path.items c.requires.form.2 c.in-Ok.ensures.ok) in
    absurd (rw c.in-Err-EmptyPath.field-0-is at (no_room_by c.args.draft.now.tree.letters c.args.draft.now.tree.entries c.as_slice.result.now _ some
    c.in-Err-EmptyPath.ensures.fault))
