use Rattle.std.proofs.Common.{refl}
use Rattle.adf_manifest.specs.Reader.{bare}
use Rattle.adf_manifest.proofs.StateLaws.{bare_tree, entry_step}
use Rattle.adf_manifest.proofs.reader.first_entry.Goals as goal

pub returns-clause-lines : goal.returns-clause-lines
returns-clause-lines c = λ w.
    let line = c.args.line in
    let f = c.in_ok-last.ensures.fields in
    let room = c.in_ok-last.ensures.room in
    entry_step (bare c.args.preamble) c.args.preamble.blocks c.tree_of-draft.result c.in_ok-last.last line.sort line.stamp
    line.protect line.path.now room.0
    w refl
    (bare_tree c.args.preamble c.tree_of-draft.result.tree c.tree_of-draft.ensures)
    c.requires.form room.1 room.2 f.0 f.1 f.2 f.3 f.4
