use Rattle.std.proofs.Common.{◌∙◌, ap}
use Rattle.adf_tree.specs.Tree.{Tree}
use Rattle.adf_manifest.proofs.StateLaws.{closed_tree, entry_step, manifest_letters, reading_letters}
use Rattle.adf_manifest.proofs.reader.next_entry.Goals as goal

pub returns-in-Err-clause-fault : goal.returns-in-Err-clause-fault
returns-in-Err-clause-fault c = λ m e g.
    rw (closed_tree c.args.reading.now m e _ g (c.in_ok-close.ensures.tree e.last g.last g.room)) at c.in-Err.ensures.fault

pub returns-in-Ok-clause-lines : goal.returns-in-Ok-clause-lines
returns-in-Ok-clause-lines c = λ m e w g.
    let line = c.args.line in
    let f = c.in-Ok.ensures.fields in
    let is = closed_tree c.args.reading.now m e c.close.new.draft.tree g (c.in_ok-close.ensures.tree e.last g.last g.room) in
    let room = c.in-Ok.ensures.room in
    entry_step m c.args.reading.now.blocks c.close.new.draft c.in-Ok.last line.sort line.stamp line.protect line.path.now room.0 w g.blocks is
    c.requires.form room.1 room.2 f.0 f.1 f.2 f.3 f.4

pub close-requires-clause-letters : goal.close-requires-clause-letters
close-requires-clause-letters c = reading_letters c.args.reading.now c.requires.told.0 c.requires.told.1 c.requires.told.2

pub begin_entry-requires-clause-letters : goal.begin_entry-requires-clause-letters
begin_entry-requires-clause-letters c =
    let m = c.requires.told.0 in
    let e = c.requires.told.1 in
    let g = c.requires.told.2 in
    ap (λ (t : Tree). t.letters) (closed_tree c.args.reading.now m e _ g (c.in_ok-close.ensures.tree e.last g.last g.room)) ∙ manifest_letters m
