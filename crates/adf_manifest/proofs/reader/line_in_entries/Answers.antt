use Rattle.adf_manifest.proofs.reader.line_in_entries.Goals as goal

pub returns-in-Run-clause-lines : goal.returns-in-Run-clause-lines
returns-in-Run-clause-lines c = rw c.in-Run.is c.take_run.ensures.lines

pub returns-in-Entry-clause-lines : goal.returns-in-Entry-clause-lines
returns-in-Entry-clause-lines c = rw c.in-Entry.is c.next_entry.ensures.lines

pub returns-in-Note-clause-lines : goal.returns-in-Note-clause-lines
returns-in-Note-clause-lines c = rw c.in-Note.is c.take_note.ensures.lines
