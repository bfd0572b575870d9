use Rattle.adf_manifest.proofs.reader.next_state.Goals as goal

pub returns-in-Entries-clause-lines : goal.returns-in-Entries-clause-lines
returns-in-Entries-clause-lines c = λ m w t.
    let g = rw c.in-Entries.is at t in
    rw c.in-Some.ensures.some (c.line_in_entries.ensures.lines m g.0 w g.1)
