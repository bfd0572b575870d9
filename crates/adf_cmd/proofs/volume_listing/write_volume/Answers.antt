use Rattle.adf_cmd.proofs.volume_listing.write_volume.Goals as goal

pub returns-clause-ok : goal.returns-clause-ok
returns-clause-ok g c = λ date t l dates fits.
    rw (c.in_ok-push_opening.ensures date t l dates fits, c.new-text.ensures.items) at (c.write_entries.ensures.ok date t l dates fits)

pub returns-clause-err : goal.returns-clause-err
returns-clause-err g c = λ date t l dates fits.
    rw (c.in_ok-push_opening.ensures date t l dates fits, c.new-text.ensures.items) at (c.write_entries.ensures.err date t l dates fits)
