use Rattle.std.proofs.Common.{◌≡◌, ◌+◌, arith, length, rules}
use Rattle.adf_base.proofs.Results.{on_err}
use Rattle.adf_cmd.proofs.EntryLines.{entries_front, entries_more, entries_none}
use Rattle.adf_runs.proofs.PendingText.{pending_begun, pending_end, pending_fails, pending_more}
use Rattle.adf_cmd.proofs.volume_listing.write_entries.Goals as goal

pub loop-i-init : goal.loop-i-init
loop-i-init g c = record {
  works = c.requires.works;
  so_far = λ date t l dates fits. pending_begun _ _ _ (entries_none date t.entries c.args.text.items);
}

pub loop-i-preserved : goal.loop-i-preserved
loop-i-preserved g c = record {
  works = search rules;
  so_far = λ date t l dates fits.
      let more = pending_more _ _ _ _ _ _ (entries_more date t.entries c.args.text.items c.loop-i.i)
      (c.loop-i.invariant.so_far date t l dates fits) in
      c.in_ok-list_entry.ensures.ok date t l dates fits _ _ more;
}

pub returns-in_err-list_entry-clause-err : goal.returns-in_err-list_entry-clause-err
returns-in_err-list_entry-clause-err g c = λ date t l dates fits.
    let more = pending_more _ _ _ _ _ _ (entries_more date t.entries c.args.text.items c.loop-i.i)
    (c.loop-i.invariant.so_far date t l dates fits) in
    let front = entries_front date t c.args.text.items (c.loop-i.i + 1) (omega (arith, c.len-i-end.ensures.count _ t l fits.1)) in
    on_err c.from_residual.result (pending_fails _ _ _ _ _ front.0 _ front.1 more (c.in_err-list_entry.ensures.err date t l dates fits))

pub returns-clause-ok : goal.returns-clause-ok
returns-clause-ok g c = λ date t l dates fits.
    let last : c.loop-i.i ≡ length t.entries = omega (arith, c.len-i-end.ensures.count _ t l fits.1) in
    pending_end _ _ _ _ _ (rw last at (c.loop-i.invariant.so_far date t l dates fits)) (rw c.deref.ensures.value at c.in_ok-write_all.ensures.ok)

pub returns-in_err-write_all-clause-err : goal.returns-in_err-write_all-clause-err
returns-in_err-write_all-clause-err g c = λ date t l dates fits.
    let front = entries_front date t c.args.text.items c.loop-i.i (omega (arith, c.len-i-end.ensures.count _ t l fits.1)) in
    on_err c.from_residual-in_err-write_all.result (pending_fails _ _ _ _ _ front.0 _ front.1 (c.loop-i.invariant.so_far date t l dates fits)
    (rw c.deref.ensures.value at c.in_err-write_all.ensures.err))
