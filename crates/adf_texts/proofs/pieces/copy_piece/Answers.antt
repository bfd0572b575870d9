use Rattle.std.proofs.Common.{[], refl}
use Rattle.adf_base.proofs.Results.{on_err}
use Rattle.adf_runs.proofs.{KnownBytes.appends_two, PendingText.part_behind, PendingText.part_of_more, PendingText.pending_cleared, PendingText.pending_flushed}
use Rattle.adf_texts.proofs.pieces.copy_piece.Goals as goal

pub returns-in_err-write_all-clause-err : goal.returns-in_err-write_all-clause-err
returns-in_err-write_all-clause-err g c = on_err c.from_residual.result (part_of_more _ _ _ c.args.piece.now c.in_err-write_all.ensures.err)

pub returns-then-piece-room-2-clause-ok : goal.returns-then-piece-room-2-clause-ok
returns-then-piece-room-2-clause-ok g c =
    pending_flushed _ _ _ c.args.piece.now _ c.put_piece-then-piece-room-2.ensures.text c.in_ok-write_all.ensures.ok

pub returns-in_err-write_all-2-clause-err : goal.returns-in_err-write_all-2-clause-err
returns-in_err-write_all-2-clause-err g c =
    on_err c.from_residual-in_err-write_all-2.result (part_behind _ _ _ _ _ c.in_ok-write_all.ensures.ok c.in_err-write_all-2.ensures.err)

pub returns-clause-ok : goal.returns-clause-ok
returns-clause-ok g c =
    pending_cleared _ _ _ [] refl (appends_two _ _ _ _ _ _ refl c.in_ok-write_all.ensures.ok c.in_ok-write_all-2.ensures.ok)
