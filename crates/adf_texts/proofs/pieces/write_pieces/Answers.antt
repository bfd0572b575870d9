use Rattle.std.proofs.Common.{◌≡◌, ◌++◌, ℕ, List, refl, rules, append_assoc}
use Rattle.std.specs.List.{concat}
use Rattle.std.proofs.lemmas.Result.{on_err_weaker}
use Rattle.adf_base.proofs.Results.{on_err}
use Rattle.adf_runs.proofs.PendingText.{pending_fails, pending_more}
use Rattle.adf_texts.proofs.pieces.write_pieces.Goals as goal

-- one piece more is done
piece_done : (done piece rest rest' whole : List ℕ) → rest ≡ piece ++ rest' → whole ≡ done ++ rest → whole ≡ (done ++ piece) ++ rest'
piece_done done piece rest rest' whole e f = rw (f, e, append_assoc)

pub loop-piece-preserved : goal.loop-piece-preserved
loop-piece-preserved g c =
    let so_far = c.loop-piece.invariant.so_far in
    let step : concat c.loop-piece.piece-iterator ≡ c.in-Some.piece.now ++ concat c.next.new.self = search rules in
    record {
      works = search rules;
      within = c.in_ok-waiting.ensures.within;
      so_far = (
        so_far.0 ++ c.in-Some.piece.now,
        c.in_ok-waiting.ensures.ok _ _ (pending_more _ _ _ _ _ _ refl so_far.1),
        piece_done _ _ _ _ _ step so_far.2,
      );
    }

pub returns-in_err-waiting-clause-err : goal.returns-in_err-waiting-clause-err
returns-in_err-waiting-clause-err g c =
    let so_far = c.loop-piece.invariant.so_far in
    let step : concat c.loop-piece.piece-iterator ≡ c.in-Some.piece.now ++ concat c.next.new.self = search rules in
    let whole = piece_done _ _ _ _ _ step so_far.2 in
    on_err c.from_residual.result (pending_fails _ _ _ _ _ _ _ whole (pending_more _ _ _ _ _ _ refl so_far.1) c.in_err-waiting.ensures.err)

pub returns-clause-err : goal.returns-clause-err
returns-clause-err g c =
    let so_far = c.loop-piece.invariant.so_far in
    on_err_weaker c.write_all.result (pending_fails _ _ _ _ _ _ _ so_far.2 so_far.1) c.write_all.ensures.err
