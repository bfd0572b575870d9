use Rattle.std.proofs.Common.{◌≡◌, ◌≤◌, ◌++◌, ℕ, List, false, length, take}
use Rattle.std.specs.List.{concat}
use Rattle.adf_runs.specs.Streams.{Pending}
use Rattle.adf_texts.proofs.pieces.write_pieces.Given as goal

abbrev pub invariant-loop-piece : goal.invariant-loop-piece
invariant-loop-piece g l = record {
  works : g.W.Sink.has_failed l.output ≡ false;
  within : l.waiting ≤ length l.room;
  so_far : (done : List ℕ) × Pending (g.W.Sink.held l.fn.output) (g.W.Sink.held l.output) (take l.waiting l.room) done
      × (concat l.fn.pieces ≡ done ++ concat l.piece-iterator);
}
