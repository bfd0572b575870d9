-- Runs of blocks that were not read. Letters: marks whether each block was not; rs runs; b a block, k a number of blocks.
use Rattle.std.specs.Prelude.{ℕ, ◌+◌, ◌-◌, ◌==◌, ◌&&◌, nat_lt, Bool, cond, List, [], ◌∷◌, ◌++◌, length, slice_index_or, slice_set}
use Rattle.std.proofs.Common.{zero, suc}
use Rattle.adf_unread.specs.{Dropped.unread_at, declared.runs.UnreadRun.UnreadRun}

-- the run of one block
abbrev pub run_at : ℕ → UnreadRun
run_at b = record { first = b; last = b }

-- the last of runs
abbrev pub last_run : List UnreadRun → UnreadRun
last_run rs = slice_index_or rs (length rs - 1) (run_at 0)

-- block b is the one behind the last run
abbrev pub is_behind_run : List UnreadRun → ℕ → Bool
is_behind_run rs b = nat_lt 0 (length rs) && ((last_run rs).last + 1 == b)

-- the runs with block b: in the last one, if it is the one behind that, or else as a run of its own
abbrev pub joined_runs : List UnreadRun → ℕ → List UnreadRun
joined_runs rs b =
    cond (is_behind_run rs b) (slice_set rs (length rs - 1) (record { first = (last_run rs).first; last = b })) (rs ++ run_at b ∷ [])

-- the runs of those of the first k blocks that have a mark
unfoldable pub runs_among : List Bool → ℕ → List UnreadRun
runs_among marks zero = []
runs_among marks (suc k) = cond (unread_at marks k) (joined_runs (runs_among marks k) k) (runs_among marks k)
