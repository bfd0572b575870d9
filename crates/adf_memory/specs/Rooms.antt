-- Rooms that are filled from the front.
use Rattle.std.specs.Prelude.{◌≡◌, ◌≤◌, ℕ, All, Bool, true, List, [], ◌++◌, Some, length, take, drop}
use Rattle.adf_runs.specs.Streams.{Seen}

-- a room with these at its front, as many as there is room for, and behind them as it was
abbrev pub filled : {X : Type 0} → List X → List X → List X
filled xs room = take (length room) xs ++ drop (length xs) room

-- the room begins with n rows of which this holds, as many as there is room for, and is otherwise as it was
abbrev pub BeginsWith : {X : Type 0} → (X → Type 0) → (n : ℕ) → (old new : List X) → Type 0
BeginsWith {X} holds n old new = (rows : List X) × All holds rows × (n ≡ length rows) × (new ≡ filled rows old)

-- the same of any rows
abbrev pub HasRows : {X : Type 0} → (n : ℕ) → (old new : List X) → Type 0
HasRows n old new = BeginsWith (λ _. Unit {0}) n old new

-- a room of the caller over a run: it held nothing, and so many bytes stand at its front
abbrev pub room_seen : ℕ → Bool → List ℕ → Seen
room_seen n had_too_little room = record { before = Some []; after = Some (take n room); failed = had_too_little }

-- so many bytes stand at the front of a room, and fill it where it had too little
pub record StandIn (n : ℕ) (had_too_little : Bool) (room : List ℕ) : Type 0 where
  pub within : n ≤ length room
  pub filled : had_too_little ≡ true → n ≡ length room
