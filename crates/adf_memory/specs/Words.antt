-- The words of a command line in memory.
use Rattle.std.specs.Prelude.{◌≡◌, ◌==◌, ℕ, List, [], ◌∷◌, ◌++◌, Bool, All}
use Rattle.std.specs.{List.slice_split, Str.IsUtf8}
use Rattle.adf_runs.specs.{Commands.Command, Commands.IsConsumed, Commands.IsUnanswered, Commands.RunEnds, Streams.at_hand}
use Rattle.adf_memory.specs.{Rooms.StandIn, Rooms.room_seen, declared.memory.Moved.Moved}

-- whether a byte is zero
abbrev pub is_zero : ℕ → Bool
is_zero b = b == 0

-- the parts of memory between zero bytes
abbrev pub between_zeros : List ℕ → List (List ℕ)
between_zeros bytes = slice_split is_zero bytes

-- the bytes are these words, each ended by a zero byte, and each word is a text
pub record AreWords (bytes : List ℕ) (words : List (List ℕ)) : Type 0 where
  pub ended : between_zeros bytes ≡ words ++ [] ∷ []
  pub texts : All IsUtf8 words

-- it holds of the words that the bytes are, where they are some
abbrev pub ForWords : List ℕ → (List (List ℕ) → Type 0) → Type 0
ForWords bytes holds = (words : List (List ℕ)) → AreWords bytes words → holds words

-- the bytes are no words
abbrev pub AreNoWords : List ℕ → Type 0
AreNoWords bytes = (words : List (List ℕ)) → ¬ AreWords bytes words

-- the same command where the bytes in memory are its words: bytes that are none are refused
abbrev pub in_memory : Command (List (List ℕ)) → Command (List ℕ)
in_memory c = record {
  Request = c.Request;
  asks = λ bytes r. (words : List (List ℕ)) × AreWords bytes words × c.asks words r;
  refuses = λ bytes. ForWords bytes c.refuses;
  asks_bad_path = λ bytes. (words : List (List ℕ)) × AreWords bytes words × c.asks_bad_path words;
  answer = c.answer;
  limit = c.limit;
  usage = c.usage;
}

-- adf_run and adf_survey_run: a run of the command in memory ends, with counts of what was read and written. Output and errors are filled from the front, and
-- where words are refused, the output is unchanged
pub record RunsInMemory (c : Command (List (List ℕ))) (words input old new told : List ℕ) (moved : Moved) (n : ℕ) : Type 0 where
  pub ends : RunEnds (in_memory c) words (at_hand input) n (room_seen moved.output moved.output_full new) (room_seen moved.errors moved.errors_full told)
  pub untouched : IsUnanswered (in_memory c) words → (moved.output ≡ 0) × (new ≡ old)
  pub consumed : IsConsumed (in_memory c) words input n moved.input
  pub output : StandIn moved.output moved.output_full new
  pub errors : StandIn moved.errors moved.errors_full told
