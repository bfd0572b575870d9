-- Commands: what their words ask for, how that is answered, and how a run of one ends.
use Rattle.std.specs.Prelude.{◌≡◌, ◌⊎◌, ◌≤◌, ◌+◌, ℕ, Bool, true, false, List, [], codes, length, min, Option, IfSome}
use Rattle.std.specs.Io.KnownBytes.{Appends}
use Rattle.adf_runs.specs.Streams.{AppendsPart, IsTold, Seen, TakesAtMost}

-- an answer: its status, and what is written to output and errors
pub record Reply : Type 0 where
  pub status : ℕ
  pub output : List ℕ
  pub errors : List ℕ

-- a text on output, and nothing on errors
abbrev pub on_output : ℕ → List ℕ → Reply
on_output status text = record { status = status; output = text; errors = [] }

-- a text on errors, and nothing on output
abbrev pub on_errors : ℕ → List ℕ → Reply
on_errors status text = record { status = status; output = []; errors = text }

-- the answer where a path is not read
abbrev pub bad_path : Reply
bad_path = on_errors 2 (codes "bad path\n")

-- a command, by its words: those of a command line, or bytes in memory that tell some
pub record Command (Words : Type 0) : Type 1 where
  -- what words may ask for
  pub Request : Type 0
  -- the words ask for this
  pub asks : Words → Request → Type 0
  -- the words are refused
  pub refuses : Words → Type 0
  -- the words ask for the bytes under a path that is not read
  pub asks_bad_path : Words → Type 0
  -- the answers to a request and an input
  pub answer : Request → List ℕ → Reply → Type 0
  -- the most bytes of an input that belong to an answer
  pub limit : Request → ℕ
  -- what errors get where the words are refused
  pub usage : List ℕ

-- the words are refused, or their path is not read
abbrev pub IsUnanswered : {Words : Type 0} → Command Words → Words → Type 0
IsUnanswered c words = c.refuses words ⊎ c.asks_bad_path words

-- output got a front part of what one of these answers writes, and where output failed not all of it
abbrev pub WritesFront : (Reply → Type 0) → Bool → Option (List ℕ) → Option (List ℕ) → Type 0
WritesFront answers failed o o' = (reply : Reply) × answers reply × AppendsPart failed o o' reply.output

-- something is asked for, and output and errors got an answer to it at status n, or where errors failed a front part of its errors, but not all
abbrev pub GetsAnswer : {Words : Type 0} → Command Words → Words → List ℕ → ℕ → Seen → Seen → Type 0
GetsAnswer c words input n output errors =
    (r : c.Request) × c.asks words r × (reply : Reply) × (reply.status ≡ n) × c.answer r input reply
    × Appends output.before output.after reply.output × IsTold errors reply.errors

-- what output has got at status 3, where these tell whether the input failed and whether output did: nothing where the input failed; where output failed
-- a front part of an answer to what is asked for, but not all of it; else nothing or a front part
abbrev pub GetsFront : Bool → Bool → {Words : Type 0} → Command Words → Words → List ℕ → Seen → Type 0
GetsFront true _ c words input output = Appends output.before output.after []
GetsFront false true c words input output = (r : c.Request) × c.asks words r × WritesFront (c.answer r input) true output.before output.after
GetsFront false false c words input output = Appends output.before output.after []
    ⊎ ((r : c.Request) × c.asks words r × WritesFront (c.answer r input) false output.before output.after)

-- the line of status 3: whether the input failed, and whether output failed
abbrev pub failure_line : Bool → Bool → List ℕ
failure_line true _ = codes "read fault\n"
failure_line false true = codes "write fault\n"
failure_line false false = codes "no memory\n"

-- how a run with these words ends at status n
pub record RunEnds {Words : Type 0} (c : Command Words) (words : Words) (input : Seen) (n : ℕ) (output errors : Seen) : Type 0 where
  pub status : n ≤ 3
  -- where the words are taken, at a status other than 3 the answer is the defined one
  pub answer : ¬ c.refuses words → ¬ (n ≡ 3) → IfSome input.before (λ bytes. GetsAnswer c words bytes n output errors)
  pub answered : ¬ (n ≡ 2) → ¬ (n ≡ 3) → ¬ IsUnanswered c words
  -- at status 2 the words are refused or their path is not read, which errors tell
  pub usage : n ≡ 2 → IsUnanswered c words
  pub bad_path : n ≡ 2 → c.asks_bad_path words → IsTold errors (codes "bad path\n")
  pub refused : n ≡ 2 → c.refuses words → IsTold errors c.usage
  -- at status 3 errors tell what failed, and output has a front part of an answer: nothing where the input failed, and not all where output failed
  pub read_failed : input.failed ≡ true → n ≡ 3
  pub write_failed : output.failed ≡ true → n ≡ 3
  pub failure : n ≡ 3 → IsTold errors (failure_line input.failed output.failed)
  pub part : n ≡ 3 → IfSome input.before (λ bytes. GetsFront input.failed output.failed c words bytes output)

-- so many bytes are enough for an answer to what the words ask for
abbrev pub IsEnough : {Words : Type 0} → Command Words → Words → ℕ → Type 0
IsEnough c words most = (r : c.Request) → c.asks words r → c.limit r ≤ most

-- of an input that gave and gives these, at most one byte is consumed that belongs to no answer
abbrev pub TakesEnough : {Words : Type 0} → Command Words → Words → Option (List ℕ) → Option (List ℕ) → Type 0
TakesEnough c words old new = (most : ℕ) → IsEnough c words most → TakesAtMost (most + 1) old new

-- of an input in memory, so many bytes are consumed in a run that ends at status n, from the front
pub record IsConsumed {Words : Type 0} (c : Command Words) (words : Words) (input : List ℕ) (n consumed : ℕ) : Type 0 where
  pub within : consumed ≤ length input
  -- none where nothing is answered, and at most one byte that belongs to no answer
  pub none : IsUnanswered c words → consumed ≡ 0
  pub at_most : (most : ℕ) → IsEnough c words most → consumed ≤ most + 1
  -- where something is answered, all that belongs to an answer, and of a longer input one byte more
  pub all : ¬ (n ≡ 2) → ¬ (n ≡ 3) → (r : c.Request) × c.asks words r × (consumed ≡ min (length input) (c.limit r + 1))

-- what words ask for is not refused, and a path that is not read is answered so, whatever the input
pub record IsConsistent {Words : Type 0} (c : Command Words) : Type 0 where
  pub taken : (words : Words) (r : c.Request) → c.asks words r → ¬ c.refuses words
  pub unread : (words : Words) → c.asks_bad_path words → (r : c.Request) × c.asks words r × ((input : List ℕ) → c.answer r input bad_path)
