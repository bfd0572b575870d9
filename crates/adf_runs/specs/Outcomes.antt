-- How the work of a command went.
use Rattle.std.specs.Prelude.{◌≡◌, ℕ, Bool, true, false, List, [], codes, ◌⊎◌, Option, IfSome, string_bytes}
use Rattle.std.specs.Io.KnownBytes.{Appends}
use Rattle.adf_runs.specs.{Commands.Reply, Commands.WritesFront, Streams.Seen, declared.outcome.Outcome.Outcome, declared.outcome.Outcome.TheVariants.NoMemory}
use Rattle.adf_runs.specs.declared.streams.StreamFault.{StreamFault, TheVariants.Device, TheVariants.NoMemory as StreamNoMemory}
use Rattle.adf_runs.specs.declared.outcome.Outcome.TheVariants.{Done, FaultWritten, Refused, LeftOut, NoSuchPath, NotAFile, Damaged, ReadFault, WriteFault}

-- the exit status of an outcome
abbrev pub status_of : Outcome → ℕ
status_of Done = 0
status_of FaultWritten = 1
status_of (Refused line) = 1
status_of (LeftOut lines) = 1
status_of NoSuchPath = 1
status_of NotAFile = 1
status_of Damaged = 1
status_of ReadFault = 3
status_of WriteFault = 3
status_of NoMemory = 3

-- what is said on errors
abbrev pub outcome_text : Outcome → List ℕ
outcome_text Done = []
outcome_text FaultWritten = []
outcome_text (Refused line) = string_bytes line
outcome_text (LeftOut lines) = lines.items
outcome_text NoSuchPath = codes "no such path\n"
outcome_text NotAFile = codes "not a file\n"
outcome_text Damaged = codes "damaged\n"
outcome_text ReadFault = codes "read fault\n"
outcome_text WriteFault = codes "write fault\n"
outcome_text NoMemory = codes "no memory\n"

-- whether an outcome is that input failed
abbrev pub is_read_fault : Outcome → Bool
is_read_fault ReadFault = true
is_read_fault _ = false

-- whether an outcome is that output failed
abbrev pub is_write_fault : Outcome → Bool
is_write_fault WriteFault = true
is_write_fault _ = false

-- the input did not come: its device failed, or memory was refused
abbrev pub LacksInput : Outcome → Type 0
LacksInput ReadFault = Unit {0}
LacksInput NoMemory = Unit {0}
LacksInput _ = ⊥

-- the outcome of a fault in reading the input
abbrev pub after_reading : StreamFault → Outcome
after_reading Device = ReadFault
after_reading StreamNoMemory = NoMemory

-- the outcome of a fault in writing the answer
abbrev pub after_writing : StreamFault → Outcome
after_writing Device = WriteFault
after_writing StreamNoMemory = NoMemory

-- output got one of these answers, at the status of the outcome and with its line on errors
abbrev pub WritesOne : (Reply → Type 0) → Outcome → Option (List ℕ) → Option (List ℕ) → Type 0
WritesOne answers w o o' =
    (output : List ℕ) × answers (record { status = status_of w; output = output; errors = outcome_text w }) × Appends o o' output

-- what an outcome says of what was added to output, where these are the answers
abbrev pub EndsBy : (Reply → Type 0) → Outcome → Option (List ℕ) → Option (List ℕ) → Type 0
EndsBy answers ReadFault o o' = Appends o o' []
EndsBy answers WriteFault o o' = WritesFront answers true o o'
EndsBy answers NoMemory o o' = Appends o o' [] ⊎ WritesFront answers false o o'
EndsBy answers w o o' = WritesOne answers w o o'

-- an outcome is a fault of input or output just where that has failed
pub record Blames (outcome : Outcome) (input_failed output_failed : Bool) : Type 0 where
  pub read : input_failed ≡ is_read_fault outcome
  pub written : output_failed ≡ is_write_fault outcome

-- a work does one of these answers to output, on bytes at hand
pub record Does (answers : Reply → Type 0) (outcome : Outcome) (output : Seen) : Type 0 where
  pub ends : EndsBy answers outcome output.before output.after
  pub read : is_read_fault outcome ≡ false
  pub written : output.failed ≡ is_write_fault outcome

-- a work does one of the answers to an input, where that is known
pub record DoesOn (answers : List ℕ → Reply → Type 0) (outcome : Outcome) (input output : Seen) : Type 0 where
  pub ends : IfSome input.before (λ bytes. EndsBy (answers bytes) outcome output.before output.after)
  pub read : input.failed ≡ is_read_fault outcome
  pub written : output.failed ≡ is_write_fault outcome

-- a work does one of these answers, which writes nothing
pub record DoesSilently (answers : Reply → Type 0) (outcome : Outcome) : Type 0 where
  pub ends : (held : Option (List ℕ)) → EndsBy answers outcome held held
  pub read : is_read_fault outcome ≡ false
  pub written : is_write_fault outcome ≡ false
