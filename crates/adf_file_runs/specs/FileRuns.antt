-- Runs whose words may name a file, which is then the input.
-- Letters: c a command, file_of the file that its words name; n the status.
use Rattle.std.specs.Prelude.{◌≡◌, ◌⊎◌, ℕ, Bool, true, List, [], Option, None, Some}
use Rattle.std.specs.Io.KnownBytes.{Appends}
use Rattle.adf_runs.specs.{Commands.Command, Commands.RunEnds, Streams.Seen, Streams.still}
use Rattle.adf_file_runs.specs.{declared.files.Unopened.Unopened}

-- the command where there are no files: words that name one are refused
abbrev pub without_files : {Words : Type 0} → Command Words → (Words → Option (List ℕ)) → Command Words
without_files c file_of = record c {
  asks = λ words r. (file_of words ≡ None) × c.asks words r;
  refuses = λ words. c.refuses words ⊎ (¬ (file_of words ≡ None));
  asks_bad_path = λ words. (file_of words ≡ None) × c.asks_bad_path words;
}

-- what is known of files by their names: the bytes of each, whether it may fail, and what may come of opening it
pub record KnownFiles : Type 1 where
  pub bytes_of : List ℕ → Option (List ℕ)
  pub may_fail : List ℕ → Bool
  pub may_open : List ℕ → Option Unopened → Type 0

-- what is known of these files, by what tells it of any
abbrev pub known_files : {F : Type 0} → (F → List ℕ → Option (List ℕ)) → (F → List ℕ → Bool) → (F → List ℕ → Option Unopened → Type 0) → F → KnownFiles
known_files bytes_of may_fail may_open files =
    record { bytes_of = bytes_of files; may_fail = may_fail files; may_open = may_open files }

-- the file of a name was not opened, for a reason that there may be: output is as it was
abbrev pub IsUnopened : KnownFiles → List ℕ → ℕ → Seen → Type 0
IsUnopened files name n output = (n ≡ 3) × (files.may_fail name ≡ true) × Appends output.before output.after []
    × ((why : Unopened) × files.may_open name (Some why))

-- how a run with these words ends, over files and an input
pub record RunEndsOnFiles {Words : Type 0} (c : Command Words) (file_of : Words → Option (List ℕ)) (words : Words) (files : KnownFiles)
    (input : Seen) (n : ℕ) (output errors : Seen) : Type 0 where
  -- where the words name no file, as a run over the input
  pub on_input : file_of words ≡ None → RunEnds c words input n output errors
  -- where they name one, as a run over its bytes, or it was not opened
  pub on_file : (name : List ℕ) → file_of words ≡ Some name
      → ((failed : Bool) × RunEnds c words (still (files.bytes_of name) failed) n output errors) ⊎ IsUnopened files name n output
  -- where they name one and are answered, it was opened
  pub opened : (name : List ℕ) → file_of words ≡ Some name → ¬ (n ≡ 2) → ¬ (n ≡ 3) → files.may_open name None
