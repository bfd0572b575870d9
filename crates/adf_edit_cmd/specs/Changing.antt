-- What becomes of files by words. bytes_of tells the known bytes of each file, n is a status.
use Rattle.std.specs.Prelude.{◌≡◌, ◌≢◌, ◌≤◌, ◌+◌, ◌⊎◌, ℕ, List, ◌∷◌, Option, None, Some, codes, false, if◌then◌else◌}
use Rattle.std.specs.{Option.unwrap_or, Str.bytes_eq}
use Rattle.adf_edit_cmd.specs.{Answers.edit_command, Edited.IsByScript, Manifests.is_manifest, Script.ScriptValue}
use Rattle.adf_edit_cmd.specs.declared.program.TheConstants.{MOST_INPUT_BYTES}
use Rattle.adf_file_runs.specs.FileChanges.{IsReplaced}
use Rattle.adf_file_runs.specs.FileRuns.{KnownFiles}
use Rattle.adf_runs.specs.{Commands.RunEnds, Streams.AreFirst, Streams.Seen}

-- the bytes of a file as they are read: all, where they are known and no more than an input may have
abbrev pub AreRead : (List ℕ → Option (List ℕ)) → List ℕ → List ℕ → Type 0
AreRead bytes_of name bytes = AreFirst (MOST_INPUT_BYTES + 1) (bytes_of name) bytes

-- the new image is what edits make of the image in a file, for a target; no manifest is to be replaced
pub record IsNewImage (bytes_of : List ℕ → Option (List ℕ)) (name target new : List ℕ) : Type 0 where
  pub script : ScriptValue
  pub given : List ℕ
  pub image : List ℕ
  pub read : AreRead bytes_of name image
  pub kept : target ≡ name → is_manifest image ≡ false
  pub made : IsByScript script given image new

-- at status 0 the target got all bytes of the new image, and each other file is as it was
abbrev pub IsChanged : KnownFiles → (List ℕ → Option (List ℕ)) → (name target : List ℕ) → Type 0
IsChanged files after name target =
    (new : List ℕ) × IsNewImage files.bytes_of name target new × IsReplaced files.bytes_of after target new

-- at any other status each file is as it was
abbrev pub LeavesFiles : KnownFiles → (List ℕ → Option (List ℕ)) → ℕ → Type 0
LeavesFiles files after n = (n ≢ 0) × (n ≤ 3) × (after ≡ files.bytes_of)

-- how a run ends that edits the image in a file, for a target
abbrev pub OrderEnds : KnownFiles → (List ℕ → Option (List ℕ)) → (name target : List ℕ) → ℕ → Type 0
OrderEnds files after name target n = ((n ≡ 0) × IsChanged files after name target) ⊎ LeavesFiles files after n

-- the file that words name for the new image, behind the name of the program: that behind `-o`
abbrev pub named_target : List (List ℕ) → Option (List ℕ)
named_target (flag ∷ target ∷ words) = if bytes_eq flag (codes "-o") then Some target else None
named_target words = None

-- it is the target, or else the image is
abbrev pub IsTargetOf : List (List ℕ) → (name target : List ℕ) → Type 0
IsTargetOf words name target = target ≡ unwrap_or (named_target words) name

-- how a run with words behind the name of the program ends
abbrev pub WordsEnd : List (List ℕ) → KnownFiles → (List ℕ → Option (List ℕ)) → ℕ → Type 0
WordsEnd words files after n = (name target : List ℕ) × IsTargetOf words name target × OrderEnds files after name target n

-- how a run with these words ends: with no word behind the name, over the input; else over files, and output gets nothing
abbrev pub EditEnds : List (List ℕ) → KnownFiles → (List ℕ → Option (List ℕ)) → Seen → ℕ → Seen → Seen → Type 0
EditEnds (name ∷ word ∷ words) files after input n output errors =
    (output.after ≡ output.before) × WordsEnd (word ∷ words) files after n
EditEnds words files after input n output errors = RunEnds edit_command words input n output errors × (after ≡ files.bytes_of)
