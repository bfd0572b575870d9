-- Runs whose new disk gets a file of its own. `files` are those before the run, `after` tells the bytes of each afterwards.
use Rattle.std.specs.Prelude.{◌≡◌, ◌≢◌, ◌⊎◌, ◌&&◌, ℕ, List, [], ◌∷◌, Option, None, Some, IfSome, codes, if◌then◌else◌}
use Rattle.std.specs.Str.{bytes_eq}
use Rattle.clap.specs.Words.{Text}
use Rattle.adf_disk_cmd.specs.HostPlans.{DiskEnds}
use Rattle.adf_file_runs.specs.FileChanges.{IsReplaced}
use Rattle.adf_file_runs.specs.FileRuns.{KnownFiles}
use Rattle.adf_runs.specs.Streams.{Seen}

-- a disk that is built into a file: the file, and the words without it
pub record NewDisk : Type 0 where
  pub target : Text
  pub words : List Text

-- the new disk that words ask for: build -o DISK [PLAN]
abbrev pub new_disk : List Text → Option NewDisk
new_disk (name ∷ command ∷ flag ∷ target ∷ rest) =
    if bytes_eq command (codes "build") && bytes_eq flag (codes "-o") then Some (record { target = target; words = name ∷ command ∷ rest }) else None
new_disk words = None

-- a new file got what a run with the words alone writes, which ends at status n
pub record IsMade (disk : NewDisk) (files : KnownFiles) (input : Seen) (n : ℕ) (made errors : Seen) : Type 0 where
  pub empty : IfSome made.before (λ bytes. bytes ≡ [])
  pub ends : DiskEnds disk.words files input n made errors

-- it was put in its place, at status 0
abbrev pub PutsDisk : NewDisk → KnownFiles → (List ℕ → Option (List ℕ)) → Seen → ℕ → Seen → Type 0
PutsDisk disk files after input n errors =
    (made : Seen) × IsMade disk files input 0 made errors × (n ≡ 0) × IfSome made.after (IsReplaced files.bytes_of after disk.target)

-- a run with the words alone ends at a status other than 0
abbrev pub IsUnmade : NewDisk → KnownFiles → Seen → ℕ → Seen → Type 0
IsUnmade disk files input n errors = (made : Seen) × IsMade disk files input n made errors × (n ≢ 0)

-- how a run ends that builds a disk into a file: the file is put in its place, or each file is as it was, and the status is that of a run with the words
-- alone, or 3
abbrev pub NewDiskEnds : NewDisk → KnownFiles → (List ℕ → Option (List ℕ)) → Seen → ℕ → Seen → Type 0
NewDiskEnds disk files after input n errors =
    PutsDisk disk files after input n errors ⊎ ((after ≡ files.bytes_of) × ((n ≡ 3) ⊎ IsUnmade disk files input n errors))

-- how a run ends by the new disk that its words ask for, which leaves output as it was; else as one of the words
abbrev pub EndsByDisk : Option NewDisk → List Text → KnownFiles → (List ℕ → Option (List ℕ)) → Seen → ℕ → Seen → Seen → Type 0
EndsByDisk (Some disk) words files after input n output errors =
    (output.after ≡ output.before) × NewDiskEnds disk files after input n errors
EndsByDisk None words files after input n output errors = DiskEnds words files input n output errors × (after ≡ files.bytes_of)

abbrev pub DiskRunEnds : List Text → KnownFiles → (List ℕ → Option (List ℕ)) → Seen → ℕ → Seen → Seen → Type 0
DiskRunEnds words files after input n output errors = EndsByDisk (new_disk words) words files after input n output errors
