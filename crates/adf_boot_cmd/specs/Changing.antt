-- What becomes of files by words with `-o NEW` or `-i` in front. Of the words behind the option the first is in the place of the program's name.
use Rattle.std.specs.Prelude.{◌≡◌, ◌⊎◌, ℕ, List, [], ◌∷◌, Option, None, Some, IfSome, codes, if◌then◌else◌}
use Rattle.std.specs.{Option.unwrap_or, Str.bytes_eq}
use Rattle.clap.specs.Words.{Text}
use Rattle.adf_boot_cmd.specs.{Answers.BootAnswer, Answers.BootEnds, Answers.IsOrderOf, Answers.Order, CommandLine.AsksBoot}
use Rattle.adf_boot_cmd.specs.CommandLine.{BootRequestValue, boot_file, tell}
use Rattle.adf_file_runs.specs.FileChanges.{IsReplaced}
use Rattle.adf_file_runs.specs.FileRuns.{KnownFiles}
use Rattle.adf_runs.specs.{Commands.Reply, Streams.Seen}

-- the words of a change, and the file that gets the new image, if it is not that of the old one
pub record BootChange : Type 0 where
  pub target : Option Text
  pub words : List Text

-- the change into another file, whose name stands first
abbrev pub change_into : List Text → Option BootChange
change_into [] = None
change_into (target ∷ words) = Some (record { target = Some target; words = target ∷ words })

-- the change that arguments ask for by their first word: -o NEW or -i
abbrev pub boot_change : List Text → Option BootChange
boot_change (name ∷ flag ∷ words) =
    if bytes_eq flag (codes "-o") then change_into words
    else if bytes_eq flag (codes "-i") then Some (record { target = None; words = flag ∷ words }) else None
boot_change words = None

-- the file whose image gets other boot blocks, by a request and the file that is named: none where they are told
abbrev pub image_asked : BootRequestValue → Option Text → Option Text
image_asked tell file = None
image_asked r file = file

-- words ask for other boot blocks in the image of a file
abbrev pub AsksChange : List Text → BootRequestValue → Text → Type 0
AsksChange words r image = AsksBoot words r × (image_asked r (boot_file words) ≡ Some image)

-- the answer to an order of what is left of an input has this status and this output
abbrev pub Answers : Order → Option (List ℕ) → ℕ → List ℕ → Type 0
Answers order left n new = IfSome left (λ bytes. BootAnswer order bytes (record { status = n; output = new; errors = [] }))

-- what words ask for the image of a file is answered so
pub record IsAnswered (words : List Text) (files : KnownFiles) (image : Text) (n : ℕ) (new : List ℕ) : Type 0 where
  pub request : BootRequestValue
  pub asks : AsksChange words request image
  pub order : Order
  pub is : IsOrderOf files.bytes_of request order
  pub answer : Answers order (files.bytes_of image) n new

-- the target got the image that is the answer to the words
abbrev pub ReplacesBoot : BootChange → KnownFiles → (List ℕ → Option (List ℕ)) → Type 0
ReplacesBoot change files after = (image : Text) × (new : List ℕ)
    × IsAnswered change.words files image 0 new × IsReplaced files.bytes_of after (unwrap_or change.target image) new

-- why no file was changed: the image or the boot blocks are refused; the words ask for no change; a file or memory failed
abbrev pub KeepsBoot : List Text → KnownFiles → ℕ → Type 0
KeepsBoot words files n = ((n ≡ 1) × (image : Text) × IsAnswered words files image 1 [])
    ⊎ (((n ≡ 2) × ((r : BootRequestValue) (image : Text) → ¬ AsksChange words r image)) ⊎ (n ≡ 3))

-- how a change ends: the target is replaced, or each file is as it was
abbrev pub ChangeEnds : BootChange → KnownFiles → (List ℕ → Option (List ℕ)) → ℕ → Type 0
ChangeEnds change files after n = ((n ≡ 0) × ReplacesBoot change files after) ⊎ ((after ≡ files.bytes_of) × KeepsBoot change.words files n)

-- how a run ends by the change that its words ask for, which reads and writes files alone; else as one of the words
abbrev pub ChangedEnds : Option BootChange → List Text → KnownFiles → (List ℕ → Option (List ℕ)) → Seen → ℕ → Seen → Seen → Type 0
ChangedEnds (Some change) words files after input n output errors =
    (input.after ≡ input.before) × (output.after ≡ output.before) × ChangeEnds change files after n
ChangedEnds None words files after input n output errors = BootEnds words files input n output errors × (after ≡ files.bytes_of)

abbrev pub BootRunEnds : List Text → KnownFiles → (List ℕ → Option (List ℕ)) → Seen → ℕ → Seen → Seen → Type 0
BootRunEnds words files after input n output errors = ChangedEnds (boot_change words) words files after input n output errors
