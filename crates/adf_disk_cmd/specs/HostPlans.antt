-- What `build` does with a plan whose lines name host files. p is the plan of a partition, `need` the bytes of its volume, ps are partitions, c the number
-- of blocks of a cylinder; `lines` is the text from the line of the first of ps on, `left` are the bytes behind a plan that are left for its given volumes.
use Rattle.std.specs.Prelude.{◌≡◌, ◌≢◌, ◌≤◌, ◌+◌, ◌*◌, ◌==◌, ◌++◌, ◌||◌, ◌⊎◌, ℕ, Bool, true, false, List, [], ◌∷◌, Option, None, Some, drop, length, nat_lt}
use Rattle.std.specs.Prelude.{take, if◌then◌else◌}
use Rattle.std.specs.Io.KnownBytes.{Appends}
use Rattle.adf_disk_cmd.specs.{Builds.AnswersPlan, Builds.BuildsDisk, Builds.RefusesPlan, CommandLine.AsksDiskOf, CommandLine.DiskRequestValue, CommandLine.build}
use Rattle.adf_disk_cmd.specs.{Answers.disk_command, CommandLine.disk_file, declared.work.TheConstants.MOST_DISK_BYTES}
use Rattle.adf_disk_cmd.specs.declared.host_volumes.VolumeRefusal.{VolumeRefusal, TheVariants.Short, TheVariants.Long, TheVariants.OtherType}
use Rattle.adf_file_runs.specs.FileRuns.{KnownFiles, RunEndsOnFiles}
use Rattle.adf_partitions.specs.{FileSystems.planned_type, Plans.PlanValue, Plans.cylinder_blocks, declared.plan.PartitionPlan.PartitionPlan}
use Rattle.adf_plans.specs.{HostFiles.IsPlainText, HostFiles.NamesHosts, HostFiles.host_of, PlanTexts.IsText, PlanTexts.behind_line, PlanTexts.first_line}
use Rattle.adf_runs.specs.{Commands.Reply, Outcomes.Does, Outcomes.status_of, Streams.AreFirst, Streams.Seen}
use Rattle.adf_runs.specs.declared.outcome.Outcome.{Outcome}
use Rattle.adf_volume.specs.Image.{word_in}

-- the bytes of a host file as they are read: all, where they are known, and of a longer file one more than needed
abbrev pub AreHostBytes : (List ℕ → Option (List ℕ)) → ℕ → List ℕ → List ℕ → Type 0
AreHostBytes bytes_of need host bytes = AreFirst (need + 1) (bytes_of host) bytes

-- the type that the boot block of a volume names; 0 names none
abbrev pub boot_type : List ℕ → ℕ
boot_type bytes = word_in bytes 0 0

-- whether a volume may have this type
abbrev pub names_type : ℕ → ℕ → Bool
names_type planned found = (found == 0) || (found == planned)

-- the boot block names another type than the planned one
abbrev pub type_refusal : ℕ → ℕ → Option VolumeRefusal
type_refusal planned found = if names_type planned found then None else Some (OtherType found planned)

-- why these bytes are no volume of a partition, if so
abbrev pub volume_refusal : ℕ → PartitionPlan → List ℕ → Option VolumeRefusal
volume_refusal need p bytes =
    if nat_lt (length bytes) need then Some (Short need (length bytes))
    else (if nat_lt need (length bytes) then Some (Long need) else type_refusal (planned_type p.system) (boot_type bytes))

-- the volume of a partition whose line names no host file: the first of the bytes that are left, if it is given
abbrev pub left_volume : ℕ → PartitionPlan → List ℕ → List ℕ
left_volume need p left = if p.given then take need left else []

-- the bytes behind it
abbrev pub behind_left : ℕ → PartitionPlan → List ℕ → List ℕ
behind_left need p left = if p.given then drop need left else left

-- the bytes that a partition takes, of its host file or of those that are left, and what is left then
abbrev pub TakesVolume : (List ℕ → Option (List ℕ)) → ℕ → PartitionPlan → Option (List ℕ) → (left bytes rest : List ℕ) → Type 0
TakesVolume bytes_of need p None left bytes rest = (bytes ≡ left_volume need p left) × (rest ≡ behind_left need p left)
TakesVolume bytes_of need p (Some host) left bytes rest =
    AreHostBytes bytes_of need host bytes × (volume_refusal need p bytes ≡ None) × (rest ≡ left)

-- the volumes of partitions one behind the other, and what is left at the end
unfoldable pub AreGathered : (List ℕ → Option (List ℕ)) → ℕ → List PartitionPlan → (lines left given : List ℕ) → Type 0
AreGathered bytes_of c [] lines left given = given ≡ left
AreGathered bytes_of c (p ∷ ps) lines left given =
    (bytes rest more : List ℕ) × TakesVolume bytes_of (p.cylinders * c * 512) p (host_of (first_line lines)) left bytes rest
    × AreGathered bytes_of c ps (behind_line lines) rest more × (given ≡ bytes ++ more)

-- the disk of a plan, with the bytes of the host files among the given ones, or the fault of its plain text
abbrev pub BuildsHosts : (List ℕ → Option (List ℕ)) → List ℕ → List ℕ → Reply → Type 0
BuildsHosts bytes_of text plain reply =
    ((plan : PlanValue) × (left given : List ℕ) × IsText plain plan left
    × AreGathered bytes_of (cylinder_blocks plan) plan.partitions (behind_line text) left given × AnswersPlan plan given reply)
    ⊎ RefusesPlan plain reply

-- Any bytes can stand behind a text with a plan, and the answer is that of the plan and these bytes: so a plan whose lines name host files is answered as
-- the one input of its plain text with the gathered volumes behind it.
abbrev pub PlansTakeAnyBytes : Type 0
PlansTakeAnyBytes = (plain left given : List ℕ) (plan : PlanValue) (reply : Reply) → IsText plain plan left → AnswersPlan plan given reply
    → (front : List ℕ) × (plain ≡ front ++ left) × BuildsDisk (front ++ given) reply

-- the plan is answered
abbrev pub AnswersHosts : KnownFiles → List ℕ → ℕ → Seen → Type 0
AnswersHosts files text n output = (plain : List ℕ) × IsPlainText text plain × (outcome : Outcome)
    × Does (BuildsHosts files.bytes_of text plain) outcome output × (n ≡ status_of outcome)

-- nothing is written, at a status other than 0: a host file is not had, or is no volume of its partition, or memory was refused
abbrev pub WritesNone : ℕ → Seen → Type 0
WritesNone n output = (n ≢ 0) × (n ≤ 3) × Appends output.before output.after []

-- how a run over the text of a plan ends whose lines name host files
abbrev pub HostsEnd : KnownFiles → List ℕ → ℕ → Seen → Type 0
HostsEnd files text n output = AnswersHosts files text n output ⊎ WritesNone n output

-- whether a disk is to be built
abbrev pub is_build : DiskRequestValue → Bool
is_build build = true
is_build r = false

-- the text of the plan that words ask to build, as far as it counts
abbrev pub IsPlanOf : List (List ℕ) → KnownFiles → List ℕ → Type 0
IsPlanOf words files text = (name : List ℕ) × AsksDiskOf words build (Some name) × AreFirst (MOST_DISK_BYTES + 1) (files.bytes_of name) text

-- where the words ask to build a plan of known text, its lines name no host files
abbrev pub NamesNoHosts : List (List ℕ) → KnownFiles → Type 0
NamesNoHosts words files = (name text : List ℕ) → AsksDiskOf words build (Some name) → files.bytes_of name ≡ Some text
    → ¬ NamesHosts (take (MOST_DISK_BYTES + 1) text)

-- how a run with these words ends: over host files where they ask to build a plan whose lines name some, else as that of the command over a file or the
-- input, unless a device or memory failed
abbrev pub DiskEnds : List (List ℕ) → KnownFiles → Seen → ℕ → Seen → Seen → Type 0
DiskEnds words files input n output errors =
    ((text : List ℕ) × IsPlanOf words files text × NamesHosts text × HostsEnd files text n output)
    ⊎ (RunEndsOnFiles disk_command disk_file words files input n output errors × (¬ (n ≡ 3) → NamesNoHosts words files))
