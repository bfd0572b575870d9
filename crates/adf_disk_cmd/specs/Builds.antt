-- What `build` writes. p is the plan of a partition of n blocks, ps are partitions, c the number of blocks of a cylinder; `given` are the bytes behind
-- the text of a plan, those of the given volumes one behind the other, and `left` those that are left of them.
use Rattle.std.specs.Prelude.{◌≡◌, ◌≢◌, ◌+◌, ◌*◌, ◌++◌, ◌⊎◌, ℕ, Bool, List, [], ◌∷◌, Option, drop, false, if◌then◌else◌, length, take, true}
use Rattle.std.specs.{Io.KnownBytes.Appends, List.flat_map}
use Rattle.adf_tree.specs.Tree.{Tree}
use Rattle.adf_names.specs.declared.meta.TheConstants.{NO_STAMPS}
use Rattle.adf_volume.specs.{Fits.FitsBy, Image.word_in, Layout.Layout, declared.types.Types.TheVariants.WithInternational}
use Rattle.adf_cached_files.specs.InPlace.{FitsInPlace}
use Rattle.adf_partitions.specs.{Disks.IsDisk, declared.plan.PartitionPlan.PartitionPlan, declared.tables.Tables.Tables}
use Rattle.adf_partitions.specs.{FileSystems.kind_of_system, FileSystems.letters_of_system, FileSystems.planned_type}
use Rattle.adf_partitions.specs.declared.file_system.FileSystem.{FileSystem, TheVariants.WithCaches, TheVariants.WithoutCaches}
use Rattle.adf_partitions.specs.Plans.{AreTablesOfPlan, PlanValue, StandInPlaces, cylinder_blocks, planned_blocks, planned_partitions}
use Rattle.adf_plans.specs.PlanTexts.{HasNoPlan, IsText}
use Rattle.adf_uncached.specs.Uncached.{is_cached}
use Rattle.adf_runs.specs.{Commands.Reply, Streams.AppendsPart}
use Rattle.adf_verdicts.specs.Verdicts.{IsValid}

-- what is on a new volume of this file system: nothing, under a label
abbrev pub empty_tree : FileSystem → List ℕ → Tree
empty_tree system label =
    record { kind = kind_of_system system; letters = letters_of_system system; label = label; stamps = NO_STAMPS; entries = [] }

-- a tree and a layout fit these bytes: as a volume with the letters of its file system, or as one with right directory caches
abbrev pub FitsSystem : FileSystem → List ℕ → Tree → Layout → Type 0
FitsSystem (WithoutCaches kind letters) bytes t l = FitsBy letters bytes t l
FitsSystem (WithCaches kind) bytes t l = FitsInPlace bytes t l

-- these bytes are a new volume: empty, under this label, of the type of its file system, and valid
pub record IsNewVolume (system : FileSystem) (label bytes : List ℕ) : Type 0 where
  pub layout : Layout
  pub fits : FitsSystem system bytes (empty_tree system label) layout
  pub valid : IsValid WithInternational bytes
  pub type : word_in bytes 0 0 ≡ planned_type system

-- these bytes are a volume with right directory caches that is read as it is, of this type
pub record IsWithCaches (planned : ℕ) (bytes : List ℕ) : Type 0 where
  pub tree : Tree
  pub layout : Layout
  pub fits : FitsInPlace bytes tree layout
  pub cached : is_cached bytes ≡ true
  pub type : word_in bytes 0 0 ≡ planned

-- these bytes are the volume of a partition: the first that are left, or a new one under the name of the drive
pub record IsPlannedVolume (n : ℕ) (p : PartitionPlan) (left bytes : List ℕ) : Type 0 where
  pub long : length bytes ≡ n * 512
  pub given : p.given ≡ true → bytes ≡ take (n * 512) left
  pub new : p.given ≡ false → IsNewVolume p.system p.name bytes

-- the given bytes behind it
abbrev pub behind_volume : ℕ → PartitionPlan → List ℕ → List ℕ
behind_volume n p given = if p.given then drop (n * 512) given else given

-- of the volume of a partition nothing is written, or a front part, and not all if the device has failed
abbrev pub IsPartOfVolume : ℕ → PartitionPlan → (left : List ℕ) → (failed : Bool) → (old new : Option (List ℕ)) → Type 0
IsPartOfVolume n p left failed old new =
    ((failed ≡ false) × Appends old new []) ⊎ ((v : List ℕ) × IsPlannedVolume n p left v × AppendsPart failed old new v)

-- the volumes of partitions in their order, and what is left of the given bytes behind them
pub data ArePlannedVolumes (c : ℕ) (given : List ℕ) : List PartitionPlan → (left : List ℕ) → List (List ℕ) → Type 0 where
  none : ArePlannedVolumes c given [] given []
  more : {ps : List PartitionPlan} {p : PartitionPlan} {left volume : List ℕ} {vs : List (List ℕ)} → ArePlannedVolumes c given ps left vs
      → IsPlannedVolume (p.cylinders * c) p left volume
      → ArePlannedVolumes c given (ps ++ p ∷ []) (behind_volume (p.cylinders * c) p left) (vs ++ volume ∷ [])

-- the cylinders of a given volume
abbrev pub given_size : PartitionPlan → ℕ
given_size p = if p.given then p.cylinders else 0

-- the cylinders of all given volumes
unfoldable pub given_cylinders : List PartitionPlan → ℕ
given_cylinders [] = 0
given_cylinders (p ∷ ps) = given_size p + given_cylinders ps

-- the bytes of all given volumes
abbrev pub given_bytes : PlanValue → ℕ
given_bytes plan = given_cylinders plan.partitions * cylinder_blocks plan * 512

-- a disk has the planned partitions and no others, and each volume at its partition's place: a given one as it came, a new one valid
pub record HasPlanned (plan : PlanValue) (given disk : List ℕ) : Type 0 where
  pub size : length disk ≡ planned_blocks plan * 512
  pub tables : (t : Tables) × IsDisk disk (planned_blocks plan) t (planned_partitions plan)
  pub left : List ℕ
  pub volumes : List (List ℕ)
  pub planned : ArePlannedVolumes (cylinder_blocks plan) given plan.partitions left volumes
  pub places : StandInPlaces disk (planned_partitions plan) volumes

-- these bytes are the front of such a disk: its tables, and the volumes of the first partitions behind them
pub record IsFrontOfDisk (plan : PlanValue) (given front : List ℕ) : Type 0 where
  pub tables : List ℕ
  pub done : List PartitionPlan
  pub others : List PartitionPlan
  pub left : List ℕ
  pub volumes : List (List ℕ)
  pub are : AreTablesOfPlan plan tables
  pub parts : plan.partitions ≡ done ++ others
  pub planned : ArePlannedVolumes (cylinder_blocks plan) given done left volumes
  pub bytes : front ≡ tables ++ flat_map (λ v. v) volumes

-- A plan is answered: at status 0 its disk is written if exactly the bytes of its given volumes are there, and at status 1 nothing if others are; what
-- is written at status 3 is the front of the disk.
pub data AnswersPlan (plan : PlanValue) (given : List ℕ) (reply : Reply) : Type 0 where
  built : reply.status ≡ 0 → length given ≡ given_bytes plan → HasPlanned plan given reply.output → AnswersPlan plan given reply
  refused : reply.status ≡ 1 → length given ≢ given_bytes plan → reply.output ≡ [] → AnswersPlan plan given reply
  unfinished : reply.status ≡ 3 → length given ≡ given_bytes plan → IsFrontOfDisk plan given reply.output → AnswersPlan plan given reply

-- the text has a plan
abbrev pub BuildsPlan : List ℕ → Reply → Type 0
BuildsPlan text reply = (plan : PlanValue) × (given : List ℕ) × IsText text plan given × AnswersPlan plan given reply

-- the text has no plan, and nothing is written
abbrev pub RefusesPlan : List ℕ → Reply → Type 0
RefusesPlan text reply = HasNoPlan text × (reply.status ≡ 1) × (reply.output ≡ [])

-- `build` writes the disk of a text, or nothing
abbrev pub BuildsDisk : List ℕ → Reply → Type 0
BuildsDisk text reply = BuildsPlan text reply ⊎ RefusesPlan text reply
