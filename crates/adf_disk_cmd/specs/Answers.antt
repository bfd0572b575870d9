-- What the command answers to its words and its input. `bytes` are those of a disk, ps its partitions, o the first fault of its tables, if there is one.
use Rattle.std.specs.Prelude.{List, [], ◌∷◌, bytes_eq, codes, find, length, take, Option, None, Some, Result, Ok, Err}
use Rattle.std.specs.Prelude.{◌≡◌, ◌≤◌, ◌++◌, ◌/◌, ◌&&◌, ◌||◌, ℕ, Bool, false, true}
use Rattle.adf_names.specs.{Escapes.escaped, Texts.uppers}
use Rattle.adf_names.specs.Written.{names_text}
use Rattle.adf_partitions.specs.{Disks.FirstDiskFault, Partitions.partition_numbered, declared.fault.DiskFault.DiskFault}
use Rattle.adf_partitions.specs.{declared.partition.Partition.Partition, declared.place.Place.Place}
use Rattle.adf_partitions.specs.declared.place.PlaceFault.{PlaceFault, TheVariants.BeyondImage}
use Rattle.adf_disk_cmd.specs.CommandLine.{AreRefusedByDisk, AsksDisk, DiskRequestValue, WantedValue, build, check, list, name, number, propose, search, volume}
use Rattle.adf_disk_cmd.specs.{Builds.BuildsDisk, Checks.AreChecked, Proposals.Proposes, Replies.WritesOutput, Replies.check_status}
use Rattle.adf_disk_cmd.specs.{Surveys.IsSurveyed, Surveys.are_faultless, Surveys.stated_at, Surveys.volume_at}
use Rattle.adf_runs.specs.Commands.{Command, Reply}
use Rattle.adf_disk_cmd.specs.{declared.list_input.TheConstants.TABLES_LEN, declared.work.TheConstants.MOST_DISK_BYTES}

-- `list` has status 0 where the tables have no fault
abbrev pub ListsAll : Option DiskFault → Reply → Type 0
ListsAll o reply = reply.status ≡ check_status (are_faultless o)

-- `check` has status 0 where they have none, and all volumes are sound
abbrev pub ChecksAll : List ℕ → List Partition → Option DiskFault → Reply → Type 0
ChecksAll bytes ps o reply = (sound : Bool) × AreChecked bytes ps sound × (reply.status ≡ check_status (are_faultless o && sound))

-- whether a text is the name of a partition, as `list` writes it or in the escape form, ignoring case
abbrev pub is_called : List ℕ → Partition → Bool
is_called text p = bytes_eq (uppers (names_text (p.name ∷ []))) (uppers text) || bytes_eq (uppers (escaped p.name)) (uppers text)

-- what is wanted, where a disk has it: the partition with this number, or the first that has the name
abbrev pub wanted_of : List Partition → WantedValue → Option Partition
wanted_of ps (number n) = partition_numbered ps n
wanted_of ps (name text) = find (is_called text) ps

-- where the bytes of a volume lie that are written, of which b is the partition block: at its place, or where the block says, if that is past the end of
-- the image; of another one without a place none are
abbrev pub written_place : List ℕ → ℕ → Result Place PlaceFault → Option Place
written_place tables b (Ok q) = Some q
written_place tables b (Err BeyondImage) = Some (stated_at tables b)
written_place tables b (Err f) = None

-- where those of the partition that is wanted lie, if there is one
abbrev pub found_place : List ℕ → Option Partition → Option Place
found_place tables None = None
found_place tables (Some p) = written_place tables p.block p.place

-- the bytes that lie there, as far as the image has them
abbrev pub place_bytes : List ℕ → Option Place → List ℕ
place_bytes bytes None = []
place_bytes bytes (Some q) = volume_at bytes q

-- those of the volume that is wanted
abbrev pub found_bytes : List ℕ → Option Partition → List ℕ
found_bytes bytes found = place_bytes bytes (found_place (take TABLES_LEN bytes) found)

-- whether there is a partition with a place
abbrev pub is_placed : Result Place PlaceFault → Bool
is_placed (Ok q) = true
is_placed (Err f) = false

abbrev pub has_place : Option Partition → Bool
has_place None = false
has_place (Some p) = is_placed p.place

-- the bytes of the volume that is wanted are written, at status 0 where the tables have no fault and it has a place
abbrev pub WritesVolume : List ℕ → Option Partition → Option DiskFault → Reply → Type 0
WritesVolume bytes found o reply = WritesOutput (check_status (are_faultless o && has_place found)) (found_bytes bytes found) reply

-- The answer to a request, of a disk on which these partitions are found, and this first fault of the tables, if they have one:
-- `build` reads no disk, and a search no tables.
abbrev pub OfPartitions : DiskRequestValue → List ℕ → List Partition → Option DiskFault → Reply → Type 0
OfPartitions (list json) bytes ps o reply = ListsAll o reply
OfPartitions (check json) bytes ps o reply = ChecksAll bytes ps o reply
OfPartitions (search json) bytes ps o reply = ⊥
OfPartitions propose bytes ps o reply = ⊥
OfPartitions (volume w) bytes ps o reply = WritesVolume bytes (wanted_of ps w) o reply
OfPartitions build bytes ps o reply = ⊥

-- what is found on a disk is told of; it has as many blocks as the bytes hold
abbrev pub OfDisk : DiskRequestValue → List ℕ → Reply → Type 0
OfDisk r bytes reply =
    (ps : List Partition) × (o : Option DiskFault) × IsSurveyed bytes (length bytes / 512) ps o × OfPartitions r bytes ps o reply

-- the answer to a request and the bytes of an input: those of a plan, or of a disk, which is searched or of which the tables are read
abbrev pub OfBytes : DiskRequestValue → List ℕ → Reply → Type 0
OfBytes build bytes reply = BuildsDisk bytes reply
OfBytes (search json) bytes reply = reply.status ≤ 1
OfBytes propose bytes reply = Proposes reply
OfBytes r bytes reply = OfDisk r bytes reply

-- the answer to a request and an input: what is past the largest disk does not count
abbrev pub DiskAnswer : DiskRequestValue → List ℕ → Reply → Type 0
DiskAnswer r input reply = OfBytes r (take MOST_DISK_BYTES input) reply

-- what is answered of a disk whose tables have a fault, by its partitions, has status 1
abbrev pub DamagedTablesAreTold : Type 0
DamagedTablesAreTold = (r : DiskRequestValue) (bytes : List ℕ) (f : DiskFault) (reply : Reply) → FirstDiskFault bytes (length bytes / 512) f
    → OfDisk r bytes reply → reply.status ≡ 1

-- what errors get where the words are refused
abbrev pub disk_usage : List ℕ
disk_usage =
    codes "usage: adf-disk list [--json] [FILE]\n       adf-disk check [--json] [FILE]\n       adf-disk survey [--search [--plan]] [--json] [FILE]\n"
    ++ codes "       adf-disk volume NAME [FILE]\n"
    ++ codes "       adf-disk build [-o DISK] [PLAN]\nwithout a FILE the disk or its plan comes on standard input; man adf-disk tells more\n"

-- the command `adf-disk`, whose words have no path
abbrev pub disk_command : Command (List (List ℕ))
disk_command = record {
  Request = DiskRequestValue;
  asks = AsksDisk;
  refuses = AreRefusedByDisk;
  asks_bad_path = λ words. ⊥;
  answer = DiskAnswer;
  limit = λ r. MOST_DISK_BYTES;
  usage = disk_usage;
}
