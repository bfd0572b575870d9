-- What is known of volumes of which not all bytes are held. `all` are the bytes of a disk, `bytes` what is held of its front; `checked` are volumes that
-- were checked, q is a place.
use Rattle.std.specs.Prelude.{◌≡◌, ◌≤◌, ◌*◌, ◌++◌, ◌==◌, ◌&&◌, ℕ, List, Option, Bool, All, length, min, take}
use Rattle.std.specs.Io.KnownBytes.{Consumes}
use Rattle.adf_disk_cmd.specs.{Checks.IsVolumeAnswer, Surveys.volume_at, declared.checking.CheckedVolume.CheckedVolume}
use Rattle.adf_disk_cmd.specs.{declared.list_input.TheConstants.TABLES_LEN, declared.work.TheConstants.MOST_DISK_BYTES}
use Rattle.adf_partitions.specs.{Places.end_of, declared.place.Place.Place}
use Rattle.adf_disk_cmd.specs.declared.volumes.TheConstants.{MOST_DISK_BLOCKS}

-- this is answered to the volume at its place
abbrev pub HasVerdict : List ℕ → CheckedVolume → Type 0
HasVerdict all v = IsVolumeAnswer (volume_at all v.place) v.answer

-- whether a volume lies at this place
abbrev pub lies_at : Place → CheckedVolume → Bool
lies_at q v = (v.place.first == q.first) && (v.place.blocks == q.blocks)

-- the front of a disk is held, and these of its volumes were checked
pub record KnowsDisk (all bytes : List ℕ) (checked : List CheckedVolume) : Type 0 where
  pub count : ℕ
  pub front : bytes ≡ take count all
  pub answered : All (HasVerdict all) checked

-- a place lies within the largest disk
abbrev pub IsWithin : Place → Type 0
IsWithin q = end_of q ≤ MOST_DISK_BLOCKS

-- a place begins at a byte or behind it
abbrev pub BeginsFrom : ℕ → Place → Type 0
BeginsFrom begin q = begin ≤ q.first * 512

-- the first block of a place
abbrev pub first_of_place : Place → ℕ
first_of_place q = q.first

-- these are the bytes from one on up to where an input stands that began with `start`
pub record IsStretch (start left : Option (List ℕ)) (begin : ℕ) (bytes : List ℕ) : Type 0 where
  pub before : List ℕ
  pub from : length before ≡ begin
  pub taken : Consumes start left (before ++ bytes)

-- what is held of an input, and how many bytes it has
pub record HoldsChecks (all bytes : List ℕ) (checked : List CheckedVolume) (len : ℕ) : Type 0 where
  pub counted : min len MOST_DISK_BYTES ≡ min (length all) MOST_DISK_BYTES
  pub answered : All (HasVerdict (take MOST_DISK_BYTES all)) checked
  pub tables : bytes ≡ take TABLES_LEN all
