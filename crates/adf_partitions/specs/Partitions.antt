-- Partitions. p is the partition block, n the number of blocks of the disk, t its tables, `earlier` the partitions before.
use Rattle.std.specs.Prelude.{ℕ, ◌-◌, ◌==◌, ◌&&◌, if◌then◌else◌, not, nat_le, Bool, false, List, [], ◌∷◌, Option, Some, None, Result, Ok, Err, bytes_eq}
use Rattle.std.specs.{Prelude.slice_get, Prelude.slice_index, Prelude.take, Int.w32, Int.cast_signed, List.list_all, List.list_any}
use Rattle.adf_base.specs.Words.{word}
use Rattle.adf_names.specs.Texts.{is_name_byte, uppers}
use Rattle.adf_blocks.specs.Forms.{text_at}
use Rattle.adf_partitions.specs.declared.field_fault.FieldFault.{FieldFault, TheVariants.ShortEnvironment, TheVariants.OtherBlocks, TheVariants.BadName}
use Rattle.adf_partitions.specs.declared.layout.TheConstants.{BLOCK_SECTORS, BOOT_PRIORITY, DOS_TYPE, DRIVE_NAME, ENV_BLOCK_WORDS, ENV_LENGTH, FLAGS}
use Rattle.adf_partitions.specs.declared.layout.TheConstants.{PREALLOCATED, RESERVED}
use Rattle.adf_partitions.specs.declared.partition.Partition.{Partition}
use Rattle.adf_partitions.specs.{declared.place.Place.Place, declared.place.PlaceFault.PlaceFault, declared.tables.Tables.Tables, Faults.first_failed}
use Rattle.adf_partitions.specs.declared.place.PlaceFault.TheVariants.{NoCylinders, BeyondImage, OverTables, OverPartition}
use Rattle.adf_partitions.specs.Places.{do_overlap, end_of, has_cylinders, is_over_tables, partition_place}

-- the drive's name, cut to 31 bytes
abbrev pub name_at : List ℕ → List ℕ
name_at p = take 31 (text_at p DRIVE_NAME)

-- whether it is a name: 1 to 31 bytes, none of them `/` or `:`
abbrev pub has_drive_name : List ℕ → Bool
has_drive_name p = nat_le 1 (slice_index p DRIVE_NAME) && nat_le (slice_index p DRIVE_NAME) 31 && list_all is_name_byte (name_at p)

-- whether a place has a block of another one, if that is one
abbrev pub is_over_place : Place → Result Place PlaceFault → Bool
is_over_place q (Ok r) = do_overlap q r
is_over_place q (Err f) = false

-- whether a place has a block of a partition that has a place
abbrev pub is_over : Place → Partition → Bool
is_over q other = is_over_place q other.place

-- whether a place has a block of one of these partitions that has a place
abbrev pub is_over_earlier : Place → List Partition → Bool
is_over_earlier q earlier = list_any (is_over q) earlier

-- the tests of a partition's place
abbrev pub place_form : ℕ → Tables → List Partition → List ℕ → List (Bool × PlaceFault)
place_form n t earlier p =
    (has_cylinders p, NoCylinders)
    ∷ (nat_le (end_of (partition_place p)) n, BeyondImage)
    ∷ (not (is_over_tables (partition_place p) t), OverTables)
    ∷ (not (is_over_earlier (partition_place p) earlier), OverPartition)
    ∷ []

-- the tests of its other fields, which do not move its place
abbrev pub field_form : List ℕ → List (Bool × FieldFault)
field_form p =
    (nat_le 16 (word p ENV_LENGTH), ShortEnvironment)
    ∷ ((word p ENV_BLOCK_WORDS == 128) && (word p BLOCK_SECTORS == 1), OtherBlocks)
    ∷ (has_drive_name p, BadName)
    ∷ []

-- a place, or what is wrong
abbrev pub place_or_fault : Place → Option PlaceFault → Result Place PlaceFault
place_or_fault q None = Ok q
place_or_fault q (Some f) = Err f

-- the partition of partition block b, after earlier ones
abbrev pub partition_of : ℕ → Tables → List Partition → ℕ → List ℕ → Partition
partition_of n t earlier b p = record {
  block = b;
  name = name_at p;
  flags = word p FLAGS;
  priority = cast_signed w32 (word p BOOT_PRIORITY);
  dos_type = word p DOS_TYPE;
  reserved = word p RESERVED;
  preallocated = word p PREALLOCATED;
  sector_words = word p ENV_BLOCK_WORDS;
  block_sectors = word p BLOCK_SECTORS;
  place = place_or_fault (partition_place p) (first_failed (place_form n t earlier p));
  fault = first_failed (field_form p);
}

-- whether a partition has this name, ignoring case
abbrev pub is_partition_named : List ℕ → Partition → Bool
is_partition_named name partition = bytes_eq (uppers partition.name) (uppers name)

-- the partition with this number, counted from 1
abbrev pub partition_numbered : List Partition → ℕ → Option Partition
partition_numbered ps number = if number == 0 then None else slice_get ps (number - 1)
