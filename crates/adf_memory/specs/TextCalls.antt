-- What the calls promise that write a text into a room.
-- Letters: c a cause; f a fault; old and new the room; n what a call returns.
use Rattle.std.specs.Prelude.{◌≡◌, ◌≤◌, ◌<◌, ◌^◌, ℕ, List, length}
use Rattle.adf_blocks.specs.{Causes.cause_number, Causes.cause_text, declared.cause.Cause.Cause}
use Rattle.adf_names.specs.Escapes.{escaped}
use Rattle.adf_partitions.specs.FaultTexts.{disk_cause_text, field_fault_number, field_fault_text, place_fault_number, place_fault_text}
use Rattle.adf_partitions.specs.{declared.fault.DiskCause.DiskCause, declared.field_fault.FieldFault.FieldFault, declared.place.PlaceFault.PlaceFault}
use Rattle.adf_memory.specs.{DiskTables.IsDiskCause, Rooms.filled}

-- a text is written, as far as there is room, and n is its whole length
pub record WritesText (told old new : List ℕ) (n : ℕ) : Type 0 where
  pub text : new ≡ filled told old
  pub length : n ≡ length told

-- nothing is written
pub record WritesNothing (old new : List ℕ) (n : ℕ) : Type 0 where
  pub none : n ≡ 0
  pub unchanged : new ≡ old

-- adf_escape: the escape form of a name; a name of 2^61 bytes or more has none
pub record WritesEscape (name old new : List ℕ) (n : ℕ) : Type 0 where
  pub escape : length name < 2 ^ 61 → WritesText (escaped name) old new n
  pub long : 2 ^ 61 ≤ length name → WritesNothing old new n

-- adf_cause_text: the text of the cause with this number, if there is one
pub record WritesCause (number : ℕ) (old new : List ℕ) (n : ℕ) : Type 0 where
  pub cause : (c : Cause) → cause_number c ≡ number → WritesText (cause_text c) old new n
  pub other : ((c : Cause) → ¬ (cause_number c ≡ number)) → WritesNothing old new n

-- adf_disk_cause_text: that of what is wrong with the tables of a disk
pub record WritesDiskCause (number : ℕ) (old new : List ℕ) (n : ℕ) : Type 0 where
  pub cause : (c : DiskCause) → IsDiskCause c number → WritesText (disk_cause_text c) old new n
  pub other : ((c : DiskCause) → ¬ IsDiskCause c number) → WritesNothing old new n

-- adf_partition_fault_text: that of what is wrong with the place of a partition, or with its other fields
pub record WritesPartitionFault (number : ℕ) (old new : List ℕ) (n : ℕ) : Type 0 where
  pub place : (f : PlaceFault) → place_fault_number f ≡ number → WritesText (place_fault_text f) old new n
  pub field : (f : FieldFault) → field_fault_number f ≡ number → WritesText (field_fault_text f) old new n
  pub other : ((f : PlaceFault) → ¬ (place_fault_number f ≡ number)) → ((f : FieldFault) → ¬ (field_fault_number f ≡ number))
      → WritesNothing old new n
