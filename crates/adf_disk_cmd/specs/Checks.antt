-- What `check` says of partitions. `bytes` are those of the disk; `sound` says whether a valid volume is there.
use Rattle.std.specs.Prelude.{◌≡◌, ◌+◌, ◌%◌, ◌==◌, ◌&&◌, ◌||◌, ℕ, nat_le, Bool, true, false, List, [], ◌∷◌, Option, None, Some, Result, Ok, Err, string_bytes}
use Rattle.adf_blocks.specs.declared.layout.TheConstants.{MOST_BLOCKS}
use Rattle.adf_partitions.specs.{declared.field_fault.FieldFault.FieldFault, declared.partition.Partition.Partition, declared.place.Place.Place}
use Rattle.adf_partitions.specs.declared.place.PlaceFault.{PlaceFault}
use Rattle.adf_disk_cmd.specs.{Surveys.volume_at, declared.types.TheConstants.DOS}
use Rattle.adf_verdicts.specs.{Verdicts.IsVerdict, declared.verdicts.Verdict.Verdict}
use Rattle.adf_volume.specs.declared.types.Types.TheVariants.{WithInternational}

-- the verdict on a volume, one of types 0 to 5
abbrev pub IsVolumeAnswer : List ℕ → Verdict → Type 0
IsVolumeAnswer image v = IsVerdict WithInternational image v.sound (string_bytes v.line)

-- whether a volume of this type is checked: of `DOS\0` to `DOS\5`, and of 0, which says nothing of the volume
abbrev pub has_checked_type : ℕ → Bool
has_checked_type t = (t == 0) || (nat_le DOS t && nat_le t (DOS + 5))

-- whether nothing is wrong with the fields of a partition
abbrev pub has_sound_fields : Option FieldFault → Bool
has_sound_fields None = true
has_sound_fields (Some f) = false

-- whether the volume of a partition at a place is checked: it has such a type, sound fields, and a size that a volume may have
abbrev pub is_checked : Partition → Place → Bool
is_checked p q = has_checked_type p.dos_type && has_sound_fields p.fault && (p.reserved == 2) && (q.blocks % 2 == 0) && nat_le q.blocks MOST_BLOCKS

-- a volume that is checked is sound or not by a verdict, and another one is not
abbrev pub TellsVolume : List ℕ → (checked sound : Bool) → Type 0
TellsVolume volume true sound = (line : List ℕ) × IsVerdict WithInternational volume sound line
TellsVolume volume false sound = sound ≡ false

-- of a partition that has a place the volume there, and one that has none is not sound
abbrev pub TellsPlace : List ℕ → Partition → Result Place PlaceFault → Bool → Type 0
TellsPlace bytes p (Ok q) sound = TellsVolume (volume_at bytes q) (is_checked p q) sound
TellsPlace bytes p (Err f) sound = sound ≡ false

-- what is said of a partition
abbrev pub TellsPartition : List ℕ → Partition → Bool → Type 0
TellsPartition bytes p sound = TellsPlace bytes p p.place sound

-- whether all partitions are sound
unfoldable pub AreChecked : List ℕ → List Partition → Bool → Type 0
AreChecked bytes [] sound = sound ≡ true
AreChecked bytes (p ∷ ps) sound = (one others : Bool) × TellsPartition bytes p one × AreChecked bytes ps others × (sound ≡ (one && others))
