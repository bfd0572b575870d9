-- What is told of a rescue, and put into rooms.
-- Letters: f a fault; n a number of blocks; boot the boot blocks of the input; p a prepared rescue, x one that is ready.
use Rattle.std.specs.Prelude.{◌≡◌, ◌≤◌, ◌<◌, ◌+◌, ◌*◌, ◌⊎◌, ℕ, All, List, false, length, replicate}
use Rattle.adf_tree.specs.Tree.{Tree}
use Rattle.adf_blocks.specs.{Causes.cause_number, Sizes.blocks}
use Rattle.adf_boot_blocks.specs.{Writing.restored, declared.boot.TheConstants.BOOT_LEN}
use Rattle.adf_build.specs.{Building.IsBuildable, Laid.IsLaid}
use Rattle.adf_judge.specs.declared.judgement.{Claim.Claim, DeletedHeader.DeletedHeader, Reading.Reading}
use Rattle.adf_keep.specs.{Rescued.IsRescued, Rescued.IsOwnTree, declared.prepared.Prepared.Prepared}
use Rattle.adf_volume.specs.declared.types.Types.{Types}
use Rattle.adf_memory.specs.{Rooms.BeginsWith, Rooms.HasRows, Rooms.filled, declared.losses.TableLoss.TableLoss, declared.rescuing.Ready.Ready}
use Rattle.adf_memory.specs.{declared.losses.LossTable.LossTable, declared.rescuing.RescueRefusal.RescueRefusal, declared.rescuing.RescueTold.RescueTold}
use Rattle.adf_memory.specs.declared.rescuing.RescueRefusal.TheVariants as refusal

-- so many bytes of an input, with zeros behind what it has
abbrev pub sized : ℕ → List ℕ → List ℕ
sized n bytes = filled bytes (replicate n 0)

-- a rescue of an image is prepared: it is accepted, and the rescue has its tree; or the rescue has what the keeper keeps of what is said to exist on it
abbrev pub IsRescueOf : Types → List ℕ → Prepared → Type 0
IsRescueOf types image p = IsOwnTree types image p
    ⊎ ((reading : Reading) × (claims : List Claim) × (deleted : List DeletedHeader)
    × IsRescued image reading claims deleted (record { types = types; with_deleted = false }) p)

-- a rescue is ready: it has room in its blocks, and has the boot blocks of the image
pub record IsReadyOf (types : Types) (image : List ℕ) (x : Ready) : Type 0 where
  pub rescue : IsRescueOf types image x.prepared
  pub room : IsBuildable x.prepared.tree x.prepared.blocks
  pub boot : x.boot.items ≡ sized BOOT_LEN image

-- the volume of a tree in n blocks, with these boot blocks put into it
abbrev pub IsVolumeOf : Tree → ℕ → (boot : List ℕ) → List ℕ → Type 0
IsVolumeOf t n boot image = (volume : List ℕ) × IsLaid volume t × (blocks volume ≡ n) × (image ≡ restored volume boot) × (blocks image ≡ n)

-- a rescue of an image gives this volume
abbrev pub GivesVolume : Types → (image volume : List ℕ) → Type 0
GivesVolume types image volume =
    (p : Prepared) × IsRescueOf types image p × IsVolumeOf p.tree p.blocks (sized BOOT_LEN image) volume

-- each path is within the text of all paths, which has so many bytes
abbrev pub IsPathWithin : ℕ → TableLoss → Type 0
IsPathWithin count row = row.path + row.path_length ≤ count

-- so are those of a table
abbrev pub ArePathsWithin : LossTable → Type 0
ArePathsWithin table = All (IsPathWithin (length table.paths.items)) table.rows.items

-- the rooms begin with a volume that is given, and with as many rows and bytes of paths as are told, and are otherwise as they were
pub record HasRescue (given : List ℕ → Type 0) (old new : List ℕ) (old_rows new_rows : List TableLoss) (old_paths new_paths : List ℕ)
    (told : RescueTold) : Type 0 where
  pub volume : List ℕ
  pub is_given : given volume
  pub size : told.blocks ≡ blocks volume
  pub room : new ≡ filled volume old
  pub rows : BeginsWith (IsPathWithin told.paths) told.losses old_rows new_rows
  pub paths : HasRows told.paths old_paths new_paths

-- the volume of a tree in n blocks is not laid: the room is smaller than n blocks; or memory is refused
abbrev pub IsRoomRefusal : ℕ → (room : ℕ) → RescueRefusal → Type 0
IsRoomRefusal n room (refusal.Fault f) = ⊥
IsRoomRefusal n room (refusal.SmallRoom told) = (told ≡ n) × (room < n * 512)
IsRoomRefusal n room refusal.NoMemory = Unit {0}

-- why no volume is written: nothing exists, and the image has a fault; a rescue of it has n blocks, and the room is smaller; or memory is refused
abbrev pub ExplainsRescue : Types → List ℕ → (room : ℕ) → RescueRefusal → Type 0
ExplainsRescue types image room (refusal.Fault f) = Unit {0}
ExplainsRescue types image room (refusal.SmallRoom n) = (p : Prepared) × IsRescueOf types image p × (p.blocks ≡ n) × (room < n * 512)
ExplainsRescue types image room refusal.NoMemory = Unit {0}

-- the number of a refusal
abbrev pub rescue_number : RescueRefusal → ℕ
rescue_number (refusal.Fault f) = cause_number f.cause
rescue_number (refusal.SmallRoom n) = 24
rescue_number refusal.NoMemory = 23

-- what is told of a refusal beside its number
abbrev pub rescue_told : RescueRefusal → RescueTold
rescue_told (refusal.Fault f) = record { losses = 0; paths = 0; blocks = 0; block = f.block }
rescue_told (refusal.SmallRoom n) = record { losses = 0; paths = 0; blocks = n; block = 0 }
rescue_told refusal.NoMemory = record { losses = 0; paths = 0; blocks = 0; block = 0 }
