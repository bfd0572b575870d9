-- Rescues that are prepared, and what they give.
-- Letters: x one that is ready.
use Rattle.std.proofs.Common.{◌≡◌, ◌∙◌, ◌*◌, ◌<◌, List, length, replicate, subst, sym, ℕ}
use Rattle.std.proofs.lemmas.List.{length-replicate}
use Rattle.std.specs.Prelude.{IfErr, Result, Ok, Err}
use Rattle.adf_volume.specs.declared.types.Types.{Types}
use Rattle.adf_memory.specs.Rescuing.{ExplainsRescue, GivesVolume, IsReadyOf, IsRoomRefusal, IsVolumeOf, sized}
use Rattle.adf_memory.proofs.Filled.{length_filled}
use Rattle.adf_memory.specs.{declared.rescuing.Ready.Ready, declared.rescuing.RescueTold.RescueTold}
use Rattle.adf_memory.specs.declared.rescuing.RescueRefusal.{RescueRefusal}
use Rattle.adf_memory.specs.declared.rescuing.RescueRefusal.TheVariants as refusal

-- boot blocks have as many bytes as they are asked for
pub length_sized : (n : ℕ) (bytes : List ℕ) → length (sized n bytes) ≡ n
length_sized n bytes = length_filled bytes (replicate n 0) ∙ length-replicate n 0

-- a volume that is put into the room is one that a rescue gives
pub volume_given : (types : Types) (image : List ℕ) (x : Ready) (volume : List ℕ) → IsReadyOf types image x
    → IsVolumeOf x.prepared.tree x.prepared.blocks x.boot.items volume → GivesVolume types image volume
volume_given types image x volume ready laid =
    (x.prepared, ready.rescue, subst (λ (boot : List ℕ). IsVolumeOf x.prepared.tree x.prepared.blocks boot volume) ready.boot laid)

-- a room that is refused as small is too small for a volume that a rescue gives
pub room_explained : (types : Types) (image : List ℕ) (x : Ready) (room : ℕ) (result : Result RescueTold RescueRefusal)
    → IsReadyOf types image x → IfErr result (IsRoomRefusal x.prepared.blocks room) → IfErr result (ExplainsRescue types image room)
room_explained types image x room (Ok told) ready h = tt
room_explained types image x room (Err (refusal.Fault f)) ready h = tt
room_explained types image x room (Err (refusal.SmallRoom n)) ready (is, small) =
    (x.prepared, ready.rescue, sym is, subst (λ (m : ℕ). room < m * 512) (sym is) small)
room_explained types image x room (Err refusal.NoMemory) ready h = tt
