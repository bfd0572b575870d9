-- What a rescue writes.
-- Letters: p a prepared rescue; volume what is laid, boot the boot blocks of the input; v the volume before links and caches; n a status.
use Rattle.std.proofs.Common.{◌≡◌, ℕ, Bool, false, List, [], Result, Ok, Err, inl, inr, subst}
use Rattle.std.specs.Prelude.{IfOk}
use Rattle.adf_base.specs.declared.NoMemory.{NoMemory}
use Rattle.adf_blocks.specs.Sizes.{blocks}
use Rattle.adf_boot_blocks.specs.Writing.{restored}
use Rattle.adf_build.specs.Laid.{IsLaid}
use Rattle.adf_judge.specs.declared.judgement.{Claim.Claim, DeletedHeader.DeletedHeader, Reading.Reading}
use Rattle.adf_keep.specs.{Rescued.IsRescued, Rescued.IsOwnTree, declared.prepared.Prepared.Prepared}
use Rattle.adf_volume.specs.declared.types.Types.{Types}
use Rattle.adf_survey_cmd.specs.Rescue.{WritesRescue, IsLaidFor, IsRescue, IsWholeRescue, MayHaveAll, NoneLeftOut, boot_of, terms_of}
use Rattle.adf_survey_cmd.specs.{Answer.answer_status, declared.answer.Answer.Answer, declared.command_line.RescueWish.RescueWish}

-- what is laid with boot blocks
abbrev pub IsLaidWith : Prepared → (boot image : List ℕ) → Type 0
IsLaidWith p boot image = (volume : List ℕ) × IsLaid volume p.tree × (blocks volume ≡ p.blocks) × (image ≡ restored volume boot)

pub laid_for : (p : Prepared) (input boot image : List ℕ) → boot ≡ boot_of input → IsLaidWith p boot image → IsLaidFor p input image
laid_for p input boot image same (volume, laid, size, is) =
    record { volume = volume; laid = laid; size = size; is = subst (λ (b : List ℕ). image ≡ restored volume b) same is }

pub whole_rescue : (types : Types) (p : Prepared) (input image boot output : List ℕ) → IsOwnTree types image p → boot ≡ boot_of input
    → IsLaidWith p boot output → IsWholeRescue types input image output
whole_rescue types p input image boot output whole same laid =
    record { prepared = p; whole = whole; laid = laid_for p input boot output same laid }

pub gives_volume : (with_links : Bool) (p : Prepared) (input boot v output : List ℕ) → boot ≡ boot_of input → IsLaidWith p boot v
    → (with_links ≡ false → output ≡ v) → MayHaveAll input boot v output → WritesRescue with_links p input output
gives_volume with_links p input boot v output same laid alone all = record {
  volume = v;
  laid = laid_for p input boot v same laid;
  alone = alone;
  all = subst (λ (b : List ℕ). MayHaveAll input b v output) same all;
}

pub kept_rescue : (wish : RescueWish) (p : Prepared) (reading : Reading) (claims : List Claim) (deleted : List DeletedHeader) (input : List ℕ) (n : ℕ) (output : List ℕ)
    → IsRescued input reading claims deleted (terms_of wish) p → WritesRescue wish.with_links p input output → (n ≡ 0 → NoneLeftOut p)
    → IsRescue wish input n output
kept_rescue wish p reading claims deleted input n output rescued gives complete =
    inr (record { reading = reading; claims = claims; deleted = deleted; prepared = p; rescued = rescued; gives = gives; complete = complete })

pub refused_rescue : (wish : RescueWish) (input : List ℕ) (n : ℕ) (output : List ℕ) → (output ≡ []) × (n ≡ 1) → IsRescue wish input n output
refused_rescue wish input n output h = inl (record { status = h.1; nothing = h.0 })

-- the rescue of what is judged, where what is kept is laid
pub kept_of : (r : Result Answer NoMemory) (wish : RescueWish) (p : Prepared) (reading : Reading) (claims : List Claim) (deleted : List DeletedHeader) (input : List ℕ)
    → IsRescued input reading claims deleted (terms_of wish) p → IfOk r (λ a. WritesRescue wish.with_links p input a.output.items)
    → IfOk r (λ a. answer_status a ≡ 0 → NoneLeftOut p) → IfOk r (λ a. IsRescue wish input (answer_status a) a.output.items)
kept_of (Ok a) wish p reading claims deleted input rescued gives complete = kept_rescue wish p reading claims deleted input _ _ rescued gives complete
kept_of (Err e) wish p reading claims deleted input rescued gives complete = tt
