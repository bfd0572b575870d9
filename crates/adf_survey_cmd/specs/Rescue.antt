-- What a rescue writes.
-- Letters: p a prepared rescue, n a status; volume what is laid, boot the boot blocks of the input.
use Rattle.std.specs.Prelude.{◌≡◌, ◌⊎◌, ◌++◌, ◌-◌, ℕ, Bool, true, false, List, [], length, replicate, take}
use Rattle.adf_blocks.specs.Sizes.{blocks}
use Rattle.adf_boot_blocks.specs.{Writing.restored, declared.boot.TheConstants.BOOT_LEN}
use Rattle.adf_build.specs.Laid.{IsLaid}
use Rattle.adf_cache_laying.specs.LaidCaches.{HasCaches}
use Rattle.adf_judge.specs.declared.judgement.{Claim.Claim, DeletedHeader.DeletedHeader, Reading.Reading}
use Rattle.adf_base.specs.declared.hash.Letters.{Letters}
use Rattle.adf_keep.specs.{Links.AreLaid, Rescued.IsRescued, Rescued.IsOwnTree, declared.links.Linked.Linked, declared.links.WantedLink.WantedLink}
use Rattle.adf_keep.specs.{declared.prepared.Prepared.Prepared, declared.prepared.RescueTerms.RescueTerms}
use Rattle.adf_uncached.specs.Uncached.{is_cached}
use Rattle.adf_volume.specs.declared.types.Types.{Types}
use Rattle.adf_survey_cmd.specs.declared.command_line.RescueWish.{RescueWish}

-- what the keeper is asked for
abbrev pub terms_of : RescueWish → RescueTerms
terms_of wish = record { types = wish.types; with_deleted = wish.with_deleted }

-- the boot blocks of an input, with zeros for what it does not hold
abbrev pub boot_of : List ℕ → List ℕ
boot_of input = take BOOT_LEN input ++ replicate (BOOT_LEN - length input) 0

-- the keeper left nothing out
pub record NoneLeftOut (p : Prepared) : Type 0 where
  pub claims : p.left_out.items ≡ []
  pub deleted : p.deleted_out.items ≡ []

-- an image is the volume that is laid for a prepared rescue, with the boot blocks of the input put into it
pub record IsLaidFor (p : Prepared) (input image : List ℕ) : Type 0 where
  pub volume : List ℕ
  pub laid : IsLaid volume p.tree
  pub size : blocks volume ≡ p.blocks
  pub is : image ≡ restored volume (boot_of input)

-- an image is a volume with links that are wanted and nothing else beside it, or that volume
abbrev pub MayHaveLinks : (volume image : List ℕ) → Type 0
MayHaveLinks volume image =
    ((letters : Letters) × (wanted : List WantedLink) × (l : Linked) × AreLaid volume letters wanted l × (image ≡ l.image.items)) ⊎ (image ≡ volume)

-- an image is a volume with directory caches, since the input has them, and these boot blocks; or that volume
abbrev pub MayHaveCaches : (input boot volume image : List ℕ) → Type 0
MayHaveCaches input boot volume image = ((is_cached input ≡ true) × HasCaches volume boot image) ⊎ (image ≡ volume)

-- an image is a volume with both
abbrev pub MayHaveAll : (input boot volume image : List ℕ) → Type 0
MayHaveAll input boot volume image = (linked : List ℕ) × MayHaveLinks volume linked × MayHaveCaches input boot linked image

-- what is written is the volume that is laid for a prepared rescue, where it is asked for with links and caches
pub record WritesRescue (with_links : Bool) (p : Prepared) (input output : List ℕ) : Type 0 where
  pub volume : List ℕ
  pub laid : IsLaidFor p input volume
  pub alone : with_links ≡ false → output ≡ volume
  pub all : MayHaveAll input (boot_of input) volume output

-- what is written is the volume of the tree of an image that is accepted
pub record IsWholeRescue (types : Types) (input image output : List ℕ) : Type 0 where
  pub prepared : Prepared
  pub whole : IsOwnTree types image prepared
  pub laid : IsLaidFor prepared input output

-- what is written is the volume of what the keeper kept of claims, whatever these are; at status 0 nothing is left out
pub record IsKeptRescue (wish : RescueWish) (input : List ℕ) (n : ℕ) (output : List ℕ) : Type 0 where
  pub reading : Reading
  pub claims : List Claim
  pub deleted : List DeletedHeader
  pub prepared : Prepared
  pub rescued : IsRescued input reading claims deleted (terms_of wish) prepared
  pub gives : WritesRescue wish.with_links prepared input output
  pub complete : n ≡ 0 → NoneLeftOut prepared

-- nothing is written, at status 1
pub record IsRefusal (n : ℕ) (output : List ℕ) : Type 0 where
  pub status : n ≡ 1
  pub nothing : output ≡ []

-- a rescue of what is judged is refused, or is what the keeper kept
abbrev pub IsRescue : RescueWish → (input : List ℕ) → (n : ℕ) → (output : List ℕ) → Type 0
IsRescue wish input n output = IsRefusal n output ⊎ IsKeptRescue wish input n output
