-- Volumes of rescues, with the boot blocks that are put into them.
-- Letters: p a prepared rescue; volume what is laid, boot the boot blocks of the input; r an inquiry; n a status.
use Rattle.std.proofs.Common.{◌≡◌, ◌≢◌, ◌∙◌, ◌++◌, ◌+◌, ◌-◌, ◌*◌, ◌<◌, ◌≤◌, ℕ, List, [], true, false, inl, inr, ap, ap₂, arith, append-nil, length, min, replicate, subst, sym, take}
use Rattle.std.proofs.Common.{length-append, length-take}
use Rattle.std.specs.List.{All}
use Rattle.std.proofs.lemmas.Bool.{cases_lt}
use Rattle.std.proofs.lemmas.List.{length-replicate, take_all}
use Rattle.std.proofs.lemmas.List.Elements.{All-get_or}
use Rattle.adf_tree.specs.Tree.{Tree}
use Rattle.adf_blocks.specs.{Sizes.blocks, declared.layout.TheConstants.MOST_BLOCKS}
use Rattle.adf_volume.specs.{Fits.FitsBy, Layout.Layout}
use Rattle.adf_boot_blocks.specs.{BootBlocks.begins_with_dos, Writing.HasBootOf, Writing.restored, declared.boot.TheConstants.BOOT_LEN}
use Rattle.adf_boot_blocks.proofs.CarrySums.{AreBytes}
use Rattle.adf_boot_blocks.proofs.Restored.{front_are_bytes, front_begins, has_front, restored_fits, volume_has_boot}
use Rattle.adf_build.specs.{Plan.planned}
use Rattle.adf_build.proofs.LaidFits.{laid_fits}
use Rattle.adf_keep.specs.declared.prepared.Prepared.{Prepared}
use Rattle.adf_survey_cmd.specs.Answers.{PromisesOf}
use Rattle.adf_survey_cmd.specs.CommandLine.{InquiryValue, rescue}
use Rattle.adf_survey_cmd.specs.Rescue.{IsLaidFor, boot_of}
use Rattle.adf_survey_cmd.specs.declared.command_line.RescueWish.{RescueWish}

-- the boot blocks of an input have their length
pub boot_long : (input : List ℕ) → BOOT_LEN ≤ length (boot_of input)
boot_long input =
    omega (
      arith,
      length-append (take BOOT_LEN input) (replicate (BOOT_LEN - length input) 0),
      length-take BOOT_LEN input,
      length-replicate {A = ℕ} (BOOT_LEN - length input) 0,
    )

-- those of an input that has them
boot_is : (input : List ℕ) → BOOT_LEN ≤ length input → boot_of input ≡ take BOOT_LEN input
boot_is input long =
    let none : BOOT_LEN - length input ≡ 0 = omega (arith, long) in
    ap (λ n. take BOOT_LEN input ++ replicate n 0) none ∙ append-nil (take BOOT_LEN input)

-- the front of an input that may be shorter
pub front_is : (bytes : List ℕ) (n m : ℕ) → n ≡ min (length bytes) m → take n bytes ≡ take m bytes
front_is bytes n m is = elim (cases_lt (length bytes) m) [
  | inl short ↦ take_all n bytes (omega (arith, is)) ∙ sym (take_all m bytes (omega arith))
  | inr long ↦ let same : n ≡ m = omega (arith, is) in ap (λ (k : ℕ). take k bytes) same
]

-- the boot blocks that are put together from a front and zeros
pub boot_put : (input : List ℕ) (kept : ℕ) → kept ≡ min (length input) BOOT_LEN → take kept input ++ replicate (BOOT_LEN - kept) 0 ≡ boot_of input
boot_put input kept is =
    let few : BOOT_LEN - kept ≡ BOOT_LEN - length input = omega (arith, is) in
    ap₂ (λ (xs : List ℕ) (m : ℕ). xs ++ replicate m 0) (front_is input kept BOOT_LEN is) few

-- an image fits a tree
abbrev pub FitsSome : List ℕ → Type 0
FitsSome image = (t : Tree) × (l : Layout) × FitsBy t.letters image t l

-- what is laid fits the tree
pub laid_some : (p : Prepared) (input image : List ℕ) → IsLaidFor p input image → FitsSome image
laid_some p input image is =
    let l : Layout = planned p.tree (blocks is.volume) in (
      p.tree,
      l,
      subst (λ (x : List ℕ). FitsBy p.tree.letters x p.tree l) (sym is.is)
          (restored_fits is.volume (boot_of input) p.tree l (laid_fits is.volume p.tree is.laid) (boot_long input)),
    )

-- and has the boot blocks of the input
pub laid_boot : (p : Prepared) (input image : List ℕ) → IsLaidFor p input image → BOOT_LEN ≤ length input → AreBytes input
    → begins_with_dos input ≡ true → HasBootOf input image
laid_boot p input image is long bytes begins =
    let front : List ℕ = take BOOT_LEN input in
    let size : BOOT_LEN ≤ length front = omega (arith, length-take BOOT_LEN input) in
    let l : Layout = planned p.tree (blocks is.volume) in
    let put : HasBootOf input (restored is.volume front) =
    has_front input (restored is.volume front)
    (volume_has_boot is.volume front p.tree l (laid_fits is.volume p.tree is.laid) size (front_are_bytes input bytes) (front_begins input ∙ begins)) in
    subst (HasBootOf input) (sym is.is) (subst (λ (bs : List ℕ). HasBootOf input (restored is.volume bs)) (sym (boot_is input long)) put)

-- what a rescue without links writes is laid
pub rescue_laid : (r : InquiryValue) (wish : RescueWish) (input : List ℕ) (n : ℕ) (output : List ℕ) → PromisesOf (rescue wish) r input n output
    → wish.with_links ≡ false → output ≢ [] → (p : Prepared) × IsLaidFor p input output
rescue_laid r wish input n output (inl whole) none some = (whole.prepared, whole.laid)
rescue_laid r wish input n output (inr (inl refusal)) none some = absurd (some refusal.nothing)
rescue_laid r wish input n output (inr (inr kept)) none some =
    (kept.prepared, subst (λ (x : List ℕ). IsLaidFor kept.prepared input x) (sym (kept.gives.alone none)) kept.gives.laid)

pub are_bytes : (bs : List ℕ) → All (λ byte. byte < 256) bs → AreBytes bs
are_bytes bs all k lt = All-get_or (λ byte. byte < 256) bs k 0 lt all

-- the front of an input that is no longer than the largest image
pub front_all : (input : List ℕ) → length input ≤ 512 * MOST_BLOCKS → take (512 * MOST_BLOCKS + 1) input ≡ input
front_all input short = take_all (512 * MOST_BLOCKS + 1) input (omega (arith, short))
