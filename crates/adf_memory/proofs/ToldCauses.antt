-- What a number tells of a check.
-- Letters: b a block; n the number.
use Rattle.std.proofs.Common.{◌≡◌, ◌≢◌, ℕ, List, ◌∙◌, ap, arith, sym, inr}
use Rattle.std.proofs.lemmas.Grind.{common_steps}
use Rattle.adf_blocks.specs.{Causes.cause_number, declared.cause.Cause.Cause, declared.cause.Cause.TheVariants.NoMemory}
use Rattle.adf_tree.specs.Tree.{Tree}
use Rattle.adf_volume.specs.{Fits.FitsOf, Layout.Layout, Start.IsBegunOf, Walk.FirstFaultOf, declared.types.Types.Types}
use Rattle.adf_memory.specs.{CheckCalls.IsCheckedOf, Verdicts.WantsMemory}

-- no cause has the number 0
pub some_number : (cause : Cause) → cause_number cause ≡ 0 → ⊥
some_number cause zero = grind (arith, common_steps)

-- a number is that of one cause
pub same_cause : (c d : Cause) → cause_number c ≡ cause_number d → c ≡ d
same_cause c d is = grind (arith, common_steps)

-- a check that refuses an image at a block answers the number of the cause
pub refusal_told : {types : Types} (image : List ℕ) (cause : Cause) (b n : ℕ) → n ≡ cause_number cause
    → (cause ≢ NoMemory → FirstFaultOf types image b cause) → (cause ≢ NoMemory → (t : Tree) (l : Layout) → FitsOf types image t l → ⊥)
    → (cause ≡ NoMemory → b ≡ 0) → (cause ≡ NoMemory → IsBegunOf types image) → IsCheckedOf types image b n
refusal_told {types} image cause b n is fault nothing zero start =
    let wants : WantsMemory n → cause ≡ NoMemory = λ e. same_cause cause NoMemory (sym is ∙ e) in
    let other : ¬ WantsMemory n → cause ≢ NoMemory = λ no e. no (is ∙ ap cause_number e) in
    record {
      number = inr (cause, sym is);
      fits = λ e. absurd (some_number cause (sym is ∙ e));
      first = λ some no. (cause, sym is, fault (other no));
      none = λ some no. nothing (other no);
      memory = λ e. zero (wants e);
      begun = λ e. start (wants e);
    }
