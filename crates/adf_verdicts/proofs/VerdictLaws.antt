-- Verdicts of images with and without directory caches.
use Rattle.std.proofs.Common.{◌≡◌, ◌≢◌, List, ℕ, true, false, Result, Ok, Err, IfOk, string_bytes, subst, sym}
use Rattle.adf_blocks.specs.declared.cause.Cause.TheVariants.{NoMemory}
use Rattle.adf_volume.specs.{declared.fault.Fault.Fault, declared.types.Types.Types, declared.types.Types.TheVariants.Plain}
use Rattle.adf_volume.specs.declared.types.Types.TheVariants.{WithInternational}
use Rattle.adf_texts.specs.Lines.{fault_line}
use Rattle.adf_verdicts.specs.{Verdicts.HasFirstFault, Verdicts.IsOkLine, Verdicts.IsValid, Verdicts.IsVerdict, Verdicts.takes_caches}
use Rattle.adf_verdicts.specs.declared.verdicts.Verdict.{Verdict}

-- an acceptance of a valid image is the verdict
pub accepted_is : (types : Types) (image : List ℕ) {E : Type 0} (r : Result Verdict E) → IsValid types image → IfOk r (λ v. v.sound ≡ true)
    → IfOk r (λ v. IsOkLine (string_bytes v.line)) → IfOk r (λ v. IsVerdict types image v.sound (string_bytes v.line))
accepted_is types image (Ok v) valid sound line = subst (λ s. IsVerdict types image s (string_bytes v.line)) (sym sound) (valid, line)
accepted_is types image (Err e) valid sound line = tt

-- a refusal by the first fault is the verdict
pub refused_is : (types : Types) (image : List ℕ) (f : Fault) {E : Type 0} (r : Result Verdict E) → IfOk r (λ v. v.sound ≡ false)
    → IfOk r (λ _. f.cause ≢ NoMemory) → IfOk r (λ v. string_bytes v.line ≡ fault_line f) → (f.cause ≢ NoMemory → HasFirstFault types image f)
    → IfOk r (λ v. IsVerdict types image v.sound (string_bytes v.line))
refused_is types image f (Ok v) refused told line first =
    subst (λ s. IsVerdict types image s (string_bytes v.line)) (sym refused) (f, first told, line)
refused_is types image f (Err e) refused told line first = tt

-- an image with caches is judged alike by the types that accept it
pub cached_is : (types : Types) (image : List ℕ) {E : Type 0} (r : Result Verdict E) → takes_caches types image ≡ true
    → IfOk r (λ v. IsVerdict WithInternational image v.sound (string_bytes v.line))
    → IfOk r (λ v. IsVerdict types image v.sound (string_bytes v.line))
cached_is Plain image r takes h = cc
cached_is WithInternational image r takes h = h
