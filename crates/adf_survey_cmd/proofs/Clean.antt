-- An input with which nothing is wrong.
use Rattle.std.proofs.Common.{◌≡◌, ℕ, Bool, true, false, List, [], ◌∷◌, ◌==◌, arith, length, map, refl, subst, suc, sym}
use Rattle.std.proofs.lemmas.Bool.{eqb-true}
use Rattle.adf_volume.specs.Walk.{Walk}
use Rattle.adf_findings.specs.Survey.{FindingValue, IsSurvey, OnSurvey}
use Rattle.adf_findings.specs.{Parts.finding_value, declared.finding.Finding.Finding}
use Rattle.adf_survey_cmd.specs.{Answer.status_by, Judged.HasNoFinding}

-- at status 0 an answer is clean
pub clean_status : (clean : Bool) (errors : List ℕ) → status_by clean errors ≡ 0 → clean ≡ true
clean_status true errors zero = refl
clean_status false errors zero = absurd (cc)

-- a survey without findings
pub none_found : (image input : List ℕ) → image ≡ input → ((x : List ℕ) → (w : Walk) × (fs : List FindingValue) × IsSurvey x w fs)
    → OnSurvey image (λ _ fs. fs ≡ []) → HasNoFinding input
none_found image input is some none =
    let (w, fs, survey) = some image in
    let empty : fs ≡ [] = none w fs survey in
    (w, subst (λ (x : List ℕ). IsSurvey x w []) is (subst (λ (gs : List FindingValue). IsSurvey image w gs) empty survey))

-- no finding
pub none_of : (xs : List Finding) (fs : List FindingValue) → map finding_value xs ≡ fs → (length xs == 0) ≡ true → fs ≡ []
none_of [] fs told empty = sym told
none_of (x ∷ xs) fs told empty = let zero : suc (length xs) ≡ 0 = eqb-true _ _ empty in absurd (omega arith)
