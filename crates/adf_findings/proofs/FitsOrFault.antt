-- Every image is that of a volume, or has a first fault. w is the walk of its survey, fs its findings.
use Rattle.std.proofs.Common.{ℕ, List, [], ◌∷◌, ◌++◌, inl, inr, append-nil, refl, subst}
use Rattle.std.proofs.lemmas.Bool.{cases_lt}
use Rattle.adf_blocks.specs.{Sizes.blocks, declared.cause.Cause.TheVariants.BadSize}
use Rattle.adf_volume.specs.{Made.layout_in, Made.tree_in_by, Walk.Walk, Types.letters_for, Types.most_blocks}
use Rattle.adf_volume.specs.declared.types.Types.{Types, TheVariants.Plain}
use Rattle.adf_findings.proofs.{FirstFindings.first_finding, FirstFindings.none_found, FirstFindings.shown, SomeSurvey.some_survey, TypesRead.types_read}
use Rattle.adf_findings.specs.{Survey.FindingValue, Survey.IsSurvey, Types.passed, Verdict.FitsOrHasFault, Verdict.FitsOrHasFaultBy, Verdict.FitsOrHasFaultOf}

pub fits_or_fault_by : (types : Types) (image : List ℕ) → FitsOrHasFaultBy types image
fits_or_fault_by types image =
    let (w, fs, v) = some_survey image in
    let (rest, is, k) = shown image (letters_for types image) (passed types image) (types_read image types) v in
    by_findings w rest (subst (IsSurvey image w) is v)
  where
    by_findings : (w : Walk) (rest : List FindingValue) → IsSurvey image w (passed types image ++ rest) → FitsOrHasFaultBy types image
    by_findings w [] v =
        inl (
          tree_in_by (letters_for types image) image w,
          layout_in w,
          none_found image (letters_for types image) (passed types image) (types_read image types) w
              (subst (IsSurvey image w) (append-nil (passed types image)) v),
        )
    by_findings w (f ∷ fs) v =
        inr (f.block, f.cause, first_finding image (letters_for types image) (passed types image) (types_read image types) w f fs v)

pub fits_or_fault_of : (types : Types) (image : List ℕ) → FitsOrHasFaultOf types image
fits_or_fault_of types image =
    elim (cases_lt (most_blocks types) (blocks image)) [
      | inl large ↦ inr (0, BadSize, inl (large, refl, refl))
      | inr few ↦ elim (fits_or_fault_by types image) [
        | inl fits ↦ inl (fits.0, fits.1, (few, fits.2))
        | inr fault ↦ inr (fault.0, fault.1, inr (few, fault.2))
      ]
    ]

pub fits_or_fault : (image : List ℕ) → FitsOrHasFault image
fits_or_fault image = fits_or_fault_of Plain image
