-- The entries kept for the findings are those that they concern.
use Rattle.std.specs.{Prelude.Some, Prelude.None, Prelude.is_some, Prelude.map, Prelude.slice_get, Option.option_and_then, Option.option_flatten}
use Rattle.std.proofs.Common.{◌≡◌, ℕ, zero, suc, List, [], ◌∷◌, ◌++◌, Option, inl, inr, refl, sym, ap, ◌∙◌, arith}
use Rattle.std.proofs.lemmas.Grind.{common_steps}
use Rattle.adf_volume.specs.{Lists.In, Walk.Lacks, Walk.Walk, Walk.Role.Head}
use Rattle.adf_findings.specs.{declared.found.Found.Found, declared.concern.Concern.Concern, declared.finding.Finding.Finding, Concerned.concern_of_nth}
use Rattle.adf_findings.specs.{Concerned.concern_with, Found.Stands, Members.at_role, Marks.blamed, Marks.is_header, Parts.part_role, Parts.finding_value}
use Rattle.adf_findings.specs.Survey.{BitsTell, Course, FindingValue, IsCourse}
use Rattle.adf_findings.proofs.{HeadPlaces.header_found, RoleBlocks.at_lacks, RoleBlocks.taken_at, OneSurvey.gathered}
use Rattle.adf_findings.proofs.SoundMarks.{apart, in_values, skipped_header, settled}

-- what holds of each finding holds at each place
at_places : (g : Finding → Option Concern) (h : FindingValue → Option Concern) (xs : List Finding)
    → ((x : Finding) → In xs x → g x ≡ h (finding_value x)) → (k : ℕ)
    → option_flatten (slice_get (map g xs) k) ≡ option_and_then h (slice_get (map finding_value xs) k)
at_places g h [] e k = refl
at_places g h (x ∷ xs) e zero = e x (inl refl)
at_places g h (x ∷ xs) e (suc k) = at_places g h xs (λ y i. e y (inr i)) k

module _ (image : List ℕ) (f : Found) {s : Course} (v : IsCourse image s) (bits : List FindingValue) {b n : ℕ} (tells : BitsTell image s b n bits)
    (st : Stands image f s) where
  -- a header of a finding is found by its number where the walk has one at its place
  header_is : (g : FindingValue) (n p t j : ℕ) → In (s.findings ++ bits) g → g.part ≡ Some (Head n p t j)
      → is_header f n p t j ≡ is_some (at_role s.walk (Head n p t j))
  header_is g n p t j i e = elim (settled image v bits tells g (Head n p t j) i e) [
    | inl x ↦
        header_found image f _ (gathered image v) st n p t j x.0 x.1
        ∙ sym (ap is_some (taken_at image s.walk (gathered image v) (Head n p t j) x.0 x.1))
    | inr x ↦
        let lacks : Lacks s.walk (Head n p t j) = (λ q c h same. apart image v q (Head n p t j) c x.0 h x.1 same) in
        skipped_header image f v st n p t j x.0 x.1 ∙ sym (ap is_some (at_lacks s.walk (Head n p t j) lacks))
  ]

  -- what a finding concerns is told of the walk
  blamed_is : (x : Finding) → In (s.findings ++ bits) (finding_value x) → blamed f x.part ≡ option_and_then (concern_with s.walk) (part_role x.part)
  blamed_is x i = grind (arith, common_steps, header_is)

  -- of what is found
  pub concerned_kept : (xs : List Finding) → map finding_value xs ≡ s.findings ++ bits → (k : ℕ)
      → option_flatten (slice_get (map (λ x. blamed f x.part) xs) k) ≡ concern_of_nth s.walk (s.findings ++ bits) k
  concerned_kept xs told k = grind (arith, common_steps, at_places, blamed_is, in_values)

-- findings of no part concern nothing
pub no_concern_nth : (w : Walk) (fs : List FindingValue) (k : ℕ) → ((f : FindingValue) → In fs f → f.part ≡ None)
    → concern_of_nth w fs k ≡ None
no_concern_nth w [] k h = refl
no_concern_nth w (f ∷ fs) zero h = ap (option_and_then (concern_with w)) (h f (inl refl))
no_concern_nth w (f ∷ fs) (suc k) h = no_concern_nth w fs k (λ g i. h g (inr i))
