-- An image has at most one survey.
use Rattle.std.proofs.Common.{None, ◌≡◌, ℕ, suc, List, ◌∷◌, ◌++◌, ◌+◌, ◌<◌, length, refl, sym, subst, ◌∙◌, arith}
use Rattle.std.proofs.lemmas.Grind.{common_steps}
use native.Mathlib.Decide.{dec_lt}
use Rattle.adf_volume.specs.{Image.word_in, Demands.Demand, Walk.Role, Walk.Same, Walk.Asks, Walk.bitmap_demands, Walk.Walk}
use Rattle.adf_volume.proofs.{Lists.fails_not_all, OneFault.fails_one, OneFault.neither_before, OneFault.number_is, Roles.same_role}
use Rattle.adf_findings.specs.{Demands.demands_in, Survey.JudgementValue.clean, Survey.JudgementValue.skipped, Survey.IsCourse.start, Survey.IsCourse.step}
use Rattle.adf_findings.specs.Survey.{FindingValue, finding, JudgementValue, Judged, begun, Course, after, IsNext, IsCourse, IsDone, BitsTell, IsSurvey}
use Rattle.adf_findings.specs.Survey.BitsTell.{ends, agrees, differs}
use Rattle.adf_volume.proofs.Gathered.{IsGathered, asks_one, IsGathered.start as gathered_start, IsGathered.step as gathered_step}
use Rattle.adf_findings.proofs.Starts.{boot_one, boot_told, not_unread, root_one, root_told, unread_one}

-- a part is judged in one way
judged_one : (r : Role) (xs : List Demand) (j k : JudgementValue) → Judged r xs j → Judged r xs k → j ≡ k
judged_one r xs j k h l = grind (arith, common_steps, fails_not_all, fails_one)

module _ (image : List ℕ) where
  -- the walk of a course was gathered
  came : (s : Course) (r : Role) (a i : ℕ) (j : JudgementValue) → IsGathered image s.walk → IsNext image s r a i
      → IsGathered image (after s r (word_in image a i) j).walk
  came s r a i (skipped at c) v n = v
  came s r a i _ v n = gathered_step a i (word_in image a i) v n.asked n.lacks

  pub gathered : {s : Course} → IsCourse image s → IsGathered image s.walk
  gathered (start b t) = gathered_start
  gathered (step {s = s} {r = r} {a = a} {i = i} j v n h) = came s r a i j (gathered v) n

  -- one part is next, by one word
  next_one : (s : Course) → IsCourse image s → (r q : Role) (a i b j : ℕ) → IsNext image s r a i → IsNext image s q b j → (r ≡ q) × (a ≡ b) × (i ≡ j)
  next_one s v r q a i b j d e =
      let same : Same r q = neither_before r q (e.least r a i d.asked d.lacks d.unskipped) (d.least q b j e.asked e.lacks e.unskipped) in
      let z : r ≡ q =
      same_role r q same (λ n m p t k f g. number_is image s.walk r a i n p t k d.asked f ∙ sym (number_is image s.walk q b j m p t k e.asked g)) in
      let x = asks_one image (gathered v) q a i b j (subst (λ r. Asks image s.walk r a i) z d.asked) e.asked in
      (z, x.0, x.1)

  -- how many parts a course has judged, the root among them
  abbrev steps : Course → ℕ
  steps s = length s.walk + length s.skipped

  one_more : (s : Course) (r : Role) (b : ℕ) (j : JudgementValue) → steps (after s r b j) ≡ suc (steps s)
  one_more s r b clean = omega arith
  one_more s r b _ = omega arith

  not_empty : {s : Course} → IsCourse image s → steps s ≡ 0 → ⊥
  not_empty (start b t) e = omega arith
  not_empty (step {s = s} {r = r} {a = a} {i = i} j v n h) e = omega (arith, one_more s r (word_in image a i) j)

  -- courses that have judged as many parts are one
  same_courses : {s t : Course} → IsCourse image s → IsCourse image t → steps s ≡ steps t → s ≡ t
  same_courses (start b t) (start d u) e = λ i. begun image (boot_one image b d i ++ root_one image t u i)
  same_courses (start b t) (step {s = s} {r = r} {a = a} {i = i} j v n h) e = grind (arith, common_steps, steps, one_more, not_empty)
  same_courses (step {s = s} {r = r} {a = a} {i = i} j v n h) (start c t) e = grind (arith, common_steps, steps, one_more, not_empty)
  same_courses (step {s = s} {r = r} {a = a} {i = i} j v n h) (step {s = u} {r = q} {a = b} {i = k} l v' n' h') e =
      let m : steps (after s r (word_in image a i) j) ≡ suc (steps s) = one_more s r (word_in image a i) j in
      let m' : steps (after u q (word_in image b k) l) ≡ suc (steps u) = one_more u q (word_in image b k) l in
      let z : s ≡ u = same_courses v v' (omega arith) in
      let x = next_one u v' r q a i b k (subst (λ s. IsNext image s r a i) z n) n' in
      let g : Judged q (demands_in image u.walk q b (word_in image b k)) j =
      subst (λ (y : Course × (Role × (ℕ × ℕ))). Judged y.1.0 (demands_in image y.0.walk y.1.0 y.1.1.0 (word_in image y.1.1.0 y.1.1.1)) j)
      (λ t. (z t, (x.0 t, (x.1 t, x.2 t)))) h in
      let y : j ≡ l = judged_one q (demands_in image u.walk q b (word_in image b k)) j l g h' in
      λ t. after (z t) (x.0 t) (word_in image (x.1 t) (x.2 t)) (y t)

  -- a course that is done is not the shorter of two
  not_shorter : {t : Course} → IsCourse image t → (s : Course) → IsCourse image s → IsDone image s → steps s < steps t → ⊥
  not_shorter (start b t) s v d l = not_empty v (omega arith)
  not_shorter (step {s = u} {r = r} {a = a} {i = i} j v' n h) s v d l =
      let m : steps (after u r (word_in image a i) j) ≡ suc (steps u) = one_more u r (word_in image a i) j in
      elim (dec_lt (steps s) (steps u)) [
        | yes k ↦ not_shorter v' s v d k
        | no k ↦
            let z : u ≡ s = same_courses v' v (omega arith) in
            let next = subst (λ s. IsNext image s r a i) z n in
            d r a i next.asked next.lacks next.unskipped
      ]

  one_course : (s t : Course) → IsCourse image s → IsCourse image t → IsDone image s → IsDone image t → s ≡ t
  one_course s t v v' d d' = grind (arith, common_steps, steps, not_shorter, same_courses)

  bits_one : (s : Course) {b n : ℕ} {fs gs : List FindingValue} → BitsTell image s b n fs → BitsTell image s b n gs → fs ≡ gs
  bits_one s ends ends = refl
  bits_one s (agrees h t) (agrees k u) = bits_one s t u
  bits_one s (agrees {b = b} h t) (differs {at = at} {c = c} k f u) = absurd (fails_not_all (bitmap_demands image s.walk b 1) at c f (h k))
  bits_one s (differs {b = b} {at = at} {c = c} k f t) (agrees h u) = absurd (fails_not_all (bitmap_demands image s.walk b 1) at c f (h k))
  bits_one s (differs {b = b} {at = at} {c = c} k f t) (differs {at = at'} {c = c'} k' f' u) =
      let e = fails_one (bitmap_demands image s.walk b 1) at c at' c' f f' in
      let y = bits_one s t u in
      λ t. finding None (e.0 t) (e.1 t) ∷ y t

  pub one_survey : (w u : Walk) (fs gs : List FindingValue) → IsSurvey image w fs → IsSurvey image u gs → (w ≡ u) × (fs ≡ gs)
  one_survey w u fs gs h k = grind (arith, common_steps, unread_one, not_unread, boot_told, root_told, one_course, bits_one)
