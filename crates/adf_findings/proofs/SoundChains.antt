-- All that the chains of a sound entry lead to is in the walk of its survey.
use Rattle.std.proofs.Common.{◌≡◌, ◌∙◌, ℕ, List, inl, inr, Some, refl, ap, subst, sym, arith}
use Rattle.std.proofs.lemmas.Grind.{common_steps}
use Rattle.adf_volume.specs.{Image.word_in, Walk.Asks, Walk.Has, Walk.Role, Walk.Same, Walk.Walk, Walk.Role.Head}
use Rattle.adf_volume.proofs.{Lists.in_left, Roles.same_of}
use Rattle.adf_findings.specs.{Sound.IsSound, Survey.FindingValue, Survey.IsSurvey, Survey.IsSurvey.read, Survey.IsSurvey.unread}
use Rattle.adf_findings.proofs.{SoundEntries.skipped_reported, SoundMarks.apart, SoundMarks.settled_at}

-- a role in the place of a header is a header, perhaps with another number
same_head : (r : Role) (m p s j : ℕ) → Same r (Head m p s j) → (k : ℕ) × (r ≡ Head k p s j)
same_head r m p s j h = grind (arith, common_steps)

pub chains_followed : (image : List ℕ) (w : Walk) (fs : List FindingValue) (n h : ℕ) → IsSurvey image w fs → IsSound image w fs n h
    → (m s j a i : ℕ) → Asks image w (Head m n s j) a i → (k : ℕ) × Has w (Head k n s j) (word_in image a i)
chains_followed image w fs n h (unread f) sound m s j a i ask = absurd sound.header.has
chains_followed image w fs n h (read {s = c} {bits = bits} v d t) sound m s j a i ask =
    elim (settled_at image v d (Head m n s j) a i (word_in image a i) ask refl) [
      | inl x ↦
          let y = same_head x.0 m n s j x.2 in
          (y.0, subst (λ r. Has c.walk r (word_in image a i)) y.1 x.1)
      | inr x ↦
          let y = same_head x.0 m n s j x.2 in
          let z = skipped_reported image v x.0 (word_in image a i) x.1 in
          let taken = sound.chains z.0 y.0 s j (in_left c.findings bits z.0 z.1) (z.2 ∙ ap Some y.1) in
          absurd (apart image v (Head y.0 n s j) x.0 taken.0 (word_in image a i) taken.1 x.1 (same_of (Head y.0 n s j) x.0 (sym y.1)))
    ]
