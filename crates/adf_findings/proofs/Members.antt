-- The blocks of the table of a file: each one but the header is named by the one before.
-- Letters: s a course, w a walk; n a node; m the number of a block in its table, a and c blocks.
use Rattle.std.specs.Prelude.{Bool, true, false, cond, ◌==◌}
use Rattle.std.proofs.Common.{◌≡◌, ℕ, zero, suc, List, [], ◌∷◌, inl, inr, ◌<◌, ◌≤◌, refl, sym, arith}
use Rattle.std.proofs.{lemmas.Bool.eqb-true, lemmas.Grind.common_steps}
use Rattle.adf_blocks.specs.{declared.layout.TheConstants.EXTENSION, Sizes.blocks}
use Rattle.adf_volume.specs.Image.{word_in}
use Rattle.adf_volume.specs.Walk.{Asks, Has, MemberAt, Walk, ext_block_in, ext_count, member_block, Role.Root, Role.Head, Role.Ext}
use Rattle.adf_volume.proofs.{Gathered.IsGathered, Gathered.ext_below, Gathered.member_is, Roles.member_up}
use Rattle.adf_findings.specs.Survey.{Course, IsCourse, IsCourse.start, IsCourse.step, JudgementValue.clean, JudgementValue.reported, JudgementValue.skipped}
use Rattle.adf_findings.proofs.{OneSurvey.gathered, SoundMarks.inside}

asks_member : (image : List ℕ) (w : Walk) (n m a i : ℕ) → Asks image w (Ext n (suc m)) a i → MemberAt image w n m a × (i ≡ EXTENSION)
asks_member image w n zero a i h = (h.0, h.1)
asks_member image w n (suc m) a i h = (h.0, h.1)

module _ {image : List ℕ} where
  -- the block of the table that names an extension block
  named : {s : Course} → IsCourse image s → (n m c : ℕ) → Has s.walk (Ext n (suc m)) c
      → (a : ℕ) × MemberAt image s.walk n m a × (word_in image a EXTENSION ≡ c)
  named (start boot root) n m c (inl e) = let none : Root ≡ Ext n (suc m) = e.0 in cc
  named (start boot root) n m c (inr h) = absurd h
  named (step {s = s} {r = r} {a = a} {i = i} clean v d g) n m c (inl e) = grind (arith, common_steps, asks_member, member_up)
  named (step {s = s} {r = r} {a = a} {i = i} clean v d g) n m c (inr h) = grind (arith, common_steps, member_up, named v n m c h)
  named (step {s = s} {r = r} {a = a} {i = i} (reported at cause) v d g) n m c (inl e) = grind (arith, common_steps, asks_member, member_up)
  named (step {s = s} {r = r} {a = a} {i = i} (reported at cause) v d g) n m c (inr h) = grind (arith, common_steps, member_up, named v n m c h)
  named (step (skipped at cause) v d g) n m c h = named v n m c h

  pub member_next : {s : Course} → IsCourse image s → (n m a c : ℕ) → MemberAt image s.walk n m a → Has s.walk (Ext n (suc m)) c
      → word_in image a EXTENSION ≡ c
  member_next v n m a c at h = grind (arith, common_steps, named, gathered, member_is)

  -- a block of a table is inside of the image
  pub member_inside : {s : Course} → IsCourse image s → (n m a : ℕ) → MemberAt image s.walk n m a → a < blocks image
  member_inside v n zero a h = inside image v (Head n h.header.parent h.header.slot h.header.place) a (λ e. cc) h.header.has
  member_inside v n (suc m) a h = inside image v (Ext n (suc m)) a (λ e. cc) h

ext_none : (w : Walk) (n k : ℕ) → ((c : ℕ) → Has w (Ext n k) c → ⊥) → ext_block_in w n k ≡ 0
ext_none [] n k none = refl
ext_none ((Ext q j, c) ∷ w) n k none = go (n == q) (k == j) refl refl (ext_none w n k (λ b h. none b (inr h)))
  where
    go : (t u : Bool) → (n == q) ≡ t → (k == j) ≡ u → ext_block_in w n k ≡ 0
        → cond t (cond u c (ext_block_in w n k)) (ext_block_in w n k) ≡ 0
    go true true e f rest =
        let a : q ≡ n = sym (eqb-true n q e) in
        let b : j ≡ k = sym (eqb-true k j f) in
        absurd (none c (inl ((λ i. Ext (a i) (b i)), refl)))
    go true false e f rest = rest
    go false u e f rest = rest
ext_none ((r, c) ∷ w) n k none = ext_none w n k (λ b h. none b (inr h))

-- a table has no block past its last one
pub member_none : (image : List ℕ) {w : Walk} → IsGathered image w → (n m : ℕ) → ext_count w n ≤ m → member_block w n (suc m) ≡ 0
member_none image {w} v n m le = ext_none w n (suc m) (λ c h. let lt = ext_below image v n m c h in absurd (omega (arith, lt, le)))
