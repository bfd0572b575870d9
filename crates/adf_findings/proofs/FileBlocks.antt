-- The data blocks of a file in the walk of a survey, and in its table.
use Rattle.std.proofs.Common.{◌≡◌, ℕ, zero, suc, List, ◌∷◌, length, inl, inr, ◌/◌, ◌<◌, ◌≤◌, refl, sym, ap, subst, ◌∙◌, arith, eq-eqb}
use Rattle.std.proofs.lemmas.Grind.{common_steps}
use Rattle.adf_blocks.specs.declared.layout.TheConstants.{POINTERS}
use Rattle.adf_volume.specs.{Image.root_of, Image.table_word, Image.word_in, Lists.At, Made.datas_in, Made.is_data_of}
use Rattle.adf_volume.specs.Walk.{Role, Has, FileAt, Lacks, MemberAt, data_count, Walk, Role.Head, Role.Ext, Role.Data}
use Rattle.adf_volume.proofs.{Gathered.IsGathered, Gathered.ext_below, Gathered.ext_counted, Gathered.file_one, Roles.has_role}
use Rattle.adf_volume.proofs.Lists.{at_below, at_snoc, at_some, same_list, snoc_length}
use Rattle.adf_volume.proofs.WalkMembers.{Lists, data_only, none_listed, one_more}
use Rattle.adf_findings.specs.Files.{member_from, named_from, names_from}
use Rattle.adf_findings.specs.Survey.{Course, IsCourse, IsNext, IsCourse.start, IsCourse.step, JudgementValue.skipped}
use Rattle.adf_findings.proofs.{OneSurvey.gathered, SoundMarks.taken_wanted}

module _ (image : List ℕ) where
  -- a file that has a member has those before it
  member_down : {w : Walk} → IsGathered image w → (n m k a h : ℕ) → FileAt image w n h → m ≤ k → MemberAt image w n k a
      → (b : ℕ) × MemberAt image w n m b
  member_down v n zero k a h file le g = (h, file)
  member_down v n (suc m) zero a h file le g = absurd (omega arith)
  member_down v n (suc m) (suc k) a h file le g = ext_counted image v n m (let u = ext_below image v n k a g in omega arith)

  module _ (n : ℕ) where
    -- the data blocks that are picked are those of the walk, by their numbers
    abbrev pub DatasListed : Walk → Type 0
    DatasListed w = Lists (is_data_of n) (λ k. Data n (suc k)) w

    no_data_head : (k m p s j : ℕ) → Data n k ≡ Head m p s j → ⊥
    no_data_head k m p s j e = cc

    module _ (s : Course) (v : IsCourse image s) (clear : (k b : ℕ) → Has s.skipped (Data n k) b → ⊥) (old : DatasListed s.walk) where
      -- it is asked for, and neither in the walk nor skipped
      not_had : Lacks s.walk (Data n (suc (length (datas_in s.walk n))))
      not_had q b h same = grind (arith, common_steps, at_below, has_role, no_data_head)

      not_skipped : (k : ℕ) → Lacks s.skipped (Data n k)
      not_skipped k q b h same = clear k b (has_role s.skipped (Data n k) (no_data_head k) q b h same)

      -- the data block that is next has the next number
      next_number : (k a i : ℕ) → IsNext image s (Data n k) a i → k ≡ suc (length (datas_in s.walk n))
      next_number zero a i d = absurd d.asked
      next_number (suc k) a i d =
          let m : ℕ = length (datas_in s.walk n) in
          let low : k < m → ⊥ = (λ u. let x = at_some (datas_in s.walk n) k u in
          d.lacks (Data n (suc k)) x.0 (old.from k x.0 x.1) (refl, refl, refl)) in
          let high : m < k → ⊥ = (λ u.
          let f = d.asked.0 in
          let t = member_down (gathered image v) n (m / POINTERS) (k / POINTERS) a f.0 f.1 (omega arith) d.asked.1 in
          let few : m < data_count image f.0 = let l : k < data_count image f.0 = f.2 in omega arith in
          d.least (Data n (suc m)) t.0 (table_word m) ((f.0, f.1, few), t.1, refl) not_had (not_skipped (suc m))
          (omega arith, (λ e. omega arith), (λ e g. omega arith))) in
          omega arith

      more_listed : (r : Role) (a i : ℕ) → IsNext image s r a i → DatasListed ((r, word_in image a i) ∷ s.walk)
      more_listed r a i d = grind (arith, common_steps, one_more, eq-eqb, data_only, next_number)

    -- a file of which no data block was skipped
    pub datas_listed : {s : Course} → IsCourse image s → ((k b : ℕ) → Has s.skipped (Data n k) b → ⊥) → DatasListed s.walk
    datas_listed (start boot root) clear = none_listed (is_data_of n) (λ k. Data n (suc k)) (λ k. eq-eqb n n refl) (root_of image) refl
    datas_listed (step (skipped at c) v d g) clear = datas_listed v (λ k b h. clear k b (inr h))
    datas_listed (step {s = s} {r = r} {a = a} {i = i} _ v d g) clear = more_listed s v clear (datas_listed v clear) r a i d

    module _ {s : Course} (v : IsCourse image s) (h : ℕ) (file : FileAt image s.walk n h) where
      -- each member is named by the one before
      pub member_is : (m a : ℕ) → MemberAt image s.walk n m a → member_from image h m ≡ a
      member_is zero a g = file_one image (gathered image v) n h a file g
      member_is (suc zero) a g = elim (taken_wanted image v (Ext n 1) a g) [
        | inl e ↦ cc
        | inr x ↦
            let here : h ≡ x.holder = file_one image (gathered image v) n h x.holder file x.asked.0 in
            (λ t. word_in image (here t) (sym x.asked.1 t)) ∙ x.named
      ]
      member_is (suc (suc m)) a g = elim (taken_wanted image v (Ext n (suc (suc m))) a g) [
        | inl e ↦ cc
        | inr x ↦
            let here : member_from image h (suc m) ≡ x.holder = member_is (suc m) x.holder x.asked.0 in
            (λ t. word_in image (here t) (sym x.asked.1 t)) ∙ x.named
      ]

      -- a data block is the one that the table names, and among those that the size asks for
      pub data_is : (k b : ℕ) → Has s.walk (Data n (suc k)) b → (named_from image h k ≡ b) × (k < data_count image h)
      data_is k b g = elim (taken_wanted image v (Data n (suc k)) b g) [
        | inl e ↦ cc
        | inr x ↦
            let here : member_from image h (k / POINTERS) ≡ x.holder = member_is (k / POINTERS) x.holder x.asked.1 in
            let own : x.asked.0.0 ≡ h = file_one image (gathered image v) n x.asked.0.0 h x.asked.0.1 file in
            ((λ t. word_in image (here t) (sym x.asked.2 t)) ∙ x.named, subst (λ h. k < data_count image h) own x.asked.0.2)
      ]

    pub names_length : (h k : ℕ) → length (names_from image h k) ≡ k
    names_length h zero = refl
    names_length h (suc k) = snoc_length (names_from image h k) (named_from image h k) ∙ ap suc (names_length h k)

    named_at : (h k i b : ℕ) → At (names_from image h k) i b → (i < k) × (named_from image h i ≡ b)
    named_at h zero i b g = absurd g
    named_at h (suc k) i b g = elim (at_snoc (names_from image h k) (named_from image h k) i b g) [
      | inl o ↦ let x = named_at h k i b o in (omega (arith, x.0), x.1)
      | inr o ↦
          let e : i ≡ k = o.0 ∙ names_length h k in
          (omega arith, ap (named_from image h) e ∙ o.1)
    ]

    -- where the walk has each data block that the size asks for, its data blocks are those that the table names
    pub listed_named : {s : Course} → IsCourse image s → DatasListed s.walk → (h : ℕ) → FileAt image s.walk n h
        → ((k : ℕ) → k < data_count image h → (b : ℕ) × Has s.walk (Data n (suc k)) b) → names_from image h (data_count image h) ≡ datas_in s.walk n
    listed_named {s = s} v listed h file all =
        same_list (names_from image h (data_count image h)) (datas_in s.walk n)
        (λ k b g.
        let x = named_at h (data_count image h) k b g in
        let y = all k x.0 in
        let e : y.0 ≡ b = sym (data_is v h file k y.0 y.1).0 ∙ x.1 in
        subst (At (datas_in s.walk n) k) e (listed.to k y.0 y.1))
        (λ k b g.
        let x = data_is v h file k b (listed.from k b g) in
        let l = names_length h (data_count image h) in
        let y = at_some (names_from image h (data_count image h)) k (omega (arith, x.1, l)) in
        subst (At (names_from image h (data_count image h)) k) (sym (named_at h (data_count image h) k y.0 y.1).1 ∙ x.0) y.1)
