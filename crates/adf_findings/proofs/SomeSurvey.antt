-- An image has a survey: parts are judged until none is next. Each part taken leaves one free block fewer;
-- each part skipped leaves one role fewer in the lists of what the walk can ask for.
use Rattle.std.specs.Prelude.{Bool, true, false, Some, None}
use Rattle.std.proofs.Common.{◌≡◌, ℕ, zero, suc, List, [], ◌∷◌, ◌++◌, inl, inr, ◌+◌, ◌-◌, ◌*◌, ◌/◌, ◌%◌, ◌<◌, length, refl, sym, ap, ◌∙◌, arith}
use Rattle.std.proofs.lemmas.Grind.{common_steps}
use native.Mathlib.Decide.{ℕ_discrete}
use Rattle.adf_blocks.specs.{declared.cause.Cause.Cause, Sizes.blocks, Sizes.pages_needed, RootBlock.root_form}
use Rattle.adf_blocks.specs.declared.layout.TheConstants.{POINTERS, SLOTS}
use Rattle.adf_base.specs.Words.{block}
use Rattle.adf_volume.specs.{Image.letters_of, Image.word_in, Image.root_of, Lists.In, Parts.renumbered}
use Rattle.adf_volume.specs.Demands.{FirstFails, IsSize, boot_form, boot_demands, root_demands}
use Rattle.adf_volume.specs.Walk.{Role, Before, Same, Has, heads, MemberAt, Asks, Lacks, IsAbsent, Walk}
use Rattle.adf_volume.specs.Walk.Role.{Root, Page, MapExt, Head, Ext, Data}
use Rattle.adf_volume.proofs.{DecidedAsks.Asked, DecidedAsks.dec_asked, Lists.in_left, Lists.in_right, Roles.head_role, Roles.renumbered_same, Roles.same_of}
use Rattle.adf_volume.proofs.{Gathered.IsGathered, Gathered.root_in, PartDemands.part_holds_by}
use Rattle.adf_volume.proofs.FitWalks.{dec_lacks, lacks_same, least, without}
use Rattle.adf_findings.specs.{Demands.demands_in, Survey.IsNext, Survey.IsCourse, Survey.IsDone, Survey.IsSurvey, Survey.IsCourse.start, Survey.IsCourse.step}
use Rattle.adf_findings.specs.{Survey.BootTells.clean_boot, Survey.BootTells.other_type, Survey.RootTells.clean_root, Survey.RootTells.reported_root}
use Rattle.adf_findings.specs.{Survey.UnreadTells.bad_boot, Survey.UnreadTells.bad_root, Survey.IsSurvey.unread, Survey.IsSurvey.read}
use Rattle.adf_findings.specs.Survey.{FindingValue, finding, JudgementValue, Judged, BootTells, RootJudged, RootTells, begun, is_other_type, Course, after}
use Rattle.adf_findings.specs.Survey.JudgementValue.{clean, reported, skipped}
use Rattle.adf_findings.proofs.{JudgementTests.itself_holds, OneSurvey.gathered}
use Rattle.adf_findings.proofs.Decidability.{decided, decided_form, dec_all, dec_true, first_failing, judged, bits_told}

-- the values at the numbers below n
upto : {X : Type 0} → (ℕ → X) → ℕ → List X
upto f zero = []
upto f (suc n) = f n ∷ upto f n

in_upto : {X : Type 0} (f : ℕ → X) (n k : ℕ) → k < n → In (upto f n) (f k)
unfolding upto
in_upto f zero k lt = absurd (omega arith)
in_upto f (suc n) k lt =
    elim (ℕ_discrete n k) [
      | yes e ↦ inl (ap f e)
      | no m ↦ inr (in_upto f n k (omega arith))
    ]

-- what a member of a walk can ask for, the headers with any number
abbrev asked_by : ℕ → Role → List Role
asked_by pages Root = upto Page pages ++ (MapExt 0 ∷ upto (λ s. Head 0 0 s 0) SLOTS)
asked_by pages (MapExt j) = MapExt (suc j) ∷ []
asked_by pages (Head n p s j) = Head 0 p s (suc j) ∷ (Ext n 1 ∷ (upto (λ t. Head 0 n t 0) SLOTS ++ upto (λ k. Data n (suc k)) POINTERS))
asked_by pages (Ext n k) = Ext n (suc k) ∷ upto (λ i. Data n (suc (POINTERS * k + i))) POINTERS
asked_by pages _ = []

abbrev askable : ℕ → Walk → List Role
askable pages [] = []
askable pages (x ∷ w) = asked_by pages x.0 ++ askable pages w

in_askable : (pages : ℕ) (w : Walk) (q : Role) (b : ℕ) (r : Role) → Has w q b → In (asked_by pages q) r → In (askable pages w) r
in_askable pages [] q b r h i = absurd h
in_askable pages (x ∷ w) q b r (inl e) i = grind (arith, common_steps, pages, in_left, asked_by, askable)
in_askable pages (x ∷ w) q b r (inr h) i = in_right (asked_by pages x.0) (askable pages w) r (in_askable pages w q b r h i)

module _ (image : List ℕ) where
  -- a role that is asked for is in the list, but for the number of a header
  abbrev Listed : Walk → List Role → Role → Type 0
  Listed w cs r = (z : Role) × In cs z × (renumbered (suc (heads w)) z ≡ r)

  abbrev pages : ℕ
  pages = pages_needed (blocks image)

  module _ (w : Walk) (v : IsGathered image w) where
    -- a member asks for what is listed of it
    listed : (q : Role) (b : ℕ) (z r : Role) → Has w q b → In (asked_by pages q) z → renumbered (suc (heads w)) z ≡ r → Listed w (askable pages w) r
    listed q b z r h i e = (z, in_askable pages w q b z h i, e)

    listed_data : (n k m a : ℕ) → k / POINTERS ≡ m → MemberAt image w n m a → Listed w (askable pages w) (Data n (suc k))
    listed_data n k zero a e h =
        let lt : k < POINTERS = omega arith in
        listed (head_role h.header) a (Data n (suc k)) (Data n (suc k)) h.header.has
        (inr (inr (in_right (upto (λ t. Head 0 n t 0) SLOTS) (upto (λ k. Data n (suc k)) POINTERS) (Data n (suc k))
        (in_upto (λ k. Data n (suc k)) POINTERS k lt)))) refl
    listed_data n k (suc m) a e h =
        let lt : k % POINTERS < POINTERS = omega arith in
        let y : suc (POINTERS * suc m + k % POINTERS) ≡ suc k = omega arith in
        listed (Ext n (suc m)) a (Data n (suc (POINTERS * suc m + k % POINTERS))) (Data n (suc k)) h
        (inr (in_upto (λ i. Data n (suc (POINTERS * suc m + i))) POINTERS (k % POINTERS) lt)) (ap (Data n) y)

    covered : (r : Role) (a i : ℕ) → Asks image w r a i → Listed w (askable pages w) r
    covered (Page k) a i h =
        listed Root (root_of image) (Page k) (Page k) (root_in image v)
        (in_left (upto Page pages) (MapExt 0 ∷ upto (λ s. Head 0 0 s 0) SLOTS) (Page k) (in_upto Page pages k h.0)) refl
    covered (MapExt zero) a i h =
        listed Root (root_of image) (MapExt 0) (MapExt 0) (root_in image v)
        (in_right (upto Page pages) (MapExt 0 ∷ upto (λ s. Head 0 0 s 0) SLOTS) (MapExt 0) (inl refl)) refl
    covered (MapExt (suc j)) a i h = listed (MapExt j) a (MapExt (suc j)) (MapExt (suc j)) h.1 (inl refl) refl
    covered (Head n zero s zero) a i h =
        listed Root a (Head 0 0 s 0) (Head n 0 s 0) h.2
        (in_right (upto Page pages) (MapExt 0 ∷ upto (λ s. Head 0 0 s 0) SLOTS) (Head 0 0 s 0) (inr (in_upto (λ s. Head 0 0 s 0) SLOTS s h.1)))
        (ap (λ n. Head n 0 s 0) (sym h.0))
    covered (Head n (suc p) s zero) a i h =
        let x = h.2.header in
        listed (head_role x) a (Head 0 (suc p) s 0) (Head n (suc p) s 0) x.has
        (inr (inr (in_left (upto (λ t. Head 0 (suc p) t 0) SLOTS) (upto (λ k. Data (suc p) (suc k)) POINTERS) (Head 0 (suc p) s 0)
        (in_upto (λ t. Head 0 (suc p) t 0) SLOTS s h.1)))) (ap (λ n. Head n (suc p) s 0) (sym h.0))
    covered (Head n p s (suc j)) a i h =
        listed (Head h.1.0 p s j) a (Head 0 p s (suc j)) (Head n p s (suc j)) h.1.1 (inl refl) (ap (λ n. Head n p s (suc j)) (sym h.0))
    covered (Ext n (suc zero)) a i h =
        listed (head_role h.0.header) a (Ext n 1) (Ext n 1) h.0.header.has (inr (inl refl)) refl
    covered (Ext n (suc (suc k))) a i h = listed (Ext n (suc k)) a (Ext n (suc (suc k))) (Ext n (suc (suc k))) h.0 (inl refl) refl
    covered (Data n (suc k)) a i h = listed_data n k (k / POINTERS) a refl h.1
    covered _ a i h = absurd h

  -- a course that is done
  abbrev Finished : Type 0
  Finished = (t : Course) × IsCourse image t × IsDone image t

  -- the blocks that no part has are free
  abbrev Frees : List ℕ → Course → Type 0
  Frees free s = (b : ℕ) → b < blocks image → IsAbsent s.walk b → In free b

  -- what could be next is in the list
  abbrev Covers : List Role → Course → Type 0
  Covers rs s = (r : Role) (a i : ℕ) → Asks image s.walk r a i → Lacks s.walk r → Lacks s.skipped r → Listed s.walk rs r

  module _ (free : List ℕ)
      (again : (rest : List ℕ) → length free ≡ suc (length rest) → (s : Course) → IsCourse image s → Frees rest s → Finished) where
    -- a part is taken, and its block is free no more
    took : (w over : Walk) (fs : List FindingValue) (r : Role) (b : ℕ)
        → IsCourse image (record { walk = (r, b) ∷ w; skipped = over; findings = fs })
        → b < blocks image → IsAbsent w b → ((b : ℕ) → b < blocks image → IsAbsent w b → In free b) → Finished
    took w over fs r b v lt abs fr =
        let x = without free b (fr b lt abs) in
        again x.0 x.1 (record { walk = (r, b) ∷ w; skipped = over; findings = fs }) v
        (λ c u h. x.2 c (fr c u (λ q k. h q (inr k))) (λ e. h r (inl (refl, sym e))))

    module _ (s : Course) (v : IsCourse image s) (fr : Frees free s) where
      abbrev Wanted : Role → Type 0
      Wanted z = Asked image s.walk z × Lacks s.walk z × Lacks s.skipped z

      dec_wanted : (z : Role) → Dec (Wanted z)
      dec_wanted z = dec_all (dec_asked image s.walk (gathered image v) z) (dec_lacks s.walk z) (dec_lacks s.skipped z)

      abbrev number : ℕ
      number = suc (heads s.walk)

      in_wanted : (rs : List Role) → Covers rs s → (r : Role) (a i : ℕ) → Asks image s.walk r a i → Lacks s.walk r → Lacks s.skipped r
          → (z : Role) × In rs z × Wanted z × Same z r
      in_wanted rs cover r a i ask lack unskipped = grind (arith, common_steps, renumbered, number, renumbered_same, same_of, lacks_same)

      -- the least that is wanted is next
      next_of : (rs : List Role) → Covers rs s → (z : Role) (x : Wanted z) → ((q : Role) → In rs q → Wanted q → Before q z → ⊥)
          → IsNext image s (renumbered number z) x.0.0 x.0.1
      next_of rs cover z x none = grind (arith, common_steps, renumbered, number, renumbered_same, lacks_same, least, in_wanted)

    -- the part that is next is taken, or skipped and wanted no more
    judge_next : (rs : List Role)
        (pass : (rest : List Role) → length rs ≡ suc (length rest) → (s : Course) → IsCourse image s → Frees free s → Covers rest s → Finished)
        → (s : Course) → IsCourse image s → Frees free s → Covers rs s → Finished
    judge_next rs pass s v fr cover =
        elim (least (Wanted s v fr) (dec_wanted s v fr) rs) [
          | inl none ↦ (s, v, (λ r a i ask lack unskipped. let x = in_wanted s v fr rs cover r a i ask lack unskipped in none x.0 x.1 x.2))
          | inr x ↦
              let q : Role = renumbered (suc (heads s.walk)) x.0 in
              let a : ℕ = x.2.0.0 in
              let i : ℕ = x.2.0.1 in
              let y = judged q (demands_in image s.walk q a (word_in image a i)) (decided image s.walk (gathered image v) q a (word_in image a i)) in
              go x.0 x.1 q refl a i (next_of s v fr rs cover x.0 x.2 x.3) y.0 y.1
        ]
      where
        go : (z : Role) → In rs z → (q : Role) → renumbered (suc (heads s.walk)) z ≡ q → (a i : ℕ) → IsNext image s q a i
            → (j : JudgementValue) → Judged q (demands_in image s.walk q a (word_in image a i)) j → Finished
        go z mem q e a i next clean h =
            let part = part_holds_by (letters_of image) image s.walk q a (word_in image a i) h in
            took s.walk s.skipped s.findings q (word_in image a i) (step clean v next h) part.inside part.unowned fr
        go z mem q e a i next (reported at c) h =
            let part = itself_holds image s.walk q a (word_in image a i) h.1 in
            took s.walk s.skipped (s.findings ++ finding (Some q) at c ∷ []) q (word_in image a i) (step (reported at c) v next h)
            part.inside part.unowned fr
        go z mem q e a i next (skipped at c) h =
            let x = without rs z mem in
            pass x.0 x.1 (after s q (word_in image a i) (skipped at c)) (step (skipped at c) v next h) fr
            (λ r b k ask lack unskipped.
            let y = cover r b k ask lack (λ p d g. unskipped p d (inr g)) in
            let other : y.0 ≡ z → ⊥ = (λ u. unskipped q (word_in image a i) (inl (refl, refl))
            (same_of q r (sym e ∙ ap (renumbered (suc (heads s.walk))) (sym u) ∙ y.2))) in
            (y.0, x.2 y.0 y.1 other, y.2))

    judge_all : (m : ℕ) (rs : List Role) → length rs ≡ m → (s : Course) → IsCourse image s → Frees free s → Covers rs s → Finished
    judge_all zero rs long = judge_next rs (λ rest k. absurd (omega arith))
    judge_all (suc m) rs long = judge_next rs (λ rest k. judge_all m rest (omega arith))

  -- each part that is taken leaves one free block less
  finish : (n : ℕ) (free : List ℕ) → length free ≡ n → (s : Course) → IsCourse image s → Frees free s → Finished
  finish zero free long s v fr =
      let rs : List Role = askable pages s.walk in
      judge_all free (λ rest k. absurd (omega arith)) (length rs) rs refl s v fr
      (λ r a i ask lack unskipped. covered s.walk (gathered image v) r a i ask)
  finish (suc n) free long s v fr =
      let rs : List Role = askable pages s.walk in
      judge_all free (λ rest k. finish n rest (omega arith)) (length rs) rs refl s v fr
      (λ r a i ask lack unskipped. covered s.walk (gathered image v) r a i ask)

  -- where the root is taken, the parts are gone through
  gone_through : {boot root : List FindingValue} → BootTells image boot → RootTells image root
      → (w : Walk) × (gs : List FindingValue) × IsSurvey image w gs
  gone_through {boot = boot} {root = root} b r =
      let free : List ℕ = upto (λ b. b) (blocks image) in
      let t = finish (length free) free refl (begun image (boot ++ root)) (start b r) (λ b lt h. in_upto (λ b. b) (blocks image) b lt) in
      let bits = bits_told image t.0 (gathered image t.1) 2 (blocks image - 2) in
      (t.0.walk, t.0.findings ++ bits.0, read t.1 t.2 bits.1)

  decided_size : Dec (IsSize image)
  decided_size = grind (arith, common_steps, dec_true)

  -- behind a boot block of type 0 to 5 the root is judged
  behind_boot : {boot : List FindingValue} → BootTells image boot → (w : Walk) × (fs : List FindingValue) × IsSurvey image w fs
  behind_boot {boot = boot} b =
      let y = judged Root (root_demands image (root_of image)) (decided_form (root_of image) (root_form (block image (root_of image)))) in go y.0 y.1
    where
      go : (j : JudgementValue) → RootJudged image j → (w : Walk) × (fs : List FindingValue) × IsSurvey image w fs
      go clean h = gone_through b (clean_root h)
      go (reported at c) h = gone_through b (reported_root h)
      go (skipped at c) h = ([], boot ++ finding None at c ∷ [], unread (bad_root b h))

  -- a boot block with a cause is of another type, or nothing is taken
  by_cause : (at : ℕ) (c : Cause) → FirstFails (boot_demands image) at c → (t : Bool) → is_other_type c ≡ t
      → (w : Walk) × (fs : List FindingValue) × IsSurvey image w fs
  by_cause at c f true e = behind_boot (other_type f e)
  by_cause at c f false e = ([], finding None at c ∷ [], unread (bad_boot f e))

  pub some_survey : (w : Walk) × (fs : List FindingValue) × IsSurvey image w fs
  some_survey = elim (first_failing (boot_demands image) (decided_size, decided_form 0 (boot_form (block image 0)))) [
    | inl h ↦ behind_boot (clean_boot h)
    | inr f ↦ by_cause f.0 f.1 f.2 (is_other_type f.1) refl
  ]
