-- The blocks of a sound entry.
use Rattle.std.specs.Prelude.{Bool, Some, false, nat_lt, true}
use Rattle.std.proofs.Common.{◌≡◌, ℕ, zero, suc, List, [], ◌∷◌, ◌++◌, ◌⊎◌, inl, inr, ◌*◌, ◌/◌, ◌<◌, ◌≤◌, refl, sym, ap, subst, ◌∙◌, arith}
use Rattle.std.proofs.{lemmas.Bool.cond-false, lemmas.Bool.cond-true, lemmas.Bool.le-ltb, lemmas.Bool.lt-ltb, lemmas.Grind.common_steps}
use native.Mathlib.Decide.{dec_lt}
use Rattle.adf_blocks.specs.declared.layout.TheConstants.{POINTERS, SIZE}
use Rattle.adf_volume.specs.{Image.letters_of, Image.held, Image.kind_of, Image.word_in, Image.table_word, Lists.In, Demands.AllHold, Demands.data_demands}
use Rattle.adf_volume.specs.{Demands.ext_demands, Walk.IsAbsent, Walk.ext_count, Walk.Role.Root, Walk.Role.Head, Walk.Role.Ext, Walk.Role.Data}
use Rattle.adf_volume.specs.Walk.{Before, Lacks, NodeAt, member_block, next_data, node_block, Walk, Role, second, Has, FileAt, MemberAt, data_count, Asks}
use Rattle.adf_volume.proofs.{Lists.in_left, Lists.in_right, PartDemands.part_holds_by}
use Rattle.adf_volume.proofs.Roles.{count_up, dec_has, dir_is_node, has_low, head_in, head_role, same_refl, typed_in}
use Rattle.adf_findings.specs.{Demands.demands_in, Demands.form_demands_in, Demands.head_demands_in, Files.counting, Survey.IsSurvey.unread}
use Rattle.adf_findings.specs.{Survey.IsSurvey.read, Sound.FileHolds, Sound.HeaderHolds, Sound.IsNextData, Sound.IsSound, Sound.IsUnreported}
use Rattle.adf_findings.specs.Survey.{FindingValue, finding, Course, IsNext, IsCourse, IsDone, IsSurvey, IsCourse.start, IsCourse.step}
use Rattle.adf_findings.specs.Survey.JudgementValue.{clean, reported, skipped}
use Rattle.adf_volume.proofs.Gathered.{IsGathered, asked_dir, asked_file, asks_one, ext_counted, file_one, head_block, member_is, node_is, node_one, one_block}
use Rattle.adf_findings.proofs.{OneSurvey.gathered, GraveFindings.data_unreported, GraveFindings.ext_unreported, JudgementTests.itself_holds}

module _ (image : List ℕ) where
  -- a finding concerns the part
  abbrev Reported : List FindingValue → Role → Type 0
  Reported fs r = (f : FindingValue) × In fs f × (f.part ≡ Some r)

  reported_more : (fs gs : List FindingValue) (r : Role) → Reported fs r → Reported (fs ++ gs) r
  reported_more fs gs r x = (x.0, in_left fs gs x.0 x.1, x.2)

  reported_now : (fs : List FindingValue) (r : Role) (f : FindingValue) → f.part ≡ Some r → Reported (fs ++ f ∷ []) r
  reported_now fs r f e = (f, in_right fs (f ∷ []) f (inl refl), e)

  -- what was skipped is reported
  pub skipped_reported : {s : Course} → IsCourse image s → (r : Role) (b : ℕ) → Has s.skipped r b → Reported s.findings r
  skipped_reported (start boot root) r b h = absurd h
  skipped_reported (step {s = s} {r = q} {a = a} {i = i} clean v n g) r b h = skipped_reported v r b h
  skipped_reported (step {s = s} {r = q} {a = a} {i = i} (reported at c) v n g) r b h = grind (arith, common_steps, reported_more, skipped_reported v r b h)
  skipped_reported (step {s = s} {r = q} {a = a} {i = i} (skipped at c) v n g) r b (inl e) = grind (arith, common_steps, reported_now)
  skipped_reported (step {s = s} {r = q} {a = a} {i = i} (skipped at c) v n g) r b (inr h) =
      reported_more s.findings (finding (Some q) at c ∷ []) r (skipped_reported v r b h)

  unreported_less : (fs gs : List FindingValue) (r : Role) → IsUnreported (fs ++ gs) r → IsUnreported fs r
  unreported_less fs gs r h f q i = h f q (in_left fs gs f i)

  -- how a member came into a walk: nothing that comes before it was left
  record Came (w : Walk) (fs : List FindingValue) (r : Role) (b : ℕ) : Type 0 where
    before : Walk
    came_before : IsGathered image before
    at : ℕ
    index : ℕ
    asked : Asks image before r at index
    named : word_in image at index ≡ b
    judged : AllHold (demands_in image before r at b) ⊎ Reported fs r
    older : (q : Role) (c : ℕ) → Has before q c → Has w q c
    counted : (n : ℕ) → ext_count before n ≤ ext_count w n
    earlier : (q : Role) (c k : ℕ) → Asks image before q c k → Before q r → Lacks before q → IsUnreported fs q → ⊥

  came_later : (w : Walk) (fs : List FindingValue) (r : Role) (b : ℕ) (x : Role × ℕ) → Came w fs r b → Came (x ∷ w) fs r b
  came_later w fs r b x y = grind (arith, common_steps, count_up)

  came_reported : (w : Walk) (fs gs : List FindingValue) (r : Role) (b : ℕ) → Came w fs r b → Came w (fs ++ gs) r b
  came_reported w fs gs r b y = record {
    before = y.before;
    came_before = y.came_before;
    at = y.at;
    index = y.index;
    asked = y.asked;
    named = y.named;
    judged = elim (y.judged) [ inl h ↦ inl h | inr n ↦ inr (reported_more fs gs r n) ];
    older = y.older;
    counted = y.counted;
    earlier = (λ q c k ask bef lack clear. y.earlier q c k ask bef lack (unreported_less fs gs q clear));
  }

  came_new : (s : Course) (r : Role) (a i : ℕ) (w : Walk) (fs : List FindingValue) (x : Role × ℕ) → w ≡ x ∷ s.walk → IsCourse image s
      → IsNext image s r a i → ((q : Role) → Reported s.findings q → Reported fs q)
      → AllHold (demands_in image s.walk r a (word_in image a i)) ⊎ Reported fs r → Came w fs r (word_in image a i)
  came_new s r a i w fs x e v n more j = record {
    before = s.walk;
    came_before = gathered image v;
    at = a;
    index = i;
    asked = n.asked;
    named = refl;
    judged = j;
    older = (λ q c h. subst (λ w. Has w q c) (sym e) (inr h));
    counted = (λ n. subst (λ w. ext_count s.walk n ≤ ext_count w n) (sym e) (count_up n x.0 (ext_count s.walk n)));
    earlier = (λ q c k ask bef lack clear.
        n.least q c k ask lack (λ p b h same. let y = more p (skipped_reported v p b h) in clear y.0 p y.1 y.2 same) bef);
  }

  -- each member but the root came by a word, and has no cause or is reported
  came : {s : Course} → IsCourse image s → (r : Role) (b : ℕ) → Has s.walk r b → (Root ≡ r) ⊎ Came s.walk s.findings r b
  came (start boot root) r b (inl e) = inl e.0
  came (start boot root) r b (inr h) = absurd h
  came (step {s = s} {r = q} {a = a} {i = i} clean v n g) r b (inl e) =
      let w : Walk = (q, word_in image a i) ∷ s.walk in
      inr (subst (Came w s.findings r) e.1 (subst (λ r. Came w s.findings r (word_in image a i)) e.0
      (came_new s q a i w s.findings (q, word_in image a i) refl v n (λ p h. h) (inl g))))
  came (step {s = s} {r = q} {a = a} {i = i} clean v n g) r b (inr h) = grind (arith, common_steps, came_later, came v r b h)
  came (step {s = s} {r = q} {a = a} {i = i} (reported at c) v n g) r b (inl e) =
      let w : Walk = (q, word_in image a i) ∷ s.walk in
      let fs : List FindingValue = s.findings ++ finding (Some q) at c ∷ [] in
      inr (subst (Came w fs r) e.1 (subst (λ r. Came w fs r (word_in image a i)) e.0
      (came_new s q a i w fs (q, word_in image a i) refl v n (reported_more s.findings (finding (Some q) at c ∷ []))
      (inr (reported_now s.findings q (finding (Some q) at c) refl)))))
  came (step {s = s} {r = q} {a = a} {i = i} (reported at c) v n g) r b (inr h) =
      elim (came v r b h) [
        | inl e ↦ inl e
        | inr y ↦
            inr (came_later s.walk (s.findings ++ finding (Some q) at c ∷ []) r b (q, word_in image a i)
            (came_reported s.walk s.findings (finding (Some q) at c ∷ []) r b y))
      ]
  came (step {s = s} {r = q} {a = a} {i = i} (skipped at c) v n g) r b h = grind (arith, common_steps, came_reported, came v r b h)

  same_word : (a a' i i' b : ℕ) → a ≡ a' → i ≡ i' → word_in image a i ≡ b → word_in image a' i' ≡ b
  same_word a a' i i' b e f h = (λ t. word_in image (sym e t) (sym f t)) ∙ h

  module _ {s : Course} (v : IsCourse image s) (done : IsDone image s) where
    -- a member that nothing is said against came without a cause
    came_clean : (r : Role) (b : ℕ) → Has s.walk r b → (Root ≡ r → ⊥) → IsUnreported s.findings r
        → (y : Came s.walk s.findings r b) × AllHold (demands_in image y.before r y.at b)
    came_clean r b g other clear =
        elim (came v r b g) [
          | inl e ↦ absurd (other e)
          | inr y ↦ elim (y.judged) [ inl h ↦ (y, h) | inr x ↦ absurd (clear x.0 r x.1 x.2 (same_refl r)) ]
        ]

    came_formed : (r : Role) (b : ℕ) → Has s.walk r b → (Root ≡ r → ⊥) → IsUnreported s.findings r
        → (y : Came s.walk s.findings r b) × AllHold (form_demands_in image y.before r b)
    came_formed r b g other clear =
        let x = came_clean r b g other clear in
        (x.0, (part_holds_by (letters_of image) image x.0.before r x.0.at b x.1).form)

    node_before : (w : Walk) (p a : ℕ) → ((q : Role) (c : ℕ) → Has w q c → Has s.walk q c) → NodeAt w p a → NodeAt s.walk p a
    node_before w zero a older f = older Root a f
    node_before w (suc p) a older f = head_in f (older (head_role f) a f.has)

    -- a header has its form
    head_formed : (n p t j h up : ℕ) → Has s.walk (Head n p t j) h → IsUnreported s.findings (Head n p t j) → NodeAt s.walk p up
        → AllHold (head_demands_in image (kind_of image) h up t)
    head_formed n p t j h up g clear node =
        let x = came_formed (Head n p t j) h g (λ e. cc) clear in
        let w : Walk = x.0.before in
        let d = asked_dir image x.0.came_before n p t j x.0.at x.0.index x.0.asked in
        let f : NodeAt w p d.0 = dir_is_node image w p d.0 d.1 in
        let e : node_block w p ≡ up =
        ◌∙◌ {b = d.0} (node_is image x.0.came_before p d.0 f) (node_one image (gathered image v) p d.0 up (node_before w p d.0 x.0.older f) node) in
        subst (λ up. AllHold (head_demands_in image (kind_of image) h up t)) e x.1

    -- the file of a part is that of the walk
    file_was : (w : Walk) (n a h : ℕ) → IsGathered image w → ((q : Role) (c : ℕ) → Has w q c → Has s.walk q c) → FileAt image w n a
        → FileAt image s.walk n h → node_block w n ≡ h
    file_was w n a h g older f file =
        head_block image g f.header ∙ file_one image (gathered image v) n a h (typed_in f (older (head_role f.header) a f.header.has)) file

    ext_formed : (n k b h : ℕ) → Has s.walk (Ext n k) b → IsUnreported s.findings (Ext n k) → FileAt image s.walk n h
        → AllHold (ext_demands image b h)
    ext_formed n k b h g clear file =
        let x = came_formed (Ext n k) b g (λ e. cc) clear in
        let d = asked_file image x.0.came_before n k x.0.at x.0.index x.0.asked in
        let e : node_block x.0.before n ≡ h = file_was x.0.before n d.0 h x.0.came_before x.0.older d.1 file in
        subst (λ h. AllHold (ext_demands image b h)) e x.1

    -- what is asked for and has no finding is in the walk
    in_walk : (r : Role) (a i : ℕ) → Asks image s.walk r a i → IsUnreported s.findings r → second r < 2 → (b : ℕ) × Has s.walk r b
    in_walk r a i ask clear low =
        elim (has_low s.walk r low) [
          | inr y ↦ y
          | inl lack ↦ elim (dec_has s.skipped r) [
            | inl l ↦ absurd (done r a i ask lack l)
            | inr y ↦ let x = skipped_reported v y.role y.block y.has in absurd (clear x.0 y.role x.1 x.2 y.same)
          ]
        ]

    module _ (n h : ℕ) (file : FileAt image s.walk n h) (clear : (k : ℕ) → IsUnreported s.findings (Data n k)) where
      -- a file that was there before has the same header
      file_before : (w : Walk) (a : ℕ) → ((q : Role) (c : ℕ) → Has w q c → Has s.walk q c) → FileAt image w n a → FileAt image s.walk n a
      file_before w a older f = typed_in f (older (head_role f.header) a f.header.has)

      member_before : (w : Walk) (m a : ℕ) → ((q : Role) (c : ℕ) → Has w q c → Has s.walk q c) → MemberAt image w n m a
          → MemberAt image s.walk n m a
      member_before w zero a older f = file_before w a older f
      member_before w (suc m) a older f = older (Ext n (suc m)) a f

      data_clean : (k b : ℕ) → Has s.walk (Data n k) b → (y : Came s.walk s.findings (Data n k) b)
          × AllHold (demands_in image y.before (Data n k) y.at b)
      data_clean k b g = came_clean (Data n k) b g (λ e. cc) (clear k)

      enough : data_count image h ≤ POINTERS * suc (ext_count s.walk n)
      enough =
          elim (dec_lt 0 (data_count image h)) [
            | no m ↦ omega arith
            | yes lt ↦
                let x = in_walk (Data n 1) h (table_word 0) ((h, file, lt), file, refl) (clear 1) (omega arith) in
                let y = data_clean 1 x.0 x.1 in
                let first = y.0.asked.0 in
                let e : first.0 ≡ h = file_one image (gathered image v) n first.0 h (file_before y.0.before first.0 y.0.older first.1) file in
                let l : data_count image first.0 ≤ POINTERS * suc (ext_count y.0.before n) = y.1.0 refl first.0 first.1 in
                let l' : data_count image h ≤ POINTERS * suc (ext_count y.0.before n) =
                subst (λ h. data_count image h ≤ POINTERS * suc (ext_count y.0.before n)) e l in
                let u = y.0.counted n in
                omega arith
          ]

      member_at : (m : ℕ) → m ≤ ext_count s.walk n → (a : ℕ) × MemberAt image s.walk n m a
      member_at zero u = (h, file)
      member_at (suc m) u = ext_counted image (gathered image v) n m (omega arith)

      -- each data block that the size asks for is in the walk, at the block that the table names
      data_named : (k : ℕ) → k < data_count image h
          → (a b : ℕ) × MemberAt image s.walk n (k / POINTERS) a × (word_in image a (table_word k) ≡ b) × Has s.walk (Data n (suc k)) b
      data_named k lt =
          let l = enough in
          let m = member_at (k / POINTERS) (omega arith) in
          let ask : Asks image s.walk (Data n (suc k)) m.0 (table_word k) = ((h, file, lt), m.1, refl) in
          let x = in_walk (Data n (suc k)) m.0 (table_word k) ask (clear (suc k)) (omega arith) in
          let y = (data_clean (suc k) x.0 x.1).0 in
          let was : Asks image s.walk (Data n (suc k)) y.at y.index = (
            (y.asked.0.0, file_before y.before y.asked.0.0 y.older y.asked.0.1, y.asked.0.2),
            member_before y.before (k / POINTERS) y.at y.older y.asked.1,
            y.asked.2,
          ) in
          let z = asks_one image (gathered image v) (Data n (suc k)) y.at y.index m.0 (table_word k) was ask in
          (m.0, x.0, m.1, same_word y.at m.0 y.index (table_word k) x.0 z.0 z.1 y.named, x.1)

      module _ (none : (k : ℕ) → IsUnreported s.findings (Ext n k)) where
        ext_wanted : (m a : ℕ) → Has s.walk (Ext n (suc m)) a → Came s.walk s.findings (Ext n (suc m)) a
        ext_wanted m a g = grind (arith, common_steps, came)

        file_first : (k b : ℕ) (y : Came s.walk s.findings (Data n (suc k)) b) (a : ℕ) → FileAt image s.walk n a → FileAt image y.before n a
        file_first k b y a g =
            let x = y.asked.0 in
            let e : x.0 ≡ a = file_one image (gathered image v) n x.0 a (file_before y.before x.0 y.older x.1) g in
            subst (FileAt image y.before n) e x.1

        -- an extension block that a file asks for was there before each of its data blocks
        ext_first : (k b : ℕ) (y : Came s.walk s.findings (Data n (suc k)) b) (m a d i : ℕ) → Has s.walk (Ext n (suc m)) a
            → Asks image y.before (Ext n (suc m)) d i → Has y.before (Ext n (suc m)) a
        ext_first k b y m a d i g ask = elim (has_low y.before (Ext n (suc m)) (omega arith)) [
          | inl lack ↦ absurd (y.earlier (Ext n (suc m)) d i ask (omega arith, (λ e. omega arith), (λ e f. omega arith)) lack (none (suc m)))
          | inr x ↦
              let e = (one_block image (gathered image v) (Ext n (suc m)) (Ext n (suc m)) x.0 a (y.older (Ext n (suc m)) x.0 x.1) g
              (refl, refl, refl)).1 in
              subst (Has y.before (Ext n (suc m))) e x.1
        ]

        -- the header and the extension blocks of a file were there before each of its data blocks
        members_first : (k b : ℕ) (y : Came s.walk s.findings (Data n (suc k)) b) (m a : ℕ) → MemberAt image s.walk n m a
            → MemberAt image y.before n m a
        members_first k b y zero a g = file_first k b y a g
        members_first k b y (suc zero) a g =
            let z = ext_wanted 0 a g in
            let held = file_first k b y z.at (file_before z.before z.at z.older z.asked.0) in
            ext_first k b y 0 a z.at z.index g (held, z.asked.1, z.asked.2)
        members_first k b y (suc (suc m)) a g =
            let z = ext_wanted (suc m) a g in
            let held = members_first k b y (suc m) z.at (z.older (Ext n (suc m)) z.at z.asked.0) in
            ext_first k b y (suc m) a z.at z.index g (held, z.asked.1, z.asked.2)

        -- the next data block that a data block has to name
        next_is : (k b : ℕ) (y : Came s.walk s.findings (Data n (suc k)) b) → node_block y.before n ≡ h
            → IsNextData image s.walk n h (suc k) (next_data image y.before n (suc k))
        next_is k b y e = record {
          inner = (λ lt.
              let x = data_named (suc k) lt in
              let at : member_block y.before n (suc k / POINTERS) ≡ x.0 =
              member_is image y.came_before n (suc k / POINTERS) x.0 (members_first k b y (suc k / POINTERS) x.0 x.2) in
              let there : nat_lt (suc k) (data_count image (node_block y.before n)) ≡ true =
              lt-ltb (suc k) (data_count image (node_block y.before n)) (subst (λ h. suc k < data_count image h) (sym e) lt) in
              let word : next_data image y.before n (suc k) ≡ x.1 =
              cond-true (nat_lt (suc k) (data_count image (node_block y.before n)))
              (word_in image (member_block y.before n (suc k / POINTERS)) (table_word (suc k))) 0 there
              ∙ (ap (λ a. word_in image a (table_word (suc k))) at ∙ x.3) in
              subst (Has s.walk (Data n (suc (suc k)))) (sym word) x.4);
          last = (λ le.
              cond-false (nat_lt (suc k) (data_count image (node_block y.before n)))
              (word_in image (member_block y.before n (suc k / POINTERS)) (table_word (suc k))) 0
              (le-ltb (suc k) (data_count image (node_block y.before n)) (subst (λ h. data_count image h ≤ suc k) (sym e) le)));
        }

        data_formed : (k b : ℕ) → Has s.walk (Data n (suc k)) b
            → (next : ℕ) × IsNextData image s.walk n h (suc k) next
            × AllHold (data_demands image (kind_of image) b h (suc k) (held (kind_of image) (word_in image h SIZE) (suc k)) next)
        data_formed k b g =
            let x = data_clean (suc k) b g in
            let y = x.0 in
            let form = (part_holds_by (letters_of image) image y.before (Data n (suc k)) y.at b x.1).form in
            let d = y.asked.0 in
            let e : node_block y.before n ≡ h = file_was y.before n d.0 h y.came_before y.older d.1 file in
            let next : ℕ = next_data image y.before n (suc k) in (
              next,
              next_is k b y e,
              subst (λ h. AllHold (data_demands image (kind_of image) b h (suc k) (held (kind_of image) (word_in image h SIZE) (suc k)) next)) e form,
            )

  absent_new : (w : Walk) (z r q : Role) (c b : ℕ) → IsAbsent w c → (Has w r b → Has w q b → r ≡ q) → Has ((z, c) ∷ w) r b
      → Has ((z, c) ∷ w) q b → r ≡ q
  absent_new w z r q c b h k l m = grind (arith, common_steps)

  pub one_role : {s : Course} → IsCourse image s → (r q : Role) (b : ℕ) → Has s.walk r b → Has s.walk q b → r ≡ q
  one_role (start boot root) r q b (inl e) (inl f) = sym e.0 ∙ f.0
  one_role (start boot root) r q b (inl e) (inr f) = absurd f
  one_role (start boot root) r q b (inr e) f = absurd e
  one_role (step {s = s} {r = z} {a = a} {i = i} clean v n g) r q b h k = grind (arith, common_steps, part_holds_by, absent_new, one_role v r q b)
  one_role (step {s = s} {r = z} {a = a} {i = i} (reported at c) v n g) r q b h k = grind (arith, common_steps, itself_holds, absent_new, one_role v r q b)
  one_role (step (skipped at c) v n g) r q b h k = one_role v r q b h k

  pub one_part : (w : Walk) (fs : List FindingValue) → IsSurvey image w fs → (r q : Role) (b : ℕ) → Has w r b → Has w q b → r ≡ q
  one_part w fs (unread f) r q b h k = absurd h
  one_part w fs (read v d t) r q b h k = one_role v r q b h k

  pub sound_header : (w : Walk) (fs : List FindingValue) (n h : ℕ) → IsSurvey image w fs → IsSound image w fs n h → HeaderHolds image w n h
  sound_header w fs n h (unread f) sound g up node = absurd g.has
  sound_header w fs n h (read {s = s} {bits = bits} v d told) sound g up node =
      let e : head_role sound.header ≡ head_role g = one_role v (head_role sound.header) (head_role g) h sound.header.has g.has in
      let clear : IsUnreported s.findings (head_role g) =
      subst (IsUnreported s.findings) e (unreported_less s.findings bits (head_role sound.header) sound.unreported) in
      head_formed v d n g.parent g.slot g.place h up g.has clear node

  -- the findings that count may be the grave ones alone
  pub whole_file : (w : Walk) (fs : List FindingValue) (c : Bool) (n h : ℕ) → IsSurvey image w fs → IsSound image w (counting c fs) n h
      → FileAt image w n h → FileHolds image w n h
  whole_file w fs c n h (unread f) sound file = absurd file.header.has
  whole_file w fs c n h (read {s = s} {bits = bits} v d told) sound file =
      let all : List FindingValue = s.findings ++ bits in
      let datas : (k : ℕ) → IsUnreported s.findings (Data n k) =
      λ k. unreported_less s.findings bits (Data n k) (data_unreported c all n k (sound.datas k)) in
      let exts : (k : ℕ) → IsUnreported s.findings (Ext n k) =
      λ k. unreported_less s.findings bits (Ext n k) (ext_unreported c all n k (sound.exts k)) in
      record {
        named = data_named v d n h file datas;
        exts = (λ k b g. ext_formed v d n k b h g (exts k) file);
        datas = data_formed v d n h file datas exts;
      }

  pub sound_file : (w : Walk) (fs : List FindingValue) (n h : ℕ) → IsSurvey image w fs → IsSound image w fs n h → FileAt image w n h
      → FileHolds image w n h
  sound_file w fs n h survey sound file = whole_file w fs false n h survey sound file
