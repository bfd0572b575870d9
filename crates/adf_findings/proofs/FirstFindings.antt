-- The first finding of a survey behind that of its type, and surveys with no other.
-- Letters: past the findings of the type; over the parts skipped; rest the findings behind them.
use Rattle.std.proofs.Common.{false, ◌≡◌, ℕ, suc, List, [], ◌∷◌, ◌⊎◌, ◌++◌, inl, inr, ◌+◌, ◌-◌, ◌/◌, ◌<◌, ◌≤◌, refl, sym, subst, ap, ◌∙◌, append-nil}
use Rattle.std.proofs.{Common.append_assoc, Common.None, Common.arith, lemmas.List.append_cancel_left, lemmas.Grind.common_steps}
use Rattle.std.proofs.lemmas.Bool.{eqb-true, Decides.nat_tests}
use Rattle.adf_base.specs.declared.hash.Letters.{Letters}
use Rattle.adf_blocks.specs.{declared.cause.Cause.Cause, declared.layout.TheConstants.PAGE_BITS, Sizes.blocks, Sizes.pages_needed}
use Rattle.adf_volume.specs.{Image.letters_of, Image.word_in, Image.root_of, Fits.FitsBy, Layout.Layout, Made.layout_in, Made.tree_in_by, Start.IsBegunBy}
use Rattle.adf_volume.specs.Demands.{AllHold, FirstFails, boot_demands, boot_demands_by, root_demands}
use Rattle.adf_volume.specs.Walk.{Role, Lacks, IsDue, IsAbsent, IsWalkBy, IsWhole, FirstFaultBy, bitmap_demands, demands_by, Walk, Role.Page, Role.Root}
use Rattle.adf_volume.specs.Walk.IsWalkBy.{start as walk_start, step as walk_step}
use Rattle.adf_volume.specs.Walk.FirstFaultBy.{at_boot, at_due, at_bitmap}
use Rattle.adf_volume.proofs.{Walks.asked_block, Walks.page_word, WholeWalks.all_map_exts, FormDemands.demanded, NoneFits.none_fits, WalkFits.fits}
use Rattle.adf_tree.specs.Tree.{Tree}
use Rattle.adf_volume.proofs.Lists.{all_append, all_split, fails_left, fails_right}
use Rattle.adf_findings.specs.{Demands.demands_in, Survey.IsCourse.start, Survey.IsCourse.step, Survey.RootTells.clean_root, Survey.RootTells.reported_root}
use Rattle.adf_findings.specs.{Survey.UnreadTells.bad_boot, Survey.UnreadTells.bad_root, Survey.IsSurvey.unread, Survey.IsSurvey.read}
use Rattle.adf_findings.specs.Survey.{BootTells, FindingValue, JudgementValue, Judged, RootTells, finding, is_other_type, Course, after, IsNext, IsCourse}
use Rattle.adf_findings.specs.Survey.{IsDone, IsValidated, IsCompared, BitsTell, IsSurvey, is_cache}
use Rattle.adf_findings.specs.Survey.JudgementValue.{clean, reported, skipped}
use Rattle.adf_findings.specs.Survey.BitsTell.{ends, agrees, differs}

-- a boot block has no cause for these letters, or the first one behind the findings of the type
abbrev pub BootReads : List ℕ → Letters → List FindingValue → List FindingValue → Type 0
BootReads image letters past fs =
    ((fs ≡ past) × AllHold (boot_demands_by letters image))
    ⊎ ((f : FindingValue) × (fs ≡ past ++ f ∷ []) × FirstFails (boot_demands_by letters image) f.block f.cause)

-- how an image begins for these letters, behind the findings of its type
pub record Reads (image : List ℕ) (letters : Letters) (past : List FindingValue) : Type 0 where
  pub boot : {fs : List FindingValue} → BootTells image fs → BootReads image letters past fs
  pub bad : {at : ℕ} {c : Cause} → FirstFails (boot_demands image) at c → is_other_type c ≡ false
      → (past ≡ []) × FirstFails (boot_demands_by letters image) at c
  pub same : AllHold (boot_demands_by letters image) → letters_of image ≡ letters

module _ (image : List ℕ) (letters : Letters) where
  -- what is known of a course by its findings: without one it is a walk that left nothing; the first one is the first fault
  abbrev pub Known : Walk → Walk → List FindingValue → Type 0
  Known w over [] = IsBegunBy letters image × IsWalkBy letters image w × (over ≡ [])
  Known w over (f ∷ fs) = FirstFaultBy letters image f.block f.cause

  -- without findings, what is next is what is due
  due : (w over : Walk) (fs : List FindingValue) (r : Role) (a i : ℕ) → over ≡ []
      → IsNext image (record { walk = w; skipped = over; findings = fs }) r a i → IsDue image w r a i
  due w over fs r a i e n = grind (arith, common_steps)

  -- without findings, a course that is done is a whole walk
  whole : (w over : Walk) (fs : List FindingValue) → over ≡ [] → IsDone image (record { walk = w; skipped = over; findings = fs })
      → IsWhole image w
  whole w over fs e d r a i ask lack = d r a i ask lack (subst (λ l. Lacks l r) (sym e) (λ z b h s. h))

  -- a volume of type 0 to 3 has no directory caches
  no_cache : AllHold (boot_demands_by letters image) → (b : ℕ) → is_cache image b ≡ false
  no_cache h b = grind (arith, common_steps, nat_tests)

  -- and all bits are compared, where the root has its form
  compared : (w over : Walk) (fs : List FindingValue) → over ≡ [] → IsWhole image w → IsBegunBy letters image → IsValidated image → (b : ℕ) → 2 ≤ b
      → b < blocks image → IsCompared image (record { walk = w; skipped = over; findings = fs }) b
  compared w over fs e wh begun vd b lo hi =
      let k : ℕ = (b - 2) / PAGE_BITS in
      let lt : k < pages_needed (blocks image) = omega arith in
      let m = page_word image w k lt (λ j y. all_map_exts image w wh j (omega arith)) in (
        vd,
        asked_block image w wh (Page k) m.0 m.1 m.2 (omega arith),
        (λ _. (
          subst (λ l. IsAbsent l b) (sym e) (λ q h. h),
          no_cache (all_split (boot_demands_by letters image) (root_demands image (root_of image)) begun).0 b,
        )),
      )

  -- where all bits are compared, without a finding they agree, and the first one is the first that disagrees
  abbrev Told : Walk → ℕ → ℕ → List FindingValue → Type 0
  Told w b n [] = AllHold (bitmap_demands image w b n)
  Told w b n (f ∷ fs) = FirstFails (bitmap_demands image w b n) f.block f.cause

  agreed : (w : Walk) (b n : ℕ) (fs : List FindingValue) → AllHold (bitmap_demands image w b 1) → Told w (suc b) n fs → Told w b (suc n) fs
  agreed w b n [] h t = (h.0, (h.1.0, t))
  agreed w b n (f ∷ fs) h t = inr (h.0, inr (h.1.0, t))

  differed : (w : Walk) (b n at : ℕ) (c : Cause) → FirstFails (bitmap_demands image w b 1) at c
      → FirstFails (bitmap_demands image w b (suc n)) at c
  differed w b n at c h = grind (arith, common_steps)

  told : {s : Course} {b n : ℕ} {fs : List FindingValue} → BitsTell image s b n fs → ((c : ℕ) → b ≤ c → c < b + n → IsCompared image s c)
      → Told s.walk b n fs
  told ends all = tt
  told {s = s} (agrees {b = b} {n = n} {fs = fs} h t) all =
      agreed s.walk b n fs (h (all b (omega arith) (omega arith))) (told t (λ c lo hi. all c (omega arith) (omega arith)))
  told {s = s} (differs {b = b} {n = n} {at = at} {c = c} k f t) all = differed s.walk b n at c f

  -- what is known of an image by its walk and findings
  abbrev pub Shows : Walk → List FindingValue → Type 0
  Shows w [] = IsBegunBy letters image × IsWalkBy letters image w × IsWhole image w
      × AllHold (bitmap_demands image w 2 (blocks image - 2))
  Shows w (f ∷ fs) = FirstFaultBy letters image f.block f.cause

  -- a root that has its form says that the bitmap is valid
  validated : IsBegunBy letters image → IsValidated image
  validated h = grind (arith, common_steps, all_split, eqb-true, demanded)

  joined : (w over : Walk) (fs gs bits : List FindingValue) → Known w over fs
      → IsDone image (record { walk = w; skipped = over; findings = gs })
      → BitsTell image (record { walk = w; skipped = over; findings = gs }) 2 (blocks image - 2) bits → Shows w (fs ++ bits)
  joined w over (f ∷ fs) gs bits k d t = k
  joined w over [] gs bits k d t =
      let wh = whole w over gs k.2 d in
      cases bits (told t (λ b lo hi. compared w over gs k.2 wh k.0 (validated k.0) b lo (omega arith)))
    where
      cases : (bits : List FindingValue) → Told w 2 (blocks image - 2) bits → Shows w bits
      cases [] h = (k.0, k.1, whole w over gs k.2 d, h)
      cases (f ∷ fs) h = at_bitmap k.0 w k.1 (whole w over gs k.2 d) h

  module _ (past : List FindingValue) (begins : Reads image letters past) where
    -- then the letters are those of the image
    plain : (w : Walk) (r : Role) (a b : ℕ) (j : JudgementValue) → IsBegunBy letters image → Judged r (demands_in image w r a b) j
        → Judged r (demands_by letters image w r a b) j
    plain w r a b j begun h = grind (arith, common_steps, all_split)

    stepped : (w over : Walk) (fs gs : List FindingValue) (r : Role) (a i : ℕ) (j : JudgementValue) → Known w over fs
        → IsNext image (record { walk = w; skipped = over; findings = gs }) r a i → Judged r (demands_in image w r a (word_in image a i)) j
        → let s : Course = after (record { walk = w; skipped = over; findings = fs }) r (word_in image a i) j in Known s.walk s.skipped s.findings
    stepped w over [] gs r a i clean k n h = (k.0, walk_step k.1 (due w over gs r a i k.2 n) refl (plain w r a (word_in image a i) clean k.0 h), k.2)
    stepped w over [] gs r a i (reported at c) k n h =
        at_due k.0 w r a i k.1 (due w over gs r a i k.2 n) (plain w r a (word_in image a i) (reported at c) k.0 h).0
    stepped w over [] gs r a i (skipped at c) k n h =
        at_due k.0 w r a i k.1 (due w over gs r a i k.2 n) (plain w r a (word_in image a i) (skipped at c) k.0 h).0
    stepped w over (f ∷ fs) gs r a i clean k n h = k
    stepped w over (f ∷ fs) gs r a i _ k n h = k

    -- the findings are those of the type and these, of which this holds
    abbrev Past : (List FindingValue → Type 0) → List FindingValue → Type 0
    Past holds fs = (rest : List FindingValue) × (fs ≡ past ++ rest) × holds rest

    -- the first finding of boot block and root
    started : {fs gs : List FindingValue} → BootTells image fs → RootTells image gs → Past (Known ((Root, root_of image) ∷ []) []) (fs ++ gs)
    started {fs} {gs} b t = elim (begins.boot b) [ inl x ↦ sound gs x t | inr x ↦ failed x ]
      where
        failed : ((f : FindingValue) × (fs ≡ past ++ f ∷ []) × FirstFails (boot_demands_by letters image) f.block f.cause)
            → Past (Known ((Root, root_of image) ∷ []) []) (fs ++ gs)
        failed (f, is, fails) = (
          f ∷ gs,
          ap (λ l. l ++ gs) is ∙ append_assoc past (f ∷ []) gs,
          at_boot (fails_left (boot_demands_by letters image) (root_demands image (root_of image)) f.block f.cause fails),
        )

        sound : (gs : List FindingValue) → ((fs ≡ past) × AllHold (boot_demands_by letters image)) → RootTells image gs
            → Past (Known ((Root, root_of image) ∷ []) []) (fs ++ gs)
        sound gs x (clean_root g) =
            ([], ap (λ l. l ++ []) x.0, (all_append (boot_demands_by letters image) (root_demands image (root_of image)) x.1 g, walk_start, refl))
        sound gs x (reported_root {at = at} {c = c} g) =
            (gs, ap (λ l. l ++ gs) x.0, at_boot (fails_right (boot_demands_by letters image) (root_demands image (root_of image)) at c x.1 g.0))

    joins : (fs : List FindingValue) (f : FindingValue) (rest : List FindingValue) → fs ≡ past ++ rest → fs ++ f ∷ [] ≡ past ++ (rest ++ f ∷ [])
    joins fs f rest e = ap (λ l. l ++ f ∷ []) e ∙ append_assoc past rest (f ∷ [])

    -- a part that is next adds to the findings at the end
    more : (s : Course) (r : Role) (b : ℕ) (j : JudgementValue) (rest : List FindingValue) → s.findings ≡ past ++ rest
        → (after s r b j).findings ≡ past ++ (after (record { walk = s.walk; skipped = s.skipped; findings = rest }) r b j).findings
    more s r b j rest h = grind (arith, common_steps, joins)

    known : {s : Course} → IsCourse image s → Past (Known s.walk s.skipped) s.findings
    known (start b t) = started b t
    known (step {s = s} {r = r} {a = a} {i = i} j v n h) =
        let (rest, e, k) = known v in (
          (after (record { walk = s.walk; skipped = s.skipped; findings = rest }) r (word_in image a i) j).findings,
          more s r (word_in image a i) j rest e,
          same_parts s rest r (word_in image a i) j (stepped s.walk s.skipped rest s.findings r a i j k n h),
        )
      where
        same_parts : (s : Course) (rest : List FindingValue) (r : Role) (b : ℕ) (j : JudgementValue)
            → let z : Course = after (record { walk = s.walk; skipped = s.skipped; findings = rest }) r b j in
            Known z.walk z.skipped z.findings → Known (after s r b j).walk (after s r b j).skipped z.findings
        same_parts s rest r b clean k = k
        same_parts s rest r b (reported at c) k = k
        same_parts s rest r b (skipped at c) k = k

    pub shown : {w : Walk} {fs : List FindingValue} → IsSurvey image w fs → Past (Shows w) fs
    shown (unread (bad_boot {at = at} {c = c} h e)) =
        let (none, fails) = begins.bad h e in (
          finding None at c ∷ [],
          ap (λ l. l ++ finding None at c ∷ []) (sym none),
          at_boot (fails_left (boot_demands_by letters image) (root_demands image (root_of image)) at c fails),
        )
    shown {w = w} (unread (bad_root {boot = boot} {at = at} {c = c} b g)) = elim (begins.boot b) [ inl x ↦ sound x | inr x ↦ failed x ]
      where
        failed : ((f : FindingValue) × (boot ≡ past ++ f ∷ []) × FirstFails (boot_demands_by letters image) f.block f.cause)
            → Past (Shows []) (boot ++ finding None at c ∷ [])
        failed (f, is, fails) = (
          f ∷ finding None at c ∷ [],
          ap (λ l. l ++ finding None at c ∷ []) is ∙ append_assoc past (f ∷ []) (finding None at c ∷ []),
          at_boot (fails_left (boot_demands_by letters image) (root_demands image (root_of image)) f.block f.cause fails),
        )

        sound : ((boot ≡ past) × AllHold (boot_demands_by letters image)) → Past (Shows []) (boot ++ finding None at c ∷ [])
        sound x = (
          finding None at c ∷ [],
          ap (λ l. l ++ finding None at c ∷ []) x.0,
          at_boot (fails_right (boot_demands_by letters image) (root_demands image (root_of image)) at c x.1 g.0),
        )
    shown (read {s = s} {bits = bits} v d t) =
        let (rest, is, k) = known v in
        (rest ++ bits, ap (λ l. l ++ bits) is ∙ append_assoc past rest bits, joined s.walk s.skipped rest s.findings bits k d t)

    -- the first finding behind those of the type is the first fault
    pub first_finding : (w : Walk) (f : FindingValue) (fs : List FindingValue) → IsSurvey image w (past ++ f ∷ fs)
        → FirstFaultBy letters image f.block f.cause
    first_finding w f fs v = let (rest, is, k) = shown v in subst (Shows w) (append_cancel_left past _ _ (sym is)) k

    -- what a survey without others tells, fits
    pub shows_none : (w : Walk) → IsSurvey image w past → Shows w []
    shows_none w v = let (rest, is, k) = shown v in subst (Shows w) (append_cancel_left past _ _ (sym is ∙ sym (append-nil past))) k

    pub none_found : (w : Walk) → IsSurvey image w past → FitsBy letters image (tree_in_by letters image w) (layout_in w)
    none_found w v =
        let (begun, walk, whole, bits) = shows_none w v in
        let (boot, root) = all_split (boot_demands_by letters image) (root_demands image (root_of image)) begun in
        fits image w walk whole boot root bits

    -- where a tree and a layout fit, a survey has no other finding
    pub finds_none : (t : Tree) (l : Layout) (w : Walk) (fs : List FindingValue) → FitsBy letters image t l
        → IsSurvey image w fs → fs ≡ past
    finds_none t l w fs fit v = let (rest, is, k) = shown v in is ∙ ap (λ l. past ++ l) (none rest k) ∙ append-nil past
      where
        none : (rest : List FindingValue) → Shows w rest → rest ≡ []
        none [] k = refl
        none (f ∷ fs) k = absurd (none_fits image f.block f.cause t l k fit)
