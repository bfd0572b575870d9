-- The findings of the bits.
use Rattle.std.proofs.Common.{Bool, true, false, ◌||◌, not, Option, Some, None, IsTrue, ◌↔◌, ◌≡◌, ℕ, suc, List, [], ◌∷◌, ◌++◌, inl, inr, ◌+◌, ◌-◌, ◌/◌, ◌%◌}
use Rattle.std.proofs.Common.{zero, slice_index_or, ◌*◌, ◌<◌, ◌≤◌, refl, sym, subst, ◌∙◌, arith, add-one, IsBitSet}
use Rattle.std.specs.{Ordering.nat_cmp, BTreeMap.BTreeMap, BTreeMap.get}
use Rattle.std.proofs.{lemmas.List.append_assoc, lemmas.List.append-nil, lemmas.Grind.common_steps}
use Rattle.adf_blocks.specs.{declared.cause.Cause.Cause, Sizes.blocks}
use Rattle.adf_blocks.specs.declared.layout.TheConstants.{PAGE_BITS, PAGE_FIRST, PAGE_WORDS}
use Rattle.adf_volume.specs.{Image.IsFreeAt, Image.word_in, Walk.Has, Walk.IsAbsent, Walk.IsFreeIn, Walk.Walk, Walk.Role.Page}
use Rattle.adf_volume.proofs.{Gathered.one_block, Roles.has_role, Roles.same_refl}
use Rattle.adf_findings.specs.{declared.found.Found.Found, declared.finding.Finding.Finding, Parts.finding_value, Forms.Tells, Members.at_role, Members.owns}
use Rattle.adf_findings.specs.Survey.{BitsTell, Course, FindingValue, IsCourse, IsUnexcused, IsValidated, finding, is_cache}
use Rattle.adf_findings.specs.Survey.BitsTell.{agrees, differs, ends}
use Rattle.adf_findings.specs.Bits.{IsBitCompared, IsPageCompared}
use Rattle.adf_findings.specs.Found.{BitTells, IsCompleted, IsFinished, HasReportedOn, TellsOn, Stands, bit_cause, is_owned}
use Rattle.adf_findings.proofs.{WalkOwners.owned_is, RoleBlocks.at_has, RoleBlocks.lacks_at, Known.tells_absent, OneSurvey.gathered}

-- the page at a page's place is in the walk
pub has_page : (w : Walk) (page at : ℕ) → at_role w (Page page) ≡ Some at → Has w (Page page) at
has_page w page at e = let y = at_has w (Page page) at e in has_role w (Page page) (λ n p s j h. cc) y.0 at y.1 y.2

module _ (image : List ℕ) (f : Found) (s : Course) (v : IsCourse image s) (st : Stands image f s) (b : ℕ) where
  abbrev page : ℕ
  page = (b - 2) / PAGE_BITS

  page_has : (at : ℕ) → get nat_cmp f.pages page ≡ Some at → Has s.walk (Page page) at
  page_has at e = has_page s.walk page at (sym (st.pages page) ∙ e)

  -- without its page a bit is not compared
  no_page : get nat_cmp f.pages page ≡ None → BitTells image s b None
  no_page e c = absurd (lacks_at s.walk (Page page) (sym (st.pages page) ∙ e) (Page page) c.1.0 c.1.1 (same_refl (Page page)))

  tells_free : (at : ℕ) (t : Bool) → Has s.walk (Page page) at → (IsTrue t ↔ IsFreeAt image at ((b - 2) % PAGE_BITS))
      → Tells t (IsFreeIn image s.walk b)
  tells_free at true h free = (at, h, free.0 refl)
  tells_free at false h free = λ y.
      let one : y.0 ≡ at = (one_block image (gathered image v) (Page page) (Page page) y.0 at y.1 h (same_refl (Page page))).1 in
      let z : IsTrue false = free.1 (subst (λ a. IsFreeAt image a ((b - 2) % PAGE_BITS)) one y.2) in cc

  -- a block has an excuse if it was skipped or is a directory cache
  tells_excuse : (p k : Bool) → Tells (not p) (IsAbsent s.skipped b) → k ≡ is_cache image b → Tells (not (p || k)) (IsUnexcused image s b)
  tells_excuse p k h l = grind (arith, common_steps)

  tells_bit : (o a t : Bool) (at : ℕ) → IsValidated image → Has s.walk (Page page) at → Tells (not o) (IsAbsent s.walk b)
      → Tells (not a) (IsUnexcused image s b) → Tells t (IsFreeIn image s.walk b) → BitTells image s b (bit_cause o a t)
  tells_bit false false false at vd h ow av fr = ((vd, (at, h), (λ x. av)), inl ((λ k. fr (k ow)), refl, refl))
  tells_bit false true false at vd h ow av fr = λ c. absurd (av (c.2 ow))
  tells_bit false _ true at vd h ow av fr = λ c. ((λ x. fr), ((λ x. ow), tt))
  tells_bit true _ true at vd h ow av fr = ((vd, (at, h), (λ x. absurd (ow x))), inr ((λ x. fr), inl ((λ k. ow (k fr)), refl, refl)))
  tells_bit true _ false at vd h ow av fr = λ c. ((λ x. absurd (ow x)), ((λ x. absurd (fr x)), tt))

  -- a bit that is not compared tells nothing
  pub none_tells : IsPageCompared image f.pages b None → BitTells image s b None
  none_tells none c = no_page (none c.0) c

  -- with its page the bit tells by whose the block is
  pub page_tells : (o p k t : Bool) (at : ℕ) → o ≡ owns s.walk b → p ≡ owns s.skipped b → k ≡ is_cache image b
      → IsPageCompared image f.pages b (Some at) → (IsTrue t ↔ IsFreeAt image at ((b - 2) % PAGE_BITS)) → BitTells image s b (bit_cause o (p || k) t)
  page_tells o p k t at oe pe ke x free =
      let h = page_has at x.1 in
      tells_bit o (p || k) t at x.0 h (subst (λ o. Tells (not o) (IsAbsent s.walk b)) (sym oe) (tells_absent s.walk b))
      (tells_excuse p k (subst (λ p. Tells (not p) (IsAbsent s.skipped b)) (sym pe) (tells_absent s.skipped b)) ke) (tells_free at t h free)

  -- so it does by what is kept of the block
  pub bit_tells : (t : Bool) → b < blocks image → IsBitCompared image f.pages b t
      → BitTells image s b (bit_cause (is_owned f b) (slice_index_or f.skipped.items b false || is_cache image b) t)
  bit_tells t lt x = page_tells _ _ _ t x.0 (owned_is st.owners b) (st.skipped.marked b lt) refl x.1 x.2

  quiet : (o x t : Bool) → t ≡ not o → bit_cause o x t ≡ None
  quiet o x t h = grind (arith, common_steps)

  -- nothing where it is set for a block without an owner alone
  pub agreed_tells : (t : Bool) → b < blocks image → IsBitCompared image f.pages b t → t ≡ not (is_owned f b)
      → BitTells image s b None
  agreed_tells t lt x e =
      subst (BitTells image s b) (quiet (is_owned f b) (slice_index_or f.skipped.items b false || is_cache image b) t e)
      (bit_tells t lt x)

-- a bit of the same page is compared as this one
pub page_on : (image : List ℕ) (pages : BTreeMap ℕ ℕ) (b c : ℕ) (page : Option ℕ) → (b - 2) / PAGE_BITS ≡ (c - 2) / PAGE_BITS
    → IsPageCompared image pages b page → IsPageCompared image pages c page
page_on image pages b c None same h = λ v. subst (λ i. get nat_cmp pages i ≡ None) same (h v)
page_on image pages b c (Some at) same h = (h.0, subst (λ i. get nat_cmp pages i ≡ Some at) same h.1)

-- the page of a word is that of its first bit
pub page_is : (image : List ℕ) (pages : BTreeMap ℕ ℕ) (i : ℕ) (page : Option ℕ) → IsValidated image
    → page ≡ get nat_cmp pages (i / PAGE_WORDS) → IsPageCompared image pages (2 + 32 * i) page
page_is image pages i page valid e = grind (arith, common_steps)

-- the bits of a word are those of its page
module _ (image : List ℕ) (pages : BTreeMap ℕ ℕ) (i at word : ℕ) (is : word ≡ word_in image at (PAGE_FIRST + i % PAGE_WORDS)) (b : ℕ)
    (lo : 2 + 32 * i ≤ b) (hi : b < 2 + 32 * i + 32) where
  pub same_page : (2 + 32 * i - 2) / PAGE_BITS ≡ (b - 2) / PAGE_BITS
  same_page = omega arith

  word_at : PAGE_FIRST + (b - 2) % PAGE_BITS / 32 ≡ PAGE_FIRST + i % PAGE_WORDS
  word_at = omega arith

  bit_at : (b - 2) % PAGE_BITS % 32 ≡ b - (2 + 32 * i)
  bit_at = omega arith

  pub bit_compared : (t : Bool) → IsPageCompared image pages (2 + 32 * i) (Some at) → (IsTrue t ↔ IsBitSet word (b - (2 + 32 * i)))
      → IsBitCompared image pages b t
  bit_compared t page told = (at, page_on image pages (2 + 32 * i) b (Some at) same_page page, rw (word_at, bit_at, sym is) told)

pub tells_none : (image : List ℕ) (s : Course) (b : ℕ) (gs : List FindingValue) → 2 ≤ b → BitTells image s b None
    → TellsOn image s b gs → TellsOn image s (b + 1) gs
tells_none image s b gs lo t on n fs h =
    let more : b - 2 + suc n ≡ b + 1 - 2 + n = omega arith in
    subst (λ m. BitsTell image s 2 m (gs ++ fs)) more (on (suc n) fs (agrees t (subst (λ c. BitsTell image s c n fs) (add-one b) h)))

pub tells_some : (image : List ℕ) (s : Course) (b : ℕ) (gs : List FindingValue) (c : Cause) → 2 ≤ b → BitTells image s b (Some c)
    → TellsOn image s b gs → TellsOn image s (b + 1) (gs ++ finding None b c ∷ [])
tells_some image s b gs c lo t on n fs h =
    let more : b - 2 + suc n ≡ b + 1 - 2 + n = omega arith in
    subst (λ m. BitsTell image s 2 m (gs ++ finding None b c ∷ [] ++ fs)) more
    (subst (BitsTell image s 2 (b - 2 + suc n)) (sym (append_assoc gs (finding None b c ∷ []) fs))
    (on (suc n) (finding None b c ∷ fs) (differs t.0 t.1 (subst (λ c. BitsTell image s c n fs) (add-one b) h))))

-- the bits of no block are compared at first, and at last all are
pub none_reported : (image : List ℕ) (s : Course) → TellsOn image s 2 []
none_reported image s n fs h = let e : n ≡ 2 - 2 + n = omega arith in subst (λ n. BitsTell image s 2 n fs) e h

pub all_reported : (image : List ℕ) (s : Course) (b : ℕ) (gs : List FindingValue) → TellsOn image s b gs → BitsTell image s 2 (b - 2) gs
all_reported image s b gs on =
    let e : b - 2 + 0 ≡ b - 2 = omega arith in
    subst (λ n. BitsTell image s 2 n gs) e (subst (BitsTell image s 2 (b - 2 + 0)) (append-nil gs) (on 0 [] ends))

pub none_on : (image : List ℕ) (f : Found) (hs : List FindingValue) (b : ℕ) → 2 ≤ b
    → ((s : Course) → IsCourse image s → Stands image f s → BitTells image s b None) → HasReportedOn image f hs b → HasReportedOn image f hs (b + 1)
none_on image f hs b lo tells (s, gs, told, on) = (s, gs, told, tells_none image s b gs lo (tells s told.course told.stands) on)

-- the finding of a bit
module _ (image : List ℕ) (f : Found) (hs : List FindingValue) (b : ℕ) (c : Cause) (x : Finding) (lo : 2 ≤ b)
    (is : x ≡ record { part = None; block = b; cause = c })
    (tells : (s : Course) → IsCourse image s → Stands image f s → BitTells image s b (Some c)) where
  more : (s : Course) (gs : List FindingValue) → s.findings ++ gs ≡ hs → s.findings ++ (gs ++ finding None b c ∷ []) ≡ hs ++ finding_value x ∷ []
  more s gs told = grind (arith, common_steps, append_assoc)

  pub some_on : (js : List FindingValue) → js ≡ hs ++ finding_value x ∷ [] → HasReportedOn image f hs b → HasReportedOn image f js (b + 1)
  some_on js same (s, gs, told, on) = (
    s,
    gs ++ finding None b c ∷ [],
    record { course = told.course; done = told.done; stands = told.stands; told = more s gs told.told ∙ sym same },
    tells_some image s b gs c lo (tells s told.course told.stands) on,
  )

-- the bits of blocks that tell nothing are compared
none_up : (image : List ℕ) (f : Found) (hs : List FindingValue) (n b : ℕ) → 2 ≤ b
    → ((c : ℕ) → b ≤ c → c < b + n → (s : Course) → IsCourse image s → Stands image f s → BitTells image s c None)
    → HasReportedOn image f hs b → HasReportedOn image f hs (b + n)
none_up image f hs zero b lo none h = let e : b ≡ b + 0 = omega arith in subst (HasReportedOn image f hs) e h
none_up image f hs (suc n) b lo none h =
    let e : b + 1 + n ≡ b + suc n = omega arith in
    subst (HasReportedOn image f hs) e (none_up image f hs n (b + 1) (omega arith) (λ c le lt. none c (omega arith) (omega arith))
    (none_on image f hs b lo (none b (omega arith) (omega arith)) h))

none_to : (image : List ℕ) (f : Found) (hs : List FindingValue) (b end : ℕ) → 2 ≤ b → b ≤ end
    → ((c : ℕ) → b ≤ c → c < end → (s : Course) → IsCourse image s → Stands image f s → BitTells image s c None)
    → HasReportedOn image f hs b → HasReportedOn image f hs end
none_to image f hs b end lo le none h =
    let e : b + (end - b) ≡ end = omega arith in
    subst (HasReportedOn image f hs) e (none_up image f hs (end - b) b lo (λ c from to. none c from (omega arith)) h)

flipped : (o : Bool) (P : Type 0) → (P ↔ (o ≡ false)) → IsTrue (not o) ↔ P
flipped true P h = ((λ t. cc), (λ p. let e : true ≡ false = h.0 p in cc))
flipped false P h = ((λ t. h.1 refl), (λ p. refl))

-- the bits of a word, up to a block
module _ (image : List ℕ) (f : Found) (hs : List FindingValue) (i end : ℕ) (lo : 2 + 32 * i ≤ end) (hi : end ≤ 2 + 32 * i + 32)
    (reported : HasReportedOn image f hs (2 + 32 * i)) where
  -- without their page none is compared
  pub none_compared : IsPageCompared image f.pages (2 + 32 * i) None → HasReportedOn image f hs end
  none_compared page =
      none_to image f hs (2 + 32 * i) end (omega arith) lo
      (λ c from to s v st.
      let same : (2 + 32 * i - 2) / PAGE_BITS ≡ (c - 2) / PAGE_BITS = omega arith in
      none_tells image f s v st c (page_on image f.pages (2 + 32 * i) c None same page))
      reported

  -- none disagrees where they are set for the blocks without an owner alone
  pub all_agreed : (at word : ℕ) → word ≡ word_in image at (PAGE_FIRST + i % PAGE_WORDS) → end ≤ blocks image
      → IsPageCompared image f.pages (2 + 32 * i) (Some at)
      → ((b : ℕ) → 2 + 32 * i ≤ b → b < end → IsBitSet word (b - (2 + 32 * i)) ↔ (is_owned f b ≡ false))
      → HasReportedOn image f hs end
  all_agreed at word is few page agree =
      none_to image f hs (2 + 32 * i) end (omega arith) lo
      (λ c from to s v st.
      let o : Bool = is_owned f c in
      agreed_tells image f s v st c (not o) (omega arith)
      (bit_compared image f.pages i at word is c from (omega arith) (not o) page
      (flipped o (IsBitSet word (c - (2 + 32 * i))) (agree c from to))) refl)
      reported

pub reported_first : (image : List ℕ) (f : Found) (hs : List FindingValue) → IsFinished image f hs → HasReportedOn image f hs 2
reported_first image f hs (s, course, done, stands, told) = grind (arith, common_steps, append-nil, none_reported)

pub reported_last : (image : List ℕ) (f : Found) (hs : List FindingValue) (b : ℕ) → b ≡ blocks image → HasReportedOn image f hs b
    → IsCompleted image f hs
reported_last image f hs b e (s, gs, told, on) = (s, gs, told, subst (λ b. BitsTell image s 2 (b - 2) gs) e (all_reported image s b gs on))
