-- The marks of a finished course are those of its sound entries.
use Rattle.std.specs.Prelude.{Bool, true, false, cond, not, ◌==◌, ◌&&◌, ◌||◌, nat_lt, map, Option, Some, None, slice_index, slice_index_or, ◌↔◌}
use Rattle.std.proofs.Common.{◌≡◌, ℕ, zero, suc, ◌-◌, List, [], ◌∷◌, ◌++◌, length, ◌⊎◌, inl, inr, ◌<◌, ◌≤◌, refl, sym, ap, subst, ◌∙◌, arith}
use Rattle.std.specs.Option.{option_map, unwrap_or}
use Rattle.std.proofs.lemmas.Bool.{and_parts, cases_Bool, cases_lt, eq-eqb, eqb-true, not-true, or_cases, or_parts, Decides.eqb_tells, Decides.nat_tests}
use Rattle.std.proofs.lemmas.Grind.{common_steps}
use Rattle.adf_names.specs.declared.kind.Kind.{Kind, TheVariants.Ofs, TheVariants.Ffs}
use Rattle.adf_blocks.specs.{Sizes.blocks, declared.layout.TheConstants.TYPE, declared.layout.TheConstants.T_DATA}
use Rattle.adf_volume.specs.{Image.kind_of, Image.root_of, Image.word_in, Lists.In, Parts.renumbered}
use Rattle.adf_volume.specs.Walk.{Role, Same, Has, Asks, Lacks, heads, node_block, Walk, Role.Root, Role.Head, Role.Ext, Role.Data}
use Rattle.adf_volume.proofs.Gathered.{IsGathered, asks_one, head_block, number_of, numbered as has_number, one_block, one_head}
use Rattle.adf_volume.proofs.{Lists.in_cases, OneFault.number_is, AsksSplit.asks_more, PartDemands.part_holds_by}
use Rattle.adf_volume.proofs.Roles.{asks_number, dec_has, head_at, head_role, renumbered_same, same_of, same_refl, same_role}
use Rattle.adf_volume.specs.declared.part.Part.{Part, TheVariants.Head as HeadPart, TheVariants.Ext as ExtPart, TheVariants.Data as DataPart}
use Rattle.adf_findings.specs.{declared.finding.Finding.Finding, declared.found.Found.Found, Concerned.node_of, Found.Stands, Members.owns}
use Rattle.adf_findings.specs.{Marks.number_in_block, Parts.part_role, Parts.finding_value, Sound.IsSound, Sound.IsUnreported, Sound.says_data_of}
use Rattle.adf_findings.specs.{Survey.BitsTell.agrees, Survey.BitsTell.differs, Survey.BitsTell.ends, Survey.IsCourse.start, Survey.IsCourse.step}
use Rattle.adf_findings.specs.{Survey.RootTells.clean_root, Survey.RootTells.reported_root, Survey.UnreadTells.bad_boot, Survey.UnreadTells.bad_root}
use Rattle.adf_findings.specs.declared.concern.Concern.TheVariants.{Entry, Within}
use Rattle.adf_findings.proofs.WalkOwners.{both, entry_is, number_is as data_number_is}
use Rattle.adf_findings.specs.Marks.{blamed, doubted, entry_in_block, is_blamed, is_clear, is_doubted, is_doubtful, is_node, is_header, is_said}
use Rattle.adf_findings.specs.Survey.{BitsTell, BootTells, Course, FindingValue, IsCourse, IsDone, IsNext, RootTells, UnreadTells, finding}
use Rattle.adf_findings.specs.Survey.JudgementValue.{clean, reported, skipped}
use Rattle.adf_findings.proofs.{BlockOwners.first_with, BlockOwners.held_data, HeadPlaces.found_header, HeadPlaces.header_found, Known.tells_absent}
use Rattle.adf_findings.proofs.{OneSurvey.gathered, JudgementTests.itself_holds, SoundEntries.one_role}

module _ (image : List ℕ) where
  -- the part was taken or skipped
  abbrev Settled : Course → Role → Type 0
  Settled s q = ((b : ℕ) × Has s.walk q b) ⊎ ((b : ℕ) × Has s.skipped q b)

  new_part : (r q : Role) (f g : FindingValue) → f.part ≡ Some r → In (f ∷ []) g → g.part ≡ Some q → r ≡ q
  new_part r q f g e (inl x) p = let z : Some r ≡ Some q = sym e ∙ (ap (λ f. f.part) x ∙ p) in cc
  new_part r q f g e (inr h) p = absurd h

  settled_more : (s : Course) (r q : Role) (b : ℕ) (fs : List FindingValue) → Settled s q
      → Settled (record { walk = (r, b) ∷ s.walk; skipped = s.skipped; findings = fs }) q
  settled_more s r q b fs (inl h) = inl (h.0, inr h.1)
  settled_more s r q b fs (inr h) = inr h

  -- the boot block tells of no part
  boot_none : {fs : List FindingValue} → BootTells image fs → (f : FindingValue) → In fs f → f.part ≡ None
  boot_none h f k = grind (arith, common_steps)

  -- nor does an image of which nothing is taken
  pub unread_none : {fs : List FindingValue} → UnreadTells image fs → (f : FindingValue) → In fs f → f.part ≡ None
  unread_none (bad_boot h e) f (inl k) = ap (λ f. f.part) (sym k)
  unread_none (bad_boot h e) f (inr m) = absurd m
  unread_none (bad_root {boot = fs} {at = at} {c = c} b h) f m = grind (arith, common_steps, in_cases, boot_none)

  -- the root of itself
  root_part : {fs : List FindingValue} → RootTells image fs → (f : FindingValue) (q : Role) → In fs f → f.part ≡ Some q → Root ≡ q
  root_part (clean_root h) f q m e = absurd m
  root_part (reported_root {at = at} {c = c} h) f q m e = new_part Root q (finding (Some Root) at c) f refl m e

  -- a part that a finding concerns was taken or skipped
  reported_settled : {s : Course} → IsCourse image s → (f : FindingValue) (q : Role) → In s.findings f → f.part ≡ Some q → Settled s q
  reported_settled (start {boot = fs} {root = gs} b t) f q m e =
      elim (in_cases fs gs f m) [
        | inl k ↦ let none : Some q ≡ None = sym e ∙ boot_none b f k in absurd (cc)
        | inr k ↦ inl (root_of image, inl (root_part t f q k e, refl))
      ]
  reported_settled (step {s = s} {r = r} {a = a} {i = i} clean v n g) f q m e = grind (arith, common_steps, settled_more, reported_settled v f q m e)
  reported_settled (step {s = s} {r = r} {a = a} {i = i} (reported at c) v n g) f q m e =
      elim (in_cases s.findings (finding (Some r) at c ∷ []) f m) [
        | inl k ↦ settled_more s r q (word_in image a i) s.findings (reported_settled v f q k e)
        | inr k ↦ inl (word_in image a i, inl (new_part r q (finding (Some r) at c) f refl k e, refl))
      ]
  reported_settled (step {s = s} {r = r} {a = a} {i = i} (skipped at c) v n g) f q m e =
      elim (in_cases s.findings (finding (Some r) at c ∷ []) f m) [
        | inl k ↦ elim (reported_settled v f q k e) [ inl h ↦ inl h | inr h ↦ inr (h.0, inr h.1) ]
        | inr k ↦ inr (word_in image a i, inl (new_part r q (finding (Some r) at c) f refl k e, refl))
      ]

  -- the bits tell of no part
  bits_none : {s : Course} {b n : ℕ} {fs : List FindingValue} → BitsTell image s b n fs → (f : FindingValue) → In fs f → f.part ≡ None
  bits_none ends f m = absurd m
  bits_none (agrees h t) f m = bits_none t f m
  bits_none (differs h k t) f (inl e) = ap (λ f. f.part) (sym e)
  bits_none (differs h k t) f (inr m) = bits_none t f m

  new_apart : (w : Walk) (z r q : Role) (c : ℕ) → Lacks w z → z ≡ r → Has w q c → Same r q → ⊥
  new_apart w z r q c l e k same = let t : Same z r = same_of z r e in l q c k (omega arith)

  -- what is taken was not skipped
  pub apart : {s : Course} → IsCourse image s → (r q : Role) (b c : ℕ) → Has s.walk r b → Has s.skipped q c → Same r q → ⊥
  apart (start boot root) r q b c h k same = k
  apart (step {s = s} {r = z} (skipped at d) v n g) r q b c h (inl e) same = new_apart s.walk z q r b n.lacks e.0 h (omega arith)
  apart (step (skipped at d) v n g) r q b c h (inr k) same = apart v r q b c h k same
  apart (step {s = s} {r = z} _ v n g) r q b c (inl e) k same = new_apart s.skipped z r q c n.unskipped e.0 k same
  apart (step _ v n g) r q b c (inr h) k same = apart v r q b c h k same

  -- the walk asks for the part, a header with the next number, in block b
  pub record Wanted (w : Walk) (r : Role) (b : ℕ) : Type 0 where
    pub holder : ℕ
    pub word : ℕ
    pub asked : Asks image w (renumbered (suc (heads w)) r) holder word
    pub named : word_in image holder word ≡ b

  own_number : (w : Walk) (r : Role) (a i : ℕ) → Asks image w r a i → r ≡ renumbered (suc (heads w)) r
  own_number w (Head n p s j) a i h = ap (λ n. Head n p s j) (asks_number image w n p s j a i h)
  own_number w _ a i h = refl

  wanted_now : (w : Walk) (r : Role) (a i : ℕ) → Asks image w r a i → Wanted w r (word_in image a i)
  wanted_now w r a i h = record { holder = a; word = i; asked = subst (λ r. Asks image w r a i) (own_number w r a i h) h; named = refl }

  wanted_later : (s : Course) (z : Role) (a i c : ℕ) → IsCourse image s → IsNext image s z a i → (r : Role) (b : ℕ) → Wanted s.walk r b
      → Wanted ((z, c) ∷ s.walk) r b
  wanted_later s z a i c v n r b x = grind (arith, common_steps, asks_more)

  wanted_new : (s : Course) (z : Role) (a i : ℕ) → IsCourse image s → IsNext image s z a i → (r : Role) (b : ℕ)
      → (Has s.walk r b → (Root ≡ r) ⊎ Wanted s.walk r b) → Has ((z, word_in image a i) ∷ s.walk) r b
      → (Root ≡ r) ⊎ Wanted ((z, word_in image a i) ∷ s.walk) r b
  wanted_new s z a i v n r b again (inl e) = grind (arith, common_steps, wanted_later, wanted_now)
  wanted_new s z a i v n r b again (inr h) = grind (arith, common_steps, wanted_later)

  -- what is taken is asked for in its block
  pub taken_wanted : {s : Course} → IsCourse image s → (r : Role) (b : ℕ) → Has s.walk r b → (Root ≡ r) ⊎ Wanted s.walk r b
  taken_wanted (start boot root) r b (inl e) = inl e.0
  taken_wanted (start boot root) r b (inr h) = absurd h
  taken_wanted (step (skipped at c) v n g) r b h = taken_wanted v r b h
  taken_wanted (step {s = s} {r = z} {a = a} {i = i} _ v n g) r b h = wanted_new s z a i v n r b (taken_wanted v r b) h

  -- what was skipped is asked for in its block
  skipped_wanted : {s : Course} → IsCourse image s → (r : Role) (b : ℕ) → Has s.skipped r b → Wanted s.walk r b
  skipped_wanted (start boot root) r b h = absurd h
  skipped_wanted (step {s = s} {r = z} {a = a} {i = i} (skipped at c) v n g) r b (inl e) = grind (arith, common_steps, wanted_now)
  skipped_wanted (step (skipped at c) v n g) r b (inr h) = skipped_wanted v r b h
  skipped_wanted (step {s = s} {r = z} {a = a} {i = i} _ v n g) r b h = wanted_later s z a i (word_in image a i) v n r b (skipped_wanted v r b h)

  -- what is asked for in one place of the order is asked for in one block
  one_wanted : (w : Walk) → IsGathered image w → (r q : Role) (a i b : ℕ) → Wanted w r b → Asks image w q a i → Same r q
      → b ≡ word_in image a i
  one_wanted w v r q a i b x h same = grind (arith, common_steps, renumbered, renumbered_same, same_role, number_is, asks_one)

  no_root : (w : Walk) (q r : Role) (a i : ℕ) → Asks image w q a i → Root ≡ r → Same r q → ⊥
  no_root w Root r a i h e s = h
  no_root w _ r a i h e s = let t : Same Root r = same_of Root r e in omega arith

  pub owner_of : (w : Walk) (b : ℕ) → owns w b ≡ true → (q : Role) × Has w q b
  owner_of [] b e = cc
  owner_of (x ∷ w) b e = elim (or_cases (x.1 == b) (owns w b) e) [
    | inl t ↦ (x.0, inl (refl, eqb-true x.1 b t))
    | inr n ↦ let y = owner_of w b n in (y.0, inr y.1)
  ]

  no_owner_has : (w : Walk) (q : Role) (b : ℕ) → owns w b ≡ false → Has w q b → ⊥
  no_owner_has w q b e h = grind (arith, common_steps, tells_absent w b)

  -- what is taken is inside of the image
  pub inside : {s : Course} → IsCourse image s → (r : Role) (b : ℕ) → (Root ≡ r → ⊥) → Has s.walk r b → b < blocks image
  inside (start boot root) r b other (inl e) = absurd (other e.0)
  inside (start boot root) r b other (inr h) = absurd h
  inside (step {s = s} {r = z} {a = a} {i = i} clean v d g) r b other (inl e) = grind (arith, common_steps, part_holds_by)
  inside (step clean v d g) r b other (inr h) = inside v r b other h
  inside (step {s = s} {r = z} {a = a} {i = i} (reported at c) v d g) r b other (inl e) = grind (arith, common_steps, itself_holds)
  inside (step (reported at c) v d g) r b other (inr h) = inside v r b other h
  inside (step (skipped at c) v d g) r b other h = inside v r b other h

  -- data blocks are numbered from 1
  data_some : {s : Course} → IsCourse image s → (n k b : ℕ) → Has s.walk (Data n k) b → k ≡ 0 → ⊥
  data_some v n zero b h e = elim (taken_wanted v (Data n zero) b h) [ inl r ↦ cc | inr x ↦ x.asked ]
  data_some v n (suc k) b h e = omega arith

  pub data_inside : {s : Course} → IsCourse image s → (n k b : ℕ) → Has s.walk (Data n k) b → b < blocks image
  data_inside v n k b h = inside v (Data n k) b (λ e. cc) h

  module _ {s : Course} (v : IsCourse image s) (done : IsDone image s) where
    -- what is asked for at the end was taken or skipped, in the block that is asked for
    pub settled_at : (q : Role) (a i b : ℕ) → Asks image s.walk q a i → word_in image a i ≡ b
        → ((r : Role) × Has s.walk r b × Same r q) ⊎ ((r : Role) × Has s.skipped r b × Same r q)
    settled_at q a i b h e = elim (dec_has s.walk q) [
      | inr x ↦ elim (taken_wanted v x.role x.block x.has) [
        | inl root ↦ absurd (no_root s.walk q x.role a i h root x.same)
        | inr y ↦ inl (x.role, subst (Has s.walk x.role) (one_wanted s.walk (gathered image v) x.role q a i x.block y h x.same ∙ e) x.has, x.same)
      ]
      | inl lacks ↦ elim (dec_has s.skipped q) [
        | inl over ↦ absurd (done q a i h lacks over)
        | inr x ↦
            let y = skipped_wanted v x.role x.block x.has in
            inr (x.role, subst (Has s.skipped x.role) (one_wanted s.walk (gathered image v) x.role q a i x.block y h x.same ∙ e) x.has, x.same)
      ]
    ]

    -- a data block at a block that was not skipped is alone there
    pub is_alone : (n k b : ℕ) → Has s.walk (Data n k) b → owns s.skipped b ≡ false → (q : Role) (a i : ℕ) → Asks image s.walk q a i
        → word_in image a i ≡ b → Same q (Data n k)
    is_alone n k b d free q a i h e = elim (settled_at q a i b h e) [
      | inl x ↦
          let z : Same x.0 (Data n k) = same_of x.0 (Data n k) (one_role image v x.0 (Data n k) b x.1 d) in
          let y : Same x.0 q = x.2 in
          omega arith
      | inr x ↦ absurd (no_owner_has s.skipped x.0 b free x.1)
    ]

    -- and only such a one
    pub not_alone : (n k b : ℕ) → Has s.walk (Data n k) b → owns s.skipped b ≡ true
        → ((q : Role) (a i : ℕ) → Asks image s.walk q a i → word_in image a i ≡ b → Same q (Data n k)) → ⊥
    not_alone n k b d over alone = grind (arith, common_steps, owner_of, skipped_wanted, renumbered, renumbered_same, apart)

node_is : (o : Option ℕ) (m : ℕ) → is_node o m ≡ true → o ≡ Some m
node_is None m e = cc
node_is (Some n) m e = ap Some (eqb-true n m e)

node_yes : (o : Option ℕ) (m : ℕ) → o ≡ Some m → is_node o m ≡ true
node_yes o m e = ap (λ o. is_node o m) e ∙ eq-eqb m m refl

-- the node that a finding of the part speaks against
abbrev node_blamed : Found → Option Part → Option ℕ
node_blamed f o = option_map node_of (blamed f o)

blamed_by : (f : Found) (xs : List Finding) (m : ℕ) → is_blamed f xs m ≡ true
    → (x : Finding) × In xs x × (node_blamed f x.part ≡ Some m)
blamed_by f [] m e = cc
blamed_by f (x ∷ xs) m e = elim (or_cases (is_node (node_blamed f x.part) m) (is_blamed f xs m) e) [
  | inl t ↦ (x, inl refl, node_is (node_blamed f x.part) m t)
  | inr n ↦ let y = blamed_by f xs m n in (y.0, inr y.1, y.2)
]

not_blamed : (f : Found) (xs : List Finding) (m : ℕ) (x : Finding) → is_blamed f xs m ≡ false → In xs x
    → node_blamed f x.part ≡ Some m → ⊥
not_blamed f [] m x e h b = h
not_blamed f (y ∷ xs) m x e (inl z) b = grind (arith, common_steps, node_blamed, node_yes)
not_blamed f (y ∷ xs) m x e (inr h) b = not_blamed f xs m x (or_parts (is_node (node_blamed f y.part) m) (is_blamed f xs m) e).1 h b

doubted_by : (image : List ℕ) (f : Found) (k m : ℕ) → is_doubted image f k m ≡ true → (b : ℕ) × (doubted image f b ≡ Some m)
doubted_by image f zero m e = cc
doubted_by image f (suc k) m e = elim (or_cases (is_doubted image f k m) (is_node (doubted image f k) m) e) [
  | inl t ↦ doubted_by image f k m t
  | inr n ↦ (k, node_is (doubted image f k) m n)
]

not_doubted : (image : List ℕ) (f : Found) (k m b : ℕ) → is_doubted image f k m ≡ false → b < k → doubted image f b ≡ Some m → ⊥
not_doubted image f zero m b e lt s = omega arith
not_doubted image f (suc k) m b e lt s =
    let parts = or_parts (is_doubted image f k m) (is_node (doubted image f k) m) e in
    elim (cases_lt b k) [
      | inl l ↦ not_doubted image f k m b parts.0 l s
      | inr ge ↦
          let same : b ≡ k = omega arith in
          let clash : true ≡ false = sym (node_yes (doubted image f b) m s) ∙ (ap (λ b. is_node (doubted image f b) m) same ∙ parts.1) in cc
    ]

-- what a data block tells
abbrev told_of : List ℕ → Found → ℕ → Option ℕ
told_of image f b = cond (slice_index_or f.skipped.items b false || is_said image f b) (Some (entry_in_block f b)) None

-- no block is doubted that was not skipped and has another type
pub none_doubted : (image : List ℕ) (f : Found) (b : ℕ) → (slice_index_or f.skipped.items b false || (word_in image b TYPE == T_DATA)) ≡ false
    → doubted image f b ≡ None
none_doubted image f b e = grind (arith, common_steps, or_parts, both)

-- what is doubted is a data block that was also skipped, or says that it is an OFS one
doubted_is : (image : List ℕ) (f : Found) (b m : ℕ) → doubted image f b ≡ Some m
    → (number_in_block f b ≡ suc (number_in_block f b - 1)) × (entry_in_block f b ≡ m)
    × ((slice_index_or f.skipped.items b false ≡ true) ⊎ (is_said image f b ≡ true))
doubted_is image f b m e = elim (eqb_tells (number_in_block f b) 0) [
  | inl y ↦ let none : None ≡ Some m = ap (λ t. cond t None (told_of image f b)) (sym y.0) ∙ e in cc
  | inr y ↦
      let z =
      go (slice_index_or f.skipped.items b false) (is_said image f b) refl refl (ap (λ t. cond t None (told_of image f b)) (sym y.0) ∙ e) in
      (omega (arith, y.1), z.0, z.1)
]
  where
    go : (p q : Bool) → slice_index_or f.skipped.items b false ≡ p → is_said image f b ≡ q
        → cond (p || q) (Some (entry_in_block f b)) None ≡ Some m
        → (entry_in_block f b ≡ m) × ((slice_index_or f.skipped.items b false ≡ true) ⊎ (is_said image f b ≡ true))
    go true q a b e = (cc, inl a)
    go false true a b e = (cc, inr b)
    go false false a b e = cc

-- and such a one is
doubted_yes : (image : List ℕ) (f : Found) (b : ℕ) → (number_in_block f b ≡ 0 → ⊥)
    → (slice_index_or f.skipped.items b false ≡ true) ⊎ (is_said image f b ≡ true) → doubted image f b ≡ Some (entry_in_block f b)
doubted_yes image f b some doubt = grind (arith, common_steps, eqb_tells)

pub in_values : (xs : List Finding) (x : Finding) → In xs x → In (map finding_value xs) (finding_value x)
in_values [] x h = h
in_values (y ∷ ys) x (inl e) = inl (ap finding_value e)
in_values (y ∷ ys) x (inr h) = inr (in_values ys x h)

in_findings : (xs : List Finding) (g : FindingValue) → In (map finding_value xs) g → (x : Finding) × In xs x × (finding_value x ≡ g)
in_findings [] g h = absurd h
in_findings (y ∷ ys) g (inl e) = (y, inl refl, e)
in_findings (y ∷ ys) g (inr h) = let x = in_findings ys g h in (x.0, inr x.1, x.2)

head_part : (o : Option Part) (n p s j : ℕ) → part_role o ≡ Some (Head n p s j) → o ≡ Some (HeadPart n p s j)
head_part o n p s j h = grind (arith, common_steps)

ext_part : (o : Option Part) (n k : ℕ) → part_role o ≡ Some (Ext n k) → o ≡ Some (ExtPart n k)
ext_part o n k h = grind (arith, common_steps)

data_part : (o : Option Part) (n k : ℕ) → part_role o ≡ Some (Data n k) → o ≡ Some (DataPart n k)
data_part o n k h = grind (arith, common_steps)

ext_of : (q : Role) (n k : ℕ) → Same q (Ext n k) → q ≡ Ext n k
ext_of q n k same = same_role q (Ext n k) same (λ a m p s j e f. cc)

data_of : (q : Role) (n k : ℕ) → Same q (Data n k) → q ≡ Data n k
data_of q n k same = same_role q (Data n k) same (λ a m p s j e f. cc)

-- a part that a finding of a survey concerns was taken or skipped
pub settled : (image : List ℕ) {s : Course} → IsCourse image s → (bits : List FindingValue) {b n : ℕ} → BitsTell image s b n bits
    → (g : FindingValue) (q : Role) → In (s.findings ++ bits) g → g.part ≡ Some q → Settled image s q
settled image {s = s} v bits tells g q h e = grind (arith, common_steps, reported_settled, bits_none, in_cases s.findings bits g h)

-- a header that was skipped is no node's
pub skipped_header : (image : List ℕ) (f : Found) {s : Course} → IsCourse image s → Stands image f s
    → (n p t j b : ℕ) → Has s.skipped (Head n p t j) b → is_header f n p t j ≡ false
skipped_header image f v st n p t j b over =
    grind (arith, common_steps, found_header, apart, cases_Bool (is_header f n p t j), gathered image v, same_refl (Head n p t j))

module _ (image : List ℕ) (f : Found) {s : Course} (v : IsCourse image s) (done : IsDone image s) (bits : List FindingValue) {b n : ℕ}
    (tells : BitsTell image s b n bits) (all : List FindingValue) (are : (g : FindingValue) → In all g → In (s.findings ++ bits) g)
    (xs : List Finding) (told : map finding_value xs ≡ all) (st : Stands image f s) where
  -- a finding that speaks against an entry concerns a part of it
  speaks : (m h : ℕ) (g : FindingValue) (o : Option Part) → In all g → g.part ≡ part_role o → node_blamed f o ≡ Some m
      → IsSound image s.walk all m h → ⊥
  speaks m h g (Some (ExtPart q k)) i e z sound =
      let one : q ≡ m = cc in sound.exts k g (Ext q k) i e (same_of (Ext q k) (Ext m k) (ap (λ q. Ext q k) one))
  speaks m h g (Some (DataPart q k)) i e z sound =
      let one : q ≡ m = cc in sound.datas k g (Data q k) i e (same_of (Data q k) (Data m k) (ap (λ q. Data q k) one))
  speaks m h g (Some (HeadPart q p t j)) i e z sound = go (is_header f q p t j) refl z
    where
      go : (t' : Bool) → is_header f q p t j ≡ t' → option_map node_of (Some (cond t' (Entry q) (Within p))) ≡ Some m → ⊥
      go false is z =
          let one : p ≡ m = cc in
          let x = sound.chains g q t j i (e ∙ ap (λ p. Some (Head q p t j)) one) in
          let there : is_header f q m t j ≡ true = header_found image f _ (gathered image v) st q m t j x.0 x.1 in
          let clash : true ≡ false = sym there ∙ ap (λ p. is_header f q p t j) (sym one) ∙ is in cc
      go true is z =
          let one : q ≡ m = cc in
          let x = found_header image f _ (gathered image v) st q p t j is in
          let here = subst (λ q. Has s.walk (Head q p t j) x.0) one x.1 in
          let head = sound.header in
          let same = same_of (head_role head) (Head m p t j) (one_head image (gathered image v) head (head_at m p t j x.0 here)).0 in
          sound.unreported g (Head q p t j) i e (sym same.0, sym same.1, sym same.2)
  speaks m h g _ i e z sound = cc

  not_reported : (m h : ℕ) → IsSound image s.walk all m h → is_blamed f xs m ≡ false
  not_reported m h sound = elim (cases_Bool (is_blamed f xs m)) [
    | inl t ↦
        let x = blamed_by f xs m t in
        let i : In all (finding_value x.0) = subst (λ fs. In fs (finding_value x.0)) told (in_values xs x.0 x.1) in
        absurd (speaks m h (finding_value x.0) x.0.part i refl x.2 sound)
    | inr e ↦ e
  ]

  -- no data block of a sound file is doubted
  undoubted : (m h : ℕ) → kind_of image ≡ Ffs → IsSound image s.walk all m h → is_doubted image f (blocks image) m ≡ false
  undoubted m h ffs sound = elim (cases_Bool (is_doubted image f (blocks image) m)) [
    | inl t ↦
        let (b, some) = doubted_by image f (blocks image) m t in
        let (number, own, doubt) = doubted_is image f b m some in
        let k : ℕ = number_in_block f b - 1 in
        let (n, held, whose) = held_data s.walk b k (sym (data_number_is st.owners b) ∙ number) in
        let same : n ≡ m = sym (ap (λ o. unwrap_or o 0) whose) ∙ (sym (entry_is st.owners b) ∙ own) in
        let has : Has s.walk (Data m (suc k)) b = subst (λ n. Has s.walk (Data n (suc k)) b) same held in
        elim doubt [
          | inl over ↦
              absurd (not_alone image v done m (suc k) b has (sym (st.skipped.marked b (data_inside image v m (suc k) b has)) ∙ over)
              (sound.alone ffs (suc k) b has))
          | inr said ↦
              let head : slice_index f.nodes.items (entry_in_block f b) ≡ h =
              ap (slice_index f.nodes.items) own ∙ (st.node m ∙ head_block image (gathered image v) sound.header) in
              let clash : false ≡ true =
              sym (sound.own ffs (suc k) b has) ∙ ((λ i. says_data_of image (sym head i) (sym number i) b) ∙ said) in cc
        ]
    | inr e ↦ e
  ]

  not_doubtful : (m h : ℕ) → IsSound image s.walk all m h → is_doubtful (kind_of image) image f m ≡ false
  not_doubtful m h sound = go (kind_of image) refl
    where
      go : (k : Kind) → kind_of image ≡ k → is_doubtful k image f m ≡ false
      go Ofs e = refl
      go Ffs e = undoubted m h e sound

  -- no finding of a part speaks against the entry
  unspoken : (m : ℕ) → is_blamed f xs m ≡ false → (g : FindingValue) (q : Role) → In all g → g.part ≡ Some q
      → ((o : Option Part) → part_role o ≡ Some q → node_blamed f o ≡ Some m) → ⊥
  unspoken m e g q i is names = grind (arith, common_steps, in_findings, not_blamed)

  head_clear : (m p t j h : ℕ) → Has s.walk (Head m p t j) h → is_blamed f xs m ≡ false → IsUnreported all (Head m p t j)
  head_clear m p t j h has e g q i is same = grind (arith, common_steps, settled, one_block, gathered, header_found, unspoken, head_part, apart)

  chains_clear : (m : ℕ) → is_blamed f xs m ≡ false → (g : FindingValue) (q t j : ℕ) → In all g → g.part ≡ Some (Head q m t j)
      → (b : ℕ) × Has s.walk (Head q m t j) b
  chains_clear m e g q t j i is = elim (settled image v bits tells g (Head q m t j) (are g i) is) [
    | inl y ↦ y
    | inr y ↦
        let none : is_header f q m t j ≡ false = skipped_header image f v st q m t j y.0 y.1 in
        absurd (unspoken m e g (Head q m t j) i is (λ o z.
        ap (node_blamed f) (head_part o q m t j z) ∙ ap (λ t. option_map node_of (Some (cond t (Entry q) (Within m)))) none))
  ]

  -- nothing speaks against a data block of an entry that is not doubtful
  data_clear : (m : ℕ) → is_doubtful (kind_of image) image f m ≡ false → kind_of image ≡ Ffs → (k c : ℕ) → Has s.walk (Data m k) c
      → (slice_index_or f.skipped.items c false ≡ true) ⊎ (says_data_of image (slice_index f.nodes.items m) k c ≡ true) → ⊥
  data_clear m e ffs k c has doubt =
      let none : is_doubted image f (blocks image) m ≡ false = subst (λ k. is_doubtful k image f m ≡ false) ffs e in
      let (whose, which) = first_with s.walk (Data m k) c has (λ q g. one_role image v q (Data m k) c g has) in
      let number : number_in_block f c ≡ k = data_number_is st.owners c ∙ which in
      let own : entry_in_block f c ≡ m = entry_is st.owners c ∙ ap (λ o. unwrap_or o 0) whose in
      let said : (slice_index_or f.skipped.items c false ≡ true) ⊎ (is_said image f c ≡ true) = elim doubt [
        | inl t ↦ inl t
        | inr t ↦ inr ((λ i. says_data_of image (slice_index f.nodes.items (own i)) (number i) c) ∙ t)
      ] in
      not_doubted image f (blocks image) m c none (data_inside image v m k c has)
      (doubted_yes image f c (λ z. data_some image v m k c has (sym number ∙ z)) said ∙ ap Some own)

  alone_clear : (m : ℕ) → is_doubtful (kind_of image) image f m ≡ false → kind_of image ≡ Ffs → (k c : ℕ) → Has s.walk (Data m k) c
      → (q : Role) (a i : ℕ) → Asks image s.walk q a i → word_in image a i ≡ c → Same q (Data m k)
  alone_clear m e ffs k c has =
      let free : owns s.skipped c ≡ false = elim (cases_Bool (owns s.skipped c)) [
        | inl t ↦ absurd (data_clear m e ffs k c has (inl (st.skipped.marked c (data_inside image v m k c has) ∙ t)))
        | inr t ↦ t
      ] in
      is_alone image v done m k c has free

  own_clear : (m : ℕ) → is_doubtful (kind_of image) image f m ≡ false → kind_of image ≡ Ffs → (k c : ℕ) → Has s.walk (Data m k) c
      → says_data_of image (node_block s.walk m) k c ≡ false
  own_clear m e ffs k c has = grind (arith, common_steps, cases_Bool, data_clear)

  clear_sound : (m : ℕ) → 1 ≤ m → m ≤ heads s.walk → is_blamed f xs m ≡ false → is_doubtful (kind_of image) image f m ≡ false
      → IsSound image s.walk all m (node_block s.walk m)
  clear_sound m lo hi clear free =
      let x = has_number image (gathered image v) m lo hi in
      let g = x.1 in
      let at : x.0 ≡ node_block s.walk m = sym (head_block image (gathered image v) g) in
      record {
        header = head_at m g.parent g.slot g.place (node_block s.walk m) (subst (Has s.walk (head_role g)) at g.has);
        unreported = head_clear m g.parent g.slot g.place x.0 g.has clear;
        exts = (λ k g q i is same. unspoken m clear g q i is (λ o z. ap (node_blamed f) (ext_part o m k (z ∙ ap Some (ext_of q m k same)))));
        datas = (λ k g q i is same. unspoken m clear g q i is (λ o z. ap (node_blamed f) (data_part o m k (z ∙ ap Some (data_of q m k same)))));
        chains = chains_clear m clear;
        alone = alone_clear m free;
        own = own_clear m free;
      }

  -- the nodes that nothing is said against are the sound entries
  pub clear_is_sound : (m : ℕ) → 1 ≤ m → (is_clear image f xs m ≡ true) ↔ IsSound image s.walk all m (node_block s.walk m)
  clear_is_sound m lo = (
    (λ t.
        let x = and_parts (nat_lt m (length f.nodes.items)) (not (is_blamed f xs m) && not (is_doubtful (kind_of image) image f m)) t in
        let y = and_parts (not (is_blamed f xs m)) (not (is_doubtful (kind_of image) image f m)) x.1 in
        let count : length f.nodes.items ≡ suc (heads s.walk) = st.count in
        let lt : m < length f.nodes.items = (let z = x.0 in grind (arith, nat_tests)) in
        clear_sound m lo (omega arith) (not-true (is_blamed f xs m) y.0) (not-true (is_doubtful (kind_of image) image f m) y.1)),
    (λ sound.
        let few = number_of image (gathered image v) sound.header in
        let count : length f.nodes.items ≡ suc (heads s.walk) = st.count in
        let lt : m < length f.nodes.items = omega arith in
        let one : nat_lt m (length f.nodes.items) ≡ true = grind (arith, nat_tests) in
        rw (one, not_reported m (node_block s.walk m) sound, not_doubtful m (node_block s.walk m) sound) refl),
  )
