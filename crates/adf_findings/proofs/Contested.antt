-- Blocks that more than one part asks for, and data blocks that say whose they are.
-- Letters: w the walk of a survey, s its course, fs its findings, f one of them; v a result; r, q roles; a, b, c blocks; at the block of a cause;
-- n a file's node, h the block of its header; k the number of a data block; xs, ys demands; p, x, y, z tests.
use Rattle.std.specs.Prelude.{Bool, true, false, cond, ◌==◌, ◌&&◌, Some}
use Rattle.std.proofs.Common.{◌≡◌, ℕ, suc, List, [], ◌∷◌, ◌++◌, length, ◌*◌, ◌<◌, inl, inr, refl, sym, subst, ap, ◌∙◌, arith}
use Rattle.std.proofs.lemmas.Bool.{and_parts, cases_Bool, cases_lt, eq-eqb, eqb-true, or_cases}
use Rattle.std.proofs.lemmas.Grind.{common_steps}
use Rattle.adf_names.specs.declared.kind.Kind.{Kind, TheVariants.Ofs, TheVariants.Ffs}
use Rattle.adf_blocks.specs.{declared.cause.Cause.Cause, declared.cause.Cause.TheVariants.Taken, declared.layout.TheConstants.TYPE}
use Rattle.adf_blocks.specs.{declared.layout.TheConstants.T_DATA, DataBlock.data_form, ExtBlock.ext_form, Forms.Clause, PageBlock.page_form, Sizes.blocks}
use Rattle.adf_base.specs.Words.{block}
use Rattle.adf_volume.specs.Demands.{Demand, FirstFails, data_demands, demands_at, root_demands}
use Rattle.adf_volume.specs.{Image.held, Image.kind_of, Image.root_of, Image.word_in, Lists.In}
use Rattle.adf_volume.specs.Walk.{Asks, Has, Role, Same, Walk, next_data, node_block, Role.Root, Role.Page, Role.MapExt, Role.Head, Role.Ext, Role.Data}
use Rattle.adf_volume.proofs.{Lists.in_cases, WordsPast.past_word}
use Rattle.adf_findings.specs.{Concerned.is_contested, Concerned.is_taken, Concerned.number_alone, Demands.demands_in, Demands.form_demands_in}
use Rattle.adf_findings.specs.{Demands.head_form_in, Members.owns, Sound.says_data_of, Survey.BitsTell.agrees, Survey.BitsTell.differs, Survey.BitsTell.ends}
use Rattle.adf_findings.specs.{Survey.BootTells.clean_boot, Survey.BootTells.other_type, Survey.RootTells.clean_root, Survey.RootTells.reported_root}
use Rattle.adf_findings.specs.{Survey.IsCourse.start, Survey.IsCourse.step, SurveyResult.SurveyValue, SurveyResult.TellsOf, SurveyResult.alone_in}
use Rattle.adf_findings.specs.Survey.{BitsTell, BootTells, Course, FindingValue, IsCourse, IsDone, IsItself, RootTells, finding, is_kept}
use Rattle.adf_findings.specs.Survey.JudgementValue.{clean, reported, skipped}
use Rattle.adf_findings.proofs.SoundMarks.{not_alone}

-- what is kept of a block is the number that it has alone
pub kept_alone : {v : SurveyValue} {w : Walk} {fs : List FindingValue} → TellsOf v w fs → (b : ℕ) → alone_in v b ≡ number_alone w fs b
kept_alone t b = λ i. cond (t.contested b i) 0 (t.number b i)

-- a block with such a number is a data block
pub alone_number : (p : Bool) (m k : ℕ) → cond p 0 m ≡ suc k → m ≡ suc k
alone_number true m k e = cc
alone_number false m k e = e

first_holds : (x y z p : Bool) → (x && y && z && p) ≡ true → x ≡ true
first_holds x y z p e = grind (arith, common_steps)

-- a block that says what it is is in the image
pub said_inside : (image : List ℕ) (h k b : ℕ) → length image ≡ 512 * blocks image → says_data_of image h k b ≡ true → b < blocks image
said_inside image h k b whole said = elim (cases_lt b (blocks image)) [
  | inl lt ↦ lt
  | inr past ↦
      let none : 0 ≡ word_in image b TYPE = past_word image b TYPE whole (λ le. omega arith) in
      let type = first_holds (word_in image b TYPE == T_DATA) _ _ _ said in
      let clash : (0 == T_DATA) ≡ true = ap (λ n. n == T_DATA) none ∙ type in cc
]

-- what is itself has no cause that is not slight
itself_not : (r : Role) (xs : List Demand) (at : ℕ) (c : Cause) → FirstFails xs at c → IsItself r xs → is_kept r c ≡ false → ⊥
itself_not r [] at c fails itself e = fails
itself_not r (x ∷ xs) at c (inl g) itself e = g.0 (itself.0 (ap (is_kept r) g.2 ∙ e))
itself_not r (x ∷ xs) at c (inr g) itself e = itself_not r xs at c g.1 itself.1 e

taken_skips : (r : Role) → is_kept r Taken ≡ false
taken_skips (Page i) = refl
taken_skips Root = refl
taken_skips (MapExt j) = refl
taken_skips (Head n p s j) = refl
taken_skips (Ext n k) = refl
taken_skips (Data n k) = refl

-- a clause that fails names its block
fails_at : (b : ℕ) (form : List Clause) (ys : List Demand) (at : ℕ) (c : Cause) → (FirstFails ys at c → b ≡ at)
    → FirstFails (demands_at b form ++ ys) at c → b ≡ at
fails_at b [] ys at c h fails = h fails
fails_at b (x ∷ xs) ys at c h (inl g) = g.1
fails_at b (x ∷ xs) ys at c h (inr g) = fails_at b xs ys at c h g.1

module _ (image : List ℕ) where
  form_fails : (w : Walk) (r : Role) (b : ℕ) (ys : List Demand) (at : ℕ) (c : Cause) → (FirstFails ys at c → b ≡ at)
      → FirstFails (form_demands_in image w r b ++ ys) at c → b ≡ at
  form_fails w Root b ys at c h fails = h fails
  form_fails w (MapExt j) b ys at c h fails = h fails
  form_fails w (Page i) b ys at c h fails = fails_at b (page_form (block image b)) ys at c h fails
  form_fails w (Head n p s j) b ys at c h fails =
      fails_at b (head_form_in image (kind_of image) b (node_block w p) s (block image b)) ys at c h fails
  form_fails w (Ext n k) b ys at c h fails = fails_at b (ext_form b (node_block w n) (block image b)) ys at c h fails
  form_fails w (Data n k) b ys at c h fails = go (kind_of image) (held (kind_of image) _ k) (next_data image w n k) fails
    where
      go : (kind : Kind) (size next : ℕ) → FirstFails (data_demands image kind b (node_block w n) k size next ++ ys) at c → b ≡ at
      go Ofs size next fails = fails_at b (data_form (node_block w n) k size next (block image b)) ys at c h fails
      go Ffs size next fails = h fails

  -- the finding of a part that asks for a taken block names that
  taken_named : (w : Walk) (r : Role) (a b at : ℕ) → FirstFails (demands_in image w r a b) at Taken → b ≡ at
  taken_named w r a b at (inl g) = cc
  taken_named w r a b at (inr (x, inl g)) = cc
  taken_named w r a b at (inr (x, inr (y, inl g))) = g.1
  taken_named w r a b at (inr (x, inr (y, inr (z, fails)))) = form_fails w r b _ at Taken (λ g. elim g [ inl g ↦ g.1 | inr g ↦ absurd g.1 ]) fails

  boot_untaken : {fs : List FindingValue} → BootTells image fs → (f : FindingValue) → In fs f → f.cause ≡ Taken → ⊥
  boot_untaken (clean_boot h) f m e = m
  boot_untaken (other_type {at = at} {c = c} h other) f m e = grind (arith, common_steps)

  root_untaken : {fs : List FindingValue} → RootTells image fs → (f : FindingValue) → In fs f → f.cause ≡ Taken → ⊥
  root_untaken (clean_root h) f m e = m
  root_untaken (reported_root {at = at} {c = c} h) f (inl z) e =
      let taken : c ≡ Taken = ap (λ f. f.cause) z ∙ e in itself_not Root (root_demands image (root_of image)) at c h.0 h.1 (ap (is_kept Root) taken)
  root_untaken (reported_root h) f (inr m) e = m

  bits_untaken : {s : Course} {b n : ℕ} {fs : List FindingValue} → BitsTell image s b n fs → (f : FindingValue) → In fs f → f.cause ≡ Taken → ⊥
  bits_untaken ends f m e = m
  bits_untaken (agrees h t) f m e = bits_untaken t f m e
  bits_untaken (differs h (inl g) t) f (inl z) e = let clash = g.2 ∙ (ap (λ f. f.cause) z ∙ e) in cc
  bits_untaken (differs h (inr (x, inl g)) t) f (inl z) e = let clash = g.2 ∙ (ap (λ f. f.cause) z ∙ e) in cc
  bits_untaken (differs h (inr (x, inr g)) t) f (inl z) e = g.1
  bits_untaken (differs h k t) f (inr m) e = bits_untaken t f m e

  -- the block of a finding that it is taken was skipped
  taken_skipped : {s : Course} → IsCourse image s → (f : FindingValue) → In s.findings f → f.cause ≡ Taken → owns s.skipped f.block ≡ true
  taken_skipped (start {boot = fs} {root = gs} b t) f m e = elim (in_cases fs gs f m) [
    | inl k ↦ absurd (boot_untaken b f k e)
    | inr k ↦ absurd (root_untaken t f k e)
  ]
  taken_skipped (step {s = s} {r = r} clean v n g) f m e = taken_skipped v f m e
  taken_skipped (step {s = s} {r = r} {a = a} {i = i} (reported at c) v n g) f m e = elim (in_cases s.findings (finding (Some r) at c ∷ []) f m) [
    | inl k ↦ taken_skipped v f k e
    | inr k ↦ elim k [
      | inl z ↦
          let taken : c ≡ Taken = ap (λ f. f.cause) z ∙ e in
          absurd (itself_not r (demands_in image s.walk r a (word_in image a i)) at c g.0 g.1 (ap (is_kept r) taken ∙ taken_skips r))
      | inr k ↦ absurd k
    ]
  ]
  taken_skipped (step {s = s} {r = r} {a = a} {i = i} (skipped at c) v n g) f m e =
      elim (in_cases s.findings (finding (Some r) at c ∷ []) f m) [
        | inl k ↦ let old = taken_skipped v f k e in grind (arith, common_steps)
        | inr k ↦ elim k [
          | inl z ↦
              let taken : c ≡ Taken = ap (λ f. f.cause) z ∙ e in
              let fails = subst (FirstFails (demands_in image s.walk r a (word_in image a i)) at) taken g.0 in
              let named : word_in image a i ≡ f.block = taken_named s.walk r a (word_in image a i) at fails ∙ ap (λ f. f.block) z in
              grind (arith, common_steps, eq-eqb)
          | inr k ↦ absurd k
        ]
      ]

  taken_is : (c : Cause) → is_taken c ≡ true → c ≡ Taken
  taken_is c e = grind (arith, common_steps)

  -- a contested block is that of such a finding
  contested_by : (fs : List FindingValue) (b : ℕ) → is_contested fs b ≡ true → (f : FindingValue) × In fs f × (f.cause ≡ Taken) × (f.block ≡ b)
  contested_by [] b e = cc
  contested_by (f ∷ fs) b e = elim (or_cases (is_taken f.cause && (f.block == b)) (is_contested fs b) e) [
    | inl t ↦
        let x = and_parts (is_taken f.cause) (f.block == b) t in (f, inl refl, taken_is f.cause x.0, eqb-true f.block b x.1)
    | inr t ↦ let (g, found, taken, named) = contested_by fs b t in (g, inr found, taken, named)
  ]

  -- a data block that no other part asks for is not contested
  pub not_contested : {s : Course} → IsCourse image s → IsDone image s → {b m : ℕ} (bits : List FindingValue) → BitsTell image s b m bits
      → (n k c : ℕ) → Has s.walk (Data n k) c → ((q : Role) (a i : ℕ) → Asks image s.walk q a i → word_in image a i ≡ c → Same q (Data n k))
      → is_contested (s.findings ++ bits) c ≡ false
  not_contested {s = s} v done bits tells n k c has alone = elim (cases_Bool (is_contested (s.findings ++ bits) c)) [
    | inl t ↦
        let (f, found, taken, named) = contested_by (s.findings ++ bits) c t in
        elim (in_cases s.findings bits f found) [
          | inl i ↦ absurd (not_alone image v done n k c has (ap (owns s.skipped) (sym named) ∙ taken_skipped v f i taken) alone)
          | inr i ↦ absurd (bits_untaken tells f i taken)
        ]
    | inr e ↦ e
  ]
