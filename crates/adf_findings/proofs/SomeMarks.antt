-- Whether an entry is sound is decided, so each survey has marks.
-- Letters: w the walk of a survey; all some findings, f one of them; n an entry's node, h the block of its header; p, s, j the directory,
-- the slot and the position of a header; r, q, z roles; b, c blocks; k, i the number of an extension or data block.
use Rattle.std.specs.Prelude.{Bool, true, false, Option, Some, None, ◌↔◌}
use Rattle.std.proofs.Common.{◌≡◌, ℕ, suc, List, [], ◌∷◌, inl, inr, refl, sym, ap, subst, ◌∙◌, arith}
use Rattle.std.proofs.{lemmas.Bool.cases_Bool, lemmas.Grind.common_steps}
use mathlib.Core.Logic.Dec.{and as dec_and, not as dec_not}
use native.Mathlib.Decide.{dec_le, map_dec, ℕ_discrete}
use Rattle.adf_names.specs.declared.kind.Kind.{Kind, TheVariants.Ofs, TheVariants.Ffs}
use Rattle.adf_volume.specs.{Image.kind_of, Image.word_in, Lists.In}
use Rattle.adf_volume.specs.Walk.{Asks, Has, HeadAt, Role, Same, first, heads, node_block, second, third, Walk, Role.Data, Role.Ext, Role.Head}
use Rattle.adf_volume.proofs.{Gathered.number_of, Gathered.one_head, Roles.head_role}
use Rattle.adf_findings.specs.{Members.owns, Sound.IsSound, Sound.IsUnreported, Sound.says_data_of, SoundMarks.AreMarks}
use Rattle.adf_findings.specs.Survey.{Course, FindingValue, IsCourse, IsDone, IsSurvey, IsSurvey.read, IsSurvey.unread}
use Rattle.adf_findings.proofs.{Decidability.dec_both, Decidability.dec_false, Lookups.header_at, OneSurvey.gathered, SoundMarks.is_alone, SoundMarks.not_alone}

-- the answer to what is decided
told : {P : Type 0} → Dec P → Bool
told (yes p) = true
told (no n) = false

told_so : {P : Type 0} (d : Dec P) → (told d ≡ true) ↔ P
unfolding told
told_so (yes p) = ((λ e. p), (λ x. refl))
told_so (no n) = ((λ e. absurd cc), (λ x. absurd (n x)))

-- lists

-- whether the part of each finding passes a test
dec_parts : (P : Role → Type 0) → ((r : Role) → Dec (P r)) → (all : List FindingValue)
    → Dec ((f : FindingValue) (q : Role) → In all f → f.part ≡ Some q → P q)
dec_parts P test [] = yes (λ f q i e. absurd i)
dec_parts P test (x ∷ all) =
    map_dec (λ y f q i e. elim i [ inl same ↦ y.0 q (ap (λ (f : FindingValue). f.part) same ∙ e) | inr more ↦ y.1 f q more e ])
    (λ h. ((λ q e. h x q (inl refl) e), (λ f q i e. h f q (inr i) e)))
    (dec_and (here x.part) (dec_parts P test all))
  where
    here : (o : Option Role) → Dec ((q : Role) → o ≡ Some q → P q)
    here None = yes (λ q e. absurd cc)
    here (Some z) = map_dec (λ p q e. let one : z ≡ q = cc in subst P one p) (λ h. h z refl) (test z)

-- whether each data block of the file passes a test
dec_datas : (P : ℕ → ℕ → Type 0) → ((k b : ℕ) → Dec (P k b)) → (n : ℕ) (w : Walk) → Dec ((k b : ℕ) → Has w (Data n k) b → P k b)
dec_datas P test n [] = yes (λ k b h. absurd h)
dec_datas P test n (x ∷ w) =
    map_dec (λ y k b h. elim h [ inl e ↦ y.0 k b e.0 e.1 | inr g ↦ y.1 k b g ])
    (λ all. ((λ k b e f. all k b (inl (e, f))), (λ k b g. all k b (inr g))))
    (dec_and (here x.0 x.1) (dec_datas P test n w))
  where
    here : (r : Role) (c : ℕ) → Dec ((k b : ℕ) → r ≡ Data n k → c ≡ b → P k b)
    here (Data m i) c = elim (ℕ_discrete m n) [
      | no d ↦ yes (λ k b e f. absurd (d cc))
      | yes e ↦ map_dec (λ p k b g f. let one : i ≡ k = cc in subst (λ k. P k b) one (subst (P i) f p))
          (λ all. all i c (ap (λ m. Data m i) e) refl) (test i c)
    ]
    here _ c = yes (λ k b e f. absurd cc)

-- whether the walk has the header
dec_is_head : (q : Role) (n p s j : ℕ) → Dec (q ≡ Head n p s j)
dec_is_head q n p s j = grind (arith, common_steps, map_dec)

dec_has_head : (w : Walk) (n p s j : ℕ) → Dec ((b : ℕ) × Has w (Head n p s j) b)
dec_has_head [] n p s j = no (λ y. y.1)
dec_has_head (x ∷ w) n p s j = elim (dec_is_head x.0 n p s j) [
  | yes e ↦ yes (x.1, inl (e, refl))
  | no d ↦ map_dec (λ y. (y.0, inr y.1)) (λ y. elim y.1 [ inl e ↦ absurd (d e.0) | inr h ↦ (y.0, h) ]) (dec_has_head w n p s j)
]

-- findings

dec_same : (q r : Role) → Dec (Same q r)
dec_same q r = grind (arith, common_steps, map_dec)

dec_unreported : (all : List FindingValue) (r : Role) → Dec (IsUnreported all r)
dec_unreported all r = dec_parts (λ q. Same q r → ⊥) (λ q. dec_not (dec_same q r)) all

-- whether no finding concerns a part of the entry of one kind
module _ (n kind : ℕ) (part : ℕ → Role) (one : (k : ℕ) → first (part k) ≡ suc n) (two : (k : ℕ) → second (part k) ≡ kind)
    (three : (k : ℕ) → third (part k) ≡ k) where
  dec_same_kind : (q : Role) → Dec ((k : ℕ) → Same q (part k) → ⊥)
  dec_same_kind q =
      map_dec (λ d k same. d (same.0 ∙ one k, same.1 ∙ two k))
      (λ h e. h (third q) (e.0 ∙ sym (one (third q)), e.1 ∙ sym (two (third q)), sym (three (third q))))
      (dec_not (dec_and (ℕ_discrete (first q) (suc n)) (ℕ_discrete (second q) kind)))

  dec_none : (all : List FindingValue) → Dec ((k : ℕ) → IsUnreported all (part k))
  dec_none all =
      map_dec (λ h k f q i e. h f q i e k) (λ h f q i e k. h k f q i e)
      (dec_parts (λ q. (k : ℕ) → Same q (part k) → ⊥) dec_same_kind all)

dec_exts : (all : List FindingValue) (n : ℕ) → Dec ((k : ℕ) → IsUnreported all (Ext n k))
dec_exts all n = dec_none n 0 (Ext n) (λ k. refl) (λ k. refl) (λ k. refl) all

dec_unreported_datas : (all : List FindingValue) (n : ℕ) → Dec ((k : ℕ) → IsUnreported all (Data n k))
dec_unreported_datas all n = dec_none n 1 (Data n) (λ k. refl) (λ k. refl) (λ k. refl) all

-- whether each header of the directory that a finding concerns is in the walk
abbrev IsFollowed : Walk → ℕ → Role → Type 0
IsFollowed w n q = (m s j : ℕ) → q ≡ Head m n s j → (b : ℕ) × Has w (Head m n s j) b

dec_followed : (w : Walk) (n : ℕ) (q : Role) → Dec (IsFollowed w n q)
dec_followed w n (Head m p s j) = elim (ℕ_discrete p n) [
  | no d ↦ yes (λ a t i e. absurd (d cc))
  | yes e ↦
      let here : Head m p s j ≡ Head m n s j = ap (λ p. Head m p s j) e in
      map_dec (λ y a t i f. subst (λ r. (b : ℕ) × Has w r b) f y) (λ h. subst (λ r. (b : ℕ) × Has w r b) (sym here) (h m s j here))
      (dec_has_head w m p s j)
]
dec_followed w n _ = yes (λ m s j e. absurd cc)

abbrev ChainsFollowed : Walk → List FindingValue → ℕ → Type 0
ChainsFollowed w all n = (f : FindingValue) (m s j : ℕ) → In all f → f.part ≡ Some (Head m n s j) → (b : ℕ) × Has w (Head m n s j) b

dec_chains : (w : Walk) (all : List FindingValue) (n : ℕ) → Dec (ChainsFollowed w all n)
dec_chains w all n =
    map_dec (λ h f m s j i e. h f (Head m n s j) i e m s j refl)
    (λ h f q i e m s j is. h f m s j i (e ∙ ap Some is))
    (dec_parts (IsFollowed w n) (dec_followed w n) all)

-- the data blocks of FFS

dec_ffs : (kind : Kind) → Dec (kind ≡ Ffs)
dec_ffs Ofs = no (λ e. cc)
dec_ffs Ffs = yes refl

module _ (image : List ℕ) where
  abbrev AreAlone : Walk → ℕ → Type 0
  AreAlone w n = (k b : ℕ) → Has w (Data n k) b → (q : Role) (a i : ℕ) → Asks image w q a i → word_in image a i ≡ b → Same q (Data n k)

  abbrev AreOwn : Walk → ℕ → ℕ → Type 0
  AreOwn w n h = (k b : ℕ) → Has w (Data n k) b → says_data_of image h k b ≡ false

  dec_own : (w : Walk) (n h : ℕ) → Dec (AreOwn w n h)
  dec_own w n h = dec_datas (λ k b. says_data_of image h k b ≡ false) (λ k b. dec_false (says_data_of image h k b)) n w

  module _ {s : Course} (v : IsCourse image s) (done : IsDone image s) where
    dec_alone : (n : ℕ) → Dec (AreAlone s.walk n)
    dec_alone n =
        map_dec (λ free k b has. is_alone image v done n k b has (free k b has)) free_if
        (dec_datas (λ k b. owns s.skipped b ≡ false) (λ k b. dec_false (owns s.skipped b)) n s.walk)
      where
        free_if : AreAlone s.walk n → (k b : ℕ) → Has s.walk (Data n k) b → owns s.skipped b ≡ false
        free_if alone k b has = elim (cases_Bool (owns s.skipped b)) [
          | inl over ↦ absurd (not_alone image v done n k b has over (alone k b has))
          | inr free ↦ free
        ]

    -- whether an entry of the walk is sound
    dec_entry : (all : List FindingValue) (n h : ℕ) → HeadAt s.walk n h → Dec (IsSound image s.walk all n h)
    dec_entry all n h g =
        map_dec (λ y. record {
          header = g;
          unreported = y.0.0;
          exts = y.0.1.0;
          datas = y.0.1.1;
          chains = y.1.0;
          alone = y.1.1.0;
          own = y.1.1.1;
        }) (λ x. (
          (subst (IsUnreported all) (one_head image (gathered image v) x.header g).0 x.unreported, (x.exts, x.datas)),
          (x.chains, (x.alone, x.own)),
        )) (dec_and
        (dec_and (dec_unreported all (head_role g)) (dec_and (dec_exts all n) (dec_unreported_datas all n)))
        (dec_and (dec_chains s.walk all n) (dec_and
        (dec_both (kind_of image ≡ Ffs) (AreAlone s.walk n) (dec_ffs (kind_of image)) (dec_alone n))
        (dec_both (kind_of image ≡ Ffs) (AreOwn s.walk n h) (dec_ffs (kind_of image)) (dec_own s.walk n h)))))

  -- whether an entry of a survey is sound by some findings
  pub dec_sound : (w : Walk) (fs : List FindingValue) → IsSurvey image w fs → (all : List FindingValue) (n : ℕ)
      → Dec (IsSound image w all n (node_block w n))
  dec_sound w fs (unread f) all n = no (λ x. x.header.has)
  dec_sound w fs (read {s = s} {bits = bits} v d t) all n = elim (dec_le 1 n) [
    | no l ↦ no (λ x. l (number_of image (gathered image v) x.header).0)
    | yes lo ↦ elim (dec_le n (heads s.walk)) [
      | no l ↦ no (λ x. l (number_of image (gathered image v) x.header).1)
      | yes hi ↦ dec_entry v d all n (node_block s.walk n) (header_at image s.walk _ (read v d t) n lo hi)
    ]
  ]

  pub some_marks : (w : Walk) (fs : List FindingValue) → IsSurvey image w fs → (all : List FindingValue)
      → (sound : ℕ → Bool) × AreMarks image w all sound
  some_marks w fs survey all = ((λ n. told (dec_sound w fs survey all n)), (λ n. told_so (dec_sound w fs survey all n)))
