-- The judgement of a part and the findings of the bits are decided.
use Rattle.std.specs.Prelude.{Bool, true, false}
use Rattle.std.proofs.Common.{◌≡◌, ℕ, zero, suc, List, [], ◌∷◌, ◌++◌, ◌⊎◌, inl, inr, ◌-◌, ◌*◌, ◌/◌, ◌%◌, ◌<◌, ◌≤◌, ◌≢◌, refl, subst, arith}
use Rattle.std.proofs.lemmas.Grind.{common_steps}
use mathlib.Core.Logic.Dec.{and as dec_and, not as dec_not}
use native.Mathlib.Decide.{dec_le, dec_lt, map_dec, ℕ_discrete}
use Rattle.adf_names.specs.declared.kind.Kind.{Kind, TheVariants.Ofs, TheVariants.Ffs}
use Rattle.adf_blocks.specs.{declared.cause.Cause.Cause, Forms.Clause, Sizes.blocks, DataBlock.data_form, ExtBlock.ext_form, PageBlock.page_form}
use Rattle.adf_blocks.specs.declared.layout.TheConstants.{BITMAP_FLAG, PAGE_BITS, POINTERS, VALID}
use Rattle.adf_base.specs.Words.{block}
use Rattle.adf_volume.specs.{Image.name_of, Image.kind_of, Image.root_of, Image.word_in, Image.IsFreeAt, Demands.Demand, Demands.AllHold, Demands.FirstFails}
use Rattle.adf_volume.specs.{Demands.demands_at, Demands.data_demands, Walk.Role.Page, Walk.Role.Head, Walk.Role.Ext, Walk.Role.Data}
use Rattle.adf_volume.specs.Walk.{Role, Has, data_count, ext_count, Enough, IsAbsent, IsFreeIn, bitmap_demands, node_block, Walk}
use Rattle.adf_findings.specs.Demands.{NewNameIn, demands_in, form_demands_in, head_form_in, uppers_in}
use Rattle.adf_findings.specs.Survey.{FindingValue, JudgementValue, Judged, IsItself, is_cache, is_kept, Course, IsCompared, IsUnexcused, BitsTell}
use Rattle.adf_findings.specs.Survey.JudgementValue.{clean, reported, skipped}
use Rattle.adf_findings.specs.Survey.BitsTell.{ends, agrees, differs}
use Rattle.adf_volume.proofs.Gathered.{IsGathered, file_one}
use Rattle.adf_volume.proofs.DecidedAsks.{dec_where, dec_not_zero, dec_low, one_low, dec_file}

-- each demand is decided
abbrev pub Decided : List Demand → Type 0
Decided [] = Unit {0}
Decided (x ∷ xs) = Dec x.holds × Decided xs

pub first_failing : (xs : List Demand) → Decided xs → AllHold xs ⊎ ((b : ℕ) × (c : Cause) × FirstFails xs b c)
first_failing [] d = inl tt
first_failing (x ∷ xs) d =
    elim (d.0) [
      | no n ↦ inr (x.at, x.cause, inl (n, refl, refl))
      | yes h ↦ elim (first_failing xs d.1) [ inl k ↦ inl (h, k) | inr y ↦ inr (y.0, y.1, inr (h, y.2)) ]
    ]

dec_unless : (t : Bool) (P : Type 0) → Dec P → Dec (t ≡ false → P)
dec_unless true P d = yes (λ e. cc)
dec_unless false P d = map_dec (λ p e. p) (λ f. f refl) d

dec_itself : (r : Role) (xs : List Demand) → Decided xs → Dec (IsItself r xs)
dec_itself r [] d = yes tt
dec_itself r (x ∷ xs) d = dec_and (dec_unless (is_kept r x.cause) x.holds d.0) (dec_itself r xs d.1)

-- a part whose demands are decided is judged
pub judged : (r : Role) (xs : List Demand) → Decided xs → (j : JudgementValue) × Judged r xs j
judged r xs d =
    elim (first_failing xs d) [
      | inl h ↦ (clean, h)
      | inr f ↦ elim (dec_itself r xs d) [ yes i ↦ (reported f.0 f.1, (f.2, i)) | no i ↦ (skipped f.0 f.1, (f.2, i)) ]
    ]

pub decided_append : (xs ys : List Demand) → Decided xs → Decided ys → Decided (xs ++ ys)
decided_append [] ys d e = e
decided_append (x ∷ xs) ys d e = (d.0, decided_append xs ys d.1 e)

pub dec_true : (t : Bool) → Dec (t ≡ true)
dec_true true = yes refl
dec_true false = no (λ e. cc)

pub dec_false : (t : Bool) → Dec (t ≡ false)
dec_false true = no (λ e. cc)
dec_false false = yes refl

pub decided_form : (b : ℕ) (form : List Clause) → Decided (demands_at b form)
decided_form b [] = tt
decided_form b (x ∷ xs) = (dec_true x.0, decided_form b xs)

pub dec_absent : (w : Walk) (b : ℕ) → Dec (IsAbsent w b)
dec_absent [] b = yes (λ q h. h)
dec_absent (x ∷ w) b =
    map_dec (λ n q h. elim h [ inl e ↦ n.0 e.1 | inr k ↦ n.1 q k ]) (λ f. ((λ e. f x.0 (inl (refl, e))), (λ q h. f q (inr h))))
    (dec_and (dec_not (ℕ_discrete x.1 b)) (dec_absent w b))

-- three together
pub dec_all : {P Q R : Type 0} → Dec P → Dec Q → Dec R → Dec (P × Q × R)
dec_all p q r = map_dec (λ x. (x.0, x.1.0, x.1.1)) (λ x. (x.0, (x.1, x.2))) (dec_and p (dec_and q r))

pub dec_both : (P Q : Type 0) → Dec P → Dec Q → Dec (P → Q)
dec_both P Q h k = grind (arith, common_steps)

module _ (image : List ℕ) (w : Walk) (v : IsGathered image w) where
  dec_enough : (r : Role) → Dec (Enough image w r)
  dec_enough (Data n k) =
      elim (ℕ_discrete k 1) [
        | no m ↦ yes (λ e h f. absurd (m e))
        | yes e ↦ elim (dec_file image w v n) [
          | no f ↦ yes (λ z h x. absurd (f (h, x)))
          | yes y ↦ elim (dec_le (data_count image y.0) (POINTERS * suc (ext_count w n))) [
            | yes l ↦ yes (λ z h x. subst (λ h. data_count image h ≤ POINTERS * suc (ext_count w n)) (file_one image v n y.0 h y.1 x) l)
            | no l ↦ no (λ z. l (z e y.0 y.1))
          ]
        ]
      ]
  dec_enough _ = yes tt

  dec_range : (b : ℕ) → Dec ((2 ≤ b) × (b < blocks image))
  dec_range b = dec_and (dec_le 2 b) (dec_lt b (blocks image))

  decided_data : (kind : Kind) (b h k n next : ℕ) → Decided (data_demands image kind b h k n next)
  decided_data Ofs b h k n next = decided_form b (data_form h k n next (block image b))
  decided_data Ffs b h k n next = tt

  decided_forms : (r : Role) (b : ℕ) → Decided (form_demands_in image w r b)
  decided_forms (Page i) b = decided_form b (page_form (block image b))
  decided_forms (Head n p s j) b = decided_form b (head_form_in image (kind_of image) b (node_block w p) s (block image b))
  decided_forms (Ext n k) b = decided_form b (ext_form b (node_block w n) (block image b))
  decided_forms (Data n k) b = grind (arith, common_steps, decided_data)
  decided_forms _ b = tt

  dec_names : (x y : List ℕ) → Dec (x ≡ y)
  dec_names [] [] = yes refl
  dec_names [] (y ∷ ys) = no (λ e. cc)
  dec_names (x ∷ xs) [] = no (λ e. cc)
  dec_names (x ∷ xs) (y ∷ ys) = grind (arith, common_steps, dec_names xs ys)

  -- whether a member is a header of a chain with a name
  dec_named : (p s c : ℕ) (name : List ℕ) (q : Role)
      → ((m k : ℕ) × (q ≡ Head m p s k) × (uppers_in image (name_of image c) ≡ name))
      ⊎ ((m k : ℕ) → q ≡ Head m p s k → uppers_in image (name_of image c) ≢ name)
  dec_named p s c name (Head m x y k) =
      elim (ℕ_discrete x p) [
        | no n ↦ inr (λ a b e. absurd (n cc))
        | yes e ↦ elim (ℕ_discrete y s) [
          | no n ↦ inr (λ a b e. absurd (n cc))
          | yes f ↦ elim (dec_names (uppers_in image (name_of image c)) name) [
            | no n ↦ inr (λ a b e. n)
            | yes g ↦ inl (m, k, (λ t. Head m (e t) (f t) k), g)
          ]
        ]
      ]
  dec_named p s c name q = inr (λ a b e. cc)

  dec_fresh : (u : Walk) (p s : ℕ) (name : List ℕ) → Dec ((m k c : ℕ) → Has u (Head m p s k) c → uppers_in image (name_of image c) ≢ name)
  dec_fresh [] p s name = yes (λ m k c h. absurd h)
  dec_fresh (x ∷ u) p s name =
      elim (dec_fresh u p s name) [
        | no n ↦ no (λ f. n (λ m k c h. f m k c (inr h)))
        | yes l ↦ elim (dec_named p s x.1 name x.0) [
          | inl y ↦ no (λ f. f y.0 y.1 x.1 (inl (y.2, refl)) y.3)
          | inr n ↦ yes (λ m k c h. elim h [
            | inl e ↦ subst (λ c. uppers_in image (name_of image c) ≢ name) e.1 (n m k e.0)
            | inr g ↦ l m k c g
          ])
        ]
      ]

  dec_new : (r : Role) (b : ℕ) → Dec (NewNameIn image w r b)
  dec_new (Head n p s j) b = dec_fresh w p s (uppers_in image (name_of image b))
  dec_new _ b = yes tt

  pub decided : (r : Role) (a b : ℕ) → Decided (demands_in image w r a b)
  decided r a b =
      (dec_enough r, (dec_range b, (dec_absent w b, decided_append (form_demands_in image w r b) _ (decided_forms r b) (dec_new r b, tt))))

  dec_free : (b : ℕ) → Dec (IsFreeIn image w b)
  dec_free b =
      let k : ℕ = (b - 2) / PAGE_BITS in
      dec_where (Has w (Page k)) (λ page. IsFreeAt image page ((b - 2) % PAGE_BITS)) (one_low image w v (Page k)) (λ page. dec_not_zero _)
      (dec_low image w v (Page k) (omega arith))

  decided_bit : (b : ℕ) → Decided (bitmap_demands image w b 1)
  decided_bit b = (
    dec_both (IsAbsent w b) (IsFreeIn image w b) (dec_absent w b) (dec_free b),
    (dec_both (IsFreeIn image w b) (IsAbsent w b) (dec_free b) (dec_absent w b), tt),
  )

module _ (image : List ℕ) (s : Course) (v : IsGathered image s.walk) where
  dec_unexcused : (b : ℕ) → Dec (IsUnexcused image s b)
  dec_unexcused b = dec_and (dec_absent s.skipped b) (dec_false (is_cache image b))

  dec_compared : (b : ℕ) → Dec (IsCompared image s b)
  dec_compared b =
      dec_all (ℕ_discrete (word_in image (root_of image) BITMAP_FLAG) VALID) (dec_low image s.walk v (Page ((b - 2) / PAGE_BITS)) (omega arith))
      (dec_both (IsAbsent s.walk b) (IsUnexcused image s b) (dec_absent s.walk b) (dec_unexcused b))

  pub bits_told : (b n : ℕ) → (fs : List FindingValue) × BitsTell image s b n fs
  bits_told b zero = ([], ends)
  bits_told b (suc n) =
      let rest = bits_told (suc b) n in
      elim (dec_compared b) [
        | no m ↦ (rest.0, agrees (λ k. absurd (m k)) rest.1)
        | yes k ↦ elim (first_failing (bitmap_demands image s.walk b 1) (decided_bit image s.walk v b)) [
          | inl h ↦ (rest.0, agrees (λ x. h) rest.1)
          | inr f ↦ (_, differs k f.2 rest.1)
        ]
      ]
