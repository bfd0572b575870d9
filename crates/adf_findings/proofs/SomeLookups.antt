-- What a path leads to in a survey is decided.
-- Letters: w the walk of a survey, fs its findings; p, n nodes; k a number of nodes.
use Rattle.std.specs.{Prelude.Bool, Prelude.true, Prelude.false, Str.bytes_eq}
use Rattle.std.proofs.Common.{◌≡◌, ◌⊎◌, ℕ, zero, suc, List, [], ◌∷◌, inl, inr, ◌<◌, ◌≤◌, refl, sym, subst, ◌∙◌, arith}
use Rattle.std.proofs.lemmas.Bool.{cases_Bool, cases_lt}
use native.Mathlib.Decide.{dec_le, ℕ_discrete}
use Rattle.adf_volume.specs.{Image.name_of, Walk.FileAt, Walk.heads, Walk.node_block, Walk.Walk}
use Rattle.adf_volume.proofs.DecidedAsks.{dec_file}
use Rattle.adf_findings.specs.{Demands.uppers_in, Members.parent_node, Lookup.IsFirstChild, Lookup.IsNamedChild, Lookup.LeadsTo}
use Rattle.adf_findings.specs.Survey.{FindingValue, IsSurvey, IsSurvey.read, IsSurvey.unread}
use Rattle.adf_findings.proofs.{Keeping.parent_is, Lookups.child_between, Lookups.child_told, Lookups.leads_on, OneSurvey.gathered}

-- whether an entry is a file
pub dec_is_file : (image : List ℕ) (w : Walk) (fs : List FindingValue) → IsSurvey image w fs → (n : ℕ) → Dec ((h : ℕ) × FileAt image w n h)
dec_is_file image w fs (unread f) n = no (λ y. y.1.header.has)
dec_is_file image w fs (read {s = s} v d t) n = dec_file image s.walk (gathered image v) n

module _ (image : List ℕ) (w : Walk) (fs : List FindingValue) (survey : IsSurvey image w fs) where
  -- whether an entry is found in a directory by a name

  same_name : (name : List ℕ) (n : ℕ) → Bool
  same_name name n = bytes_eq (uppers_in image (name_of image (node_block w n))) (uppers_in image name)

  dec_entry : (p : ℕ) (name : List ℕ) (n : ℕ) → 1 ≤ n → n ≤ heads w → Dec (IsNamedChild image w p name n)
  unfolding same_name
  dec_entry p name n lo hi = elim (ℕ_discrete (parent_node w n) p) [
    | no d ↦ no (λ c. d (parent_is image w fs survey n p c.0 c.1 c.2 c.3))
    | yes e ↦
        let tells = child_told image w fs survey p n name (name_of image (node_block w n)) (same_name name n) (parent_node w n) lo hi
        (parent_is image w fs survey n) e refl refl in
        elim (cases_Bool (same_name name n)) [
          | inl t ↦ yes (tells.0 t)
          | inr f ↦ no (λ c. let t : same_name name n ≡ true = tells.1 c in let clash : true ≡ false = sym t ∙ f in cc)
        ]
  ]

  dec_child : (p : ℕ) (name : List ℕ) (n : ℕ) → Dec (IsNamedChild image w p name n)
  dec_child p name n = elim (dec_le 1 n) [
    | no l ↦ no (λ c. let r = child_between image w fs survey p n name c in l (omega arith))
    | yes lo ↦ elim (dec_le n (heads w)) [
      | no l ↦ no (λ c. l (child_between image w fs survey p n name c).1)
      | yes hi ↦ dec_entry p name n lo hi
    ]
  ]

  -- the first one among the entries below k, or there is none
  first_below : (p : ℕ) (name : List ℕ) (k : ℕ)
      → ((n : ℕ) × IsFirstChild image w p name n) ⊎ ((n : ℕ) → n < k → IsNamedChild image w p name n → ⊥)
  first_below p name zero = inr (λ n lt c. absurd (omega arith))
  first_below p name (suc k) = elim (first_below p name k) [
    | inl y ↦ inl y
    | inr none ↦ elim (dec_child p name k) [
      | yes c ↦ inl (k, (c, none))
      | no d ↦ inr (λ n lt c. elim (cases_lt n k) [
        | inl before ↦ none n before c
        | inr from ↦ let last : n ≡ k = omega arith in d (subst (IsNamedChild image w p name) last c)
      ])
    ]
  ]

  -- the names lead to an entry, or to none
  pub leads_or_not : (p : ℕ) (names : List (List ℕ))
      → ((n : ℕ) × LeadsTo image w p names n) ⊎ ((n : ℕ) → LeadsTo image w p names n → ⊥)
  leads_or_not p [] = inl (p, refl)
  leads_or_not p (name ∷ names) = elim (first_below p name (suc (heads w))) [
    | inr none ↦ inr (λ n leads.
        let c = leads.1.0 in
        let r = child_between image w fs survey p leads.0 name c in
        none leads.0 (omega arith) c)
    | inl y ↦ elim (leads_or_not y.0 names) [
      | inl z ↦ inl (z.0, (y.0, y.1, z.1))
      | inr none ↦ inr (λ n leads. none n (leads_on image w p y.0 n name names y.1 leads))
    ]
  ]
