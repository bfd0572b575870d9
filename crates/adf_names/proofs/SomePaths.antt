-- A text is that of a path, or of none.
use Rattle.std.proofs.Common.{◌≡◌, ◌≢◌, ◌∙◌, ◌⊎◌, ℕ, Bool, true, false, List, [], ◌∷◌, ap, arith, inl, inr, map, refl, sym}
use Rattle.std.specs.List.{All, join_with_byte}
use Rattle.std.proofs.lemmas.List.Elements.{All-cons, All-head, All-nil, All-tail}
use Rattle.std.proofs.lemmas.List.Splits.{join_with_byte-slice_split}
use Rattle.adf_names.specs.{Escapes.escaped, PathTexts.HasPathOrNone, PathTexts.IsName, PathTexts.between_slashes, Texts.is_name}
use Rattle.adf_names.proofs.{PathParts.empty_is_path, PathParts.parts_of_text, SomeSpellings.Spells, SomeSpellings.spelt, Spellings.only_spelled}

-- a part is the escape form of a name, or of none
some_name : (part : List ℕ) → ((name : List ℕ) × IsName name × (part ≡ escaped name)) ⊎ ((name : List ℕ) → IsName name → part ≢ escaped name)
some_name part = elim (spelt part) [
  | inr none ↦ inr (λ name is e. none name (e, is.are_bytes))
  | inl (bytes, spells) ↦ of_bytes bytes spells (is_name bytes) refl
]
  where
    of_bytes : (bytes : List ℕ) → Spells part bytes → (b : Bool) → is_name bytes ≡ b
        → ((name : List ℕ) × IsName name × (part ≡ escaped name)) ⊎ ((name : List ℕ) → IsName name → part ≢ escaped name)
    of_bytes bytes spells true is = inl (bytes, record { allowed = is; are_bytes = spells.1 }, spells.0)
    of_bytes bytes spells false bad =
        inr (λ name is e.
        let same : name ≡ bytes = only_spelled name bytes is.are_bytes spells.1 (sym e ∙ spells.0) in
        let allowed : is_name bytes ≡ true = ap is_name (sym same) ∙ is.allowed in cc)

abbrev AreNames : List (List ℕ) → List (List ℕ) → Type 0
AreNames parts path = (parts ≡ map escaped path) × All IsName path

-- parts are the escape forms of names, or of none
some_names : (parts : List (List ℕ)) → ((path : List (List ℕ)) × AreNames parts path) ⊎ ((path : List (List ℕ)) → ¬ AreNames parts path)
some_names [] = inl ([], (refl, All-nil IsName))
some_names (part ∷ parts) = elim (some_name part) [
  | inr none ↦ inr (λ path are. bad_first path none are)
  | inl (name, is, e) ↦ elim (some_names parts) [
    | inl (path, are) ↦ inl (name ∷ path, (let same = are.0 in cc, All-cons IsName name path is are.1))
    | inr none ↦ inr (λ path are. bad_rest path none are)
  ]
]
  where
    bad_first : (path : List (List ℕ)) → ((name : List ℕ) → IsName name → part ≢ escaped name) → AreNames (part ∷ parts) path → ⊥
    bad_first [] none are = absurd (let e = are.0 in cc)
    bad_first (name ∷ path) none are = none name (All-head IsName name path are.1) (let e = are.0 in cc)

    bad_rest : (path : List (List ℕ)) → ((more : List (List ℕ)) → ¬ AreNames parts more) → AreNames (part ∷ parts) path → ⊥
    bad_rest [] none are = absurd (let e = are.0 in cc)
    bad_rest (name ∷ path) none are = none path (let e = are.0 in cc, All-tail IsName name path are.1)

pub path_or_none : (text : List ℕ) → HasPathOrNone text
path_or_none [] = inl ([], empty_is_path [] refl)
path_or_none (c ∷ cs) = elim (some_names (between_slashes (c ∷ cs))) [
  | inl (path, are) ↦
      inl (path, record { spells = sym (join_with_byte-slice_split 47 (c ∷ cs)) ∙ ap (join_with_byte 47) are.0; names = are.1 })
  | inr none ↦ inr (λ path is. none path (parts_of_text (c ∷ cs) path (omega arith) is, is.names))
]
