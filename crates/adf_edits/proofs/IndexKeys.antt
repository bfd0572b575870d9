-- Keys of an index. es are its entries, k a key, q one that is looked up, v a place.
use Rattle.std.proofs.Common.{◌≡◌, ◌≢◌, ◌<◌, ◌+◌, ◌++◌, ℕ, Bool, List, fold, length, take, get_or, [], ◌∷◌, inl}
use Rattle.std.proofs.Common.{inr, cond, ◌⊎◌, refl, sym, ap, ◌∙◌, true, Some, map}
use Rattle.std.proofs.{lemmas.Bool.cases_Bool, lemmas.Map.Lookups.exact_bytes, lemmas.Map.Text.is_eq-slice_cmp}
use Rattle.std.proofs.{Common.append_assoc, lemmas.List.map-append, lemmas.List.take_more, lemmas.List.Sums.fold_push}
use Rattle.std.proofs.lemmas.Slice.Eq.{bytes_eq-Decides}
use Rattle.std.specs.{BTreeMap.BTreeMap, BTreeMap.insert_entry, Cmp.Lexicographic.slice_cmp, Global.Vec}
use Rattle.std.specs.{Map.lookup, Map.remove_entry, Ordering.is_eq, Ordering.nat_cmp}
use Rattle.std.specs.Ordering.{match_ordering}
use Rattle.std.specs.declared.cmp.Ordering.{Ordering, TheVariants.Less, TheVariants.Equal, TheVariants.Greater}
use Rattle.adf_names.specs.Texts.{uppers}
use Rattle.adf_tree.specs.Additions.{same_path}
use Rattle.adf_edits.specs.Index.{HasPlaceLess, by_bytes, path_key, place_at, with_key_name}
use Rattle.adf_edits.proofs.Places.{same_paths}

pub same_key : (a b : List (List ℕ)) → same_path a b ≡ true → path_key a ≡ path_key b
same_key a b h = ap (λ us. fold with_key_name [] us) ((same_paths a b).0 h)

abbrev pub tests : List ℕ → Vec ℕ → Bool
tests q k = is_eq (slice_cmp nat_cmp q k.items)

-- a place under one key more
more_by : (e : Vec ℕ × ℕ) (es : List (Vec ℕ × ℕ)) (k : Vec ℕ) (v : ℕ) (q : List ℕ) (o : Ordering) → by_bytes k e.0 ≡ o
    → lookup (tests q) (insert_entry by_bytes es k v) ≡ cond (tests q k) (Some v) (lookup (tests q) es)
    → lookup (tests q) (match_ordering o ((k, v) ∷ e ∷ es) ((e.0, v) ∷ es) (e ∷ insert_entry by_bytes es k v))
    ≡ cond (tests q k) (Some v) (lookup (tests q) (e ∷ es))
more_by e es k v q Less is h = refl
more_by e es k v q Equal is h =
    let items : k.items ≡ e.0.items = exact_bytes k.items e.0.items is in
    let same : tests q k ≡ tests q e.0 = ap (λ xs. is_eq (slice_cmp nat_cmp q xs)) items in
    elim (cases_Bool (tests q e.0)) [
      | inl t ↦ rw (same, t) refl
      | inr f ↦ rw (same, f) refl
    ]
more_by e es k v q Greater is h =
    elim (cases_Bool (tests q e.0)) [
      | inr f ↦ rw f h
      | inl t ↦
          let here : q ≡ e.0.items = (bytes_eq-Decides q e.0.items).0 (sym (is_eq-slice_cmp q e.0.items) ∙ t) in
          elim (cases_Bool (tests q k)) [
            | inr g ↦ rw (t, g) refl
            | inl u ↦
                let there : q ≡ k.items = (bytes_eq-Decides q k.items).0 (sym (is_eq-slice_cmp q k.items) ∙ u) in
                let same : k.items ≡ e.0.items = sym there ∙ here in
                let equal : is_eq (by_bytes k e.0) ≡ true =
                ap (λ xs. is_eq (slice_cmp nat_cmp xs e.0.items)) same ∙ (is_eq-slice_cmp e.0.items e.0.items
                ∙ (bytes_eq-Decides e.0.items e.0.items).1 refl) in
                let clash : is_eq Greater ≡ true = ap is_eq (sym is) ∙ equal in cc
          ]
    ]

place_more : (es : List (Vec ℕ × ℕ)) (k : Vec ℕ) (v : ℕ) (q : List ℕ)
    → lookup (tests q) (insert_entry by_bytes es k v) ≡ cond (tests q k) (Some v) (lookup (tests q) es)
place_more [] k v q = refl
place_more (e ∷ es) k v q = more_by e es k v q (by_bytes k e.0) refl (place_more es k v q)

-- the place of a key that was put, and of another
module _ (old new : BTreeMap (Vec ℕ) ℕ) (k : Vec ℕ) (v : ℕ) (put : new.entries ≡ insert_entry by_bytes old.entries k v) where
  put_at : (q : List ℕ) → place_at new q ≡ cond (tests q k) (Some v) (place_at old q)
  put_at q = ap (lookup (tests q)) put ∙ place_more old.entries k v q

  pub put_here : (q : List ℕ) → q ≡ k.items → place_at new q ≡ Some v
  put_here q is =
      let t : tests q k ≡ true = is_eq-slice_cmp q k.items ∙ (bytes_eq-Decides q k.items).1 is in put_at q ∙ rw t refl

  pub put_other : (q : List ℕ) → (place_at new q ≡ place_at old q) ⊎ (q ≡ k.items)
  put_other q = elim (cases_Bool (tests q k)) [
    | inl t ↦ inr ((bytes_eq-Decides q k.items).0 (sym (is_eq-slice_cmp q k.items) ∙ t))
    | inr f ↦ inl (put_at q ∙ rw f refl)
  ]

-- a place less, under a key
place_less : (es : List (Vec ℕ × ℕ)) (k q : List ℕ) → q ≢ k → lookup (tests q) (remove_entry (tests k) es) ≡ lookup (tests q) es
place_less [] k q ne = refl
place_less (e ∷ es) k q ne = elim (cases_Bool (tests k e.0)) [
  | inl t ↦
      let here : k ≡ e.0.items = (bytes_eq-Decides k e.0.items).0 (sym (is_eq-slice_cmp k e.0.items) ∙ t) in
      elim (cases_Bool (tests q e.0)) [
        | inl u ↦
            let there : q ≡ e.0.items = (bytes_eq-Decides q e.0.items).0 (sym (is_eq-slice_cmp q e.0.items) ∙ u) in
            absurd (ne (there ∙ sym here))
        | inr f ↦ rw (t, f) refl
      ]
  | inr f ↦
      elim (cases_Bool (tests q e.0)) [
        | inl u ↦ rw (f, u) refl
        | inr g ↦ rw (f, g) (place_less es k q ne)
      ]
]

pub place_left : (old new : BTreeMap (Vec ℕ) ℕ) (k q : List ℕ) → HasPlaceLess old new k → q ≢ k → place_at new q ≡ place_at old q
place_left old new k q less ne = ap (lookup (tests q)) less ∙ place_less old.entries k q ne

-- the key of one name more
pub key_more : (path : List (List ℕ)) (i : ℕ) (name : List ℕ) → i < length path → get_or path i name ≡ name
    → (path_key (take i path) ++ uppers name) ++ 47 ∷ [] ≡ path_key (take (i + 1) path)
key_more path i name lt is =
    let more : take (i + 1) path ≡ take i path ++ name ∷ [] = take_more path i name lt ∙ ap (λ n. take i path ++ n ∷ []) is in
    append_assoc (path_key (take i path)) (uppers name) (47 ∷ []) ∙ sym (ap path_key more
    ∙ (ap (λ us. fold with_key_name [] us) (map-append uppers (take i path) (name ∷ [])) ∙ fold_push with_key_name [] (map uppers (take i path)) (uppers name)))
