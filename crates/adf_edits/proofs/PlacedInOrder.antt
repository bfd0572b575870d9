-- Additions that have a place behind those before them: that is to have room, and it stays where a change keeps paths and bodies, and
-- where what is left out is no directory of what stays.
-- Letters: xs are additions, front those before them; x, y additions; q the test of what stays.
use Rattle.std.proofs.Common.{◌≡◌, ℕ, suc, List, [], ◌∷◌, ◌++◌, inl, inr, ◌+◌, ◌==◌, length, map, refl, sym, ap, subst, ◌∙◌, arith, true, false, Bool, IsOk}
use Rattle.std.proofs.{Common.cond, Math.Seq.take-append_seam, Math.Seq.get_or-append_seam, lemmas.Bool.cases_Bool, lemmas.Grind.common_steps}
use Rattle.std.specs.List.{All, filter, list_any}
use Rattle.std.proofs.lemmas.List.{append-nil, append_assoc, length-append, map-append, Elements.filter-append}
use Rattle.adf_tree.specs.{Additions.Addition, Additions.AllHaveRoom, Additions.entries_of_additions, Tree.is_dir_body, Tree.parents_of, Tree.room_for}
use Rattle.adf_tree.proofs.TreeOfAdditions.{all_built}
use Rattle.adf_edits.specs.{declared.edits.Change.Change, Edits.changed_at, Edits.changed_if, Edits.is_at, Edits.is_directory_at}
use Rattle.adf_edits.specs.Edits.{is_file_named, refilled_at, refilled_if}
use Rattle.adf_edits.proofs.{Additions.room_more, Places.HasPlace, Places.place_from, Places.room_from}

-- each addition has a place behind these and those before it
abbrev pub PlacedAfter : List Addition → List Addition → Type 0
PlacedAfter front [] = Unit {0}
PlacedAfter front (x ∷ xs) = HasPlace front x.path × PlacedAfter (front ++ x ∷ []) xs

pub placed : (front xs : List Addition) → AllHaveRoom front → AllHaveRoom (front ++ xs) → PlacedAfter front xs
placed front [] before room = tt
placed front (x ∷ xs) before room =
    let long : length (front ++ x ∷ xs) ≡ length front + length (x ∷ xs) = length-append front (x ∷ xs) in
    let ok : IsOk (room_for (entries_of_additions front) x.path) =
    rw (take-append_seam front (x ∷ xs), get_or-append_seam front x xs x) at (room (length front) x (omega (arith, long))) in (
      place_from (entries_of_additions front) front (all_built front before) x ok,
      placed (front ++ x ∷ []) xs (room_more front x before ok) (subst AllHaveRoom (sym (append_assoc front (x ∷ []) xs)) room),
    )

pub roomy : (front xs : List Addition) → AllHaveRoom front → PlacedAfter front xs → AllHaveRoom (front ++ xs)
roomy front [] before h = subst AllHaveRoom (sym (append-nil front)) before
roomy front (x ∷ xs) before h =
    let ok : IsOk (room_for (entries_of_additions front) x.path) =
    room_from (entries_of_additions front) front (all_built front before) x.path h.0 in
    subst AllHaveRoom (append_assoc front (x ∷ []) xs) (roomy (front ++ x ∷ []) xs (room_more front x before ok) h.1)

pub nothing_before : AllHaveRoom []
nothing_before = λ i d lt. absurd (omega arith)

-- what is done to each keeps paths and directories

pub any_mapped : (p : Addition → Bool) (f : Addition → Addition) (xs : List Addition) → ((y : Addition) → p (f y) ≡ p y)
    → list_any p (map f xs) ≡ list_any p xs
any_mapped p f [] h = refl
any_mapped p f (x ∷ xs) h = rw (h x, any_mapped p f xs h) refl

module _ (f : Addition → Addition) (paths : (y : Addition) → (f y).path ≡ y.path)
    (directories : (y : Addition) → is_dir_body (f y).body ≡ is_dir_body y.body) where
  same_directory : (dir : List (List ℕ)) (y : Addition) → is_directory_at dir (f y) ≡ is_directory_at dir y
  same_directory dir y = grind (arith, common_steps, directories, paths)

  mapped_place : (front : List Addition) (to : List (List ℕ)) → HasPlace front to → HasPlace (map f front) to
  mapped_place front to h = grind (arith, common_steps, any_mapped, same_directory, paths)

  pub mapped_after : (front xs : List Addition) → PlacedAfter front xs → PlacedAfter (map f front) (map f xs)
  mapped_after front [] h = tt
  mapped_after front (x ∷ xs) h = (
    subst (HasPlace (map f front)) (sym (paths x)) (mapped_place front x.path h.0),
    subst (λ us. PlacedAfter us (map f xs)) (map-append f front (x ∷ [])) (mapped_after (front ++ x ∷ []) xs h.1),
  )

-- a change keeps paths and bodies

module _ (path : List (List ℕ)) (what : Change) where
  abbrev change : Addition → Addition
  change = changed_if path what

  pub same_place : (y : Addition) → (change y).path ≡ y.path
  same_place y = elim (cases_Bool (is_at path y)) [ inl t ↦ rw t refl | inr f ↦ rw f refl ]

  same_body : (y : Addition) → (change y).body ≡ y.body
  same_body y = elim (cases_Bool (is_at path y)) [ inl t ↦ rw t refl | inr f ↦ rw f refl ]

  pub changed_after : (front xs : List Addition) → PlacedAfter front xs → PlacedAfter (changed_at path what front) (changed_at path what xs)
  changed_after = mapped_after change same_place (λ y. ap is_dir_body (same_body y))

-- other bytes of a file

module _ (path : List (List ℕ)) (bytes : List ℕ) where
  abbrev refill : Addition → Addition
  refill = refilled_if path bytes

  pub refilled_place : (y : Addition) → (refill y).path ≡ y.path
  refilled_place y = elim (cases_Bool (is_file_named path y)) [ inl t ↦ rw t refl | inr f ↦ rw f refl ]

  refilled_directory : (y : Addition) → is_dir_body (refill y).body ≡ is_dir_body y.body
  refilled_directory y = grind (arith, common_steps, cases_Bool)

  pub refilled_after : (front xs : List Addition) → PlacedAfter front xs
      → PlacedAfter (refilled_at path bytes front) (refilled_at path bytes xs)
  refilled_after = mapped_after refill refilled_place refilled_directory

-- what stays

pub any_kept : (p q : Addition → Bool) (xs : List Addition) → ((y : Addition) → p y ≡ true → q y ≡ true)
    → list_any p (filter q xs) ≡ list_any p xs
any_kept p q [] h = refl
any_kept p q (x ∷ xs) h = grind (arith, common_steps, cases_Bool, any_kept p q xs h)

pub any_fewer : (p q : Addition → Bool) (xs : List Addition) → list_any p xs ≡ false → list_any p (filter q xs) ≡ false
any_fewer p q [] h = h
any_fewer p q (x ∷ xs) h = elim (cases_Bool (p x)) [
  | inl t ↦ let clash = rw t at h in cc
  | inr g ↦
      let rest : list_any p xs ≡ false = rw g at h in
      elim (cases_Bool (q x)) [ inl t ↦ rw (t, g) (any_fewer p q xs rest) | inr f ↦ rw f (any_fewer p q xs rest) ]
]

-- if x stays, so does its directory
abbrev pub KeepsDirectory : (Addition → Bool) → Addition → Type 0
KeepsDirectory q x = (length x.path == 0) ≡ false → q x ≡ true → (y : Addition) → is_directory_at (parents_of x.path) y ≡ true → q y ≡ true

module _ (q : Addition → Bool) where
  place_stays : (front : List Addition) (x : Addition) → ((y : Addition) → is_directory_at (parents_of x.path) y ≡ true → q y ≡ true)
      → HasPlace front x.path → HasPlace (filter q front) x.path
  place_stays front x keeps h = grind (arith, common_steps, any_kept, any_fewer)

  pub filtered_after : (front xs : List Addition) → All (KeepsDirectory q) xs → PlacedAfter front xs → PlacedAfter (filter q front) (filter q xs)
  filtered_after front [] keeps h = tt
  filtered_after front (x ∷ xs) keeps h =
      let rest : PlacedAfter (filter q (front ++ x ∷ [])) (filter q xs) =
      filtered_after (front ++ x ∷ []) xs (λ i d lt. keeps (suc i) d (omega arith)) h.1 in
      let split = filter-append q front (x ∷ []) in
      elim (cases_Bool (q x)) [
        | inl t ↦
            let more : filter q (front ++ x ∷ []) ≡ filter q front ++ x ∷ [] =
            split ∙ ap (λ b. filter q front ++ cond b (x ∷ []) []) t in
            subst (λ b. PlacedAfter (filter q front) (cond b (x ∷ filter q xs) (filter q xs))) (sym t)
            (place_stays front x (keeps 0 x (omega arith) h.0.some t) h.0, subst (λ us. PlacedAfter us (filter q xs)) more rest)
        | inr f ↦
            let less : filter q (front ++ x ∷ []) ≡ filter q front =
            split ∙ (ap (λ b. filter q front ++ cond b (x ∷ []) []) f ∙ append-nil (filter q front)) in
            subst (λ b. PlacedAfter (filter q front) (cond b (x ∷ filter q xs) (filter q xs))) (sym f)
            (subst (λ us. PlacedAfter us (filter q xs)) less rest)
      ]
