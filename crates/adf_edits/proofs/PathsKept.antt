-- What each path leads to after a removal, an addition, a change or a new label.
-- Letters: xs are additions, ys what the edit makes of them; x, y additions; q a path.
use Rattle.std.proofs.Common.{◌≡◌, ◌≢◌, ℕ, List, [], ◌∷◌, inl, inr, map, refl, sym, ap, ◌∙◌, true, false, None, Option, Some, not, option_map, arith}
use Rattle.std.specs.{List.find, List.list_any, Option.option_or}
use Rattle.std.proofs.lemmas.Bool.{and_parts, cases_Bool, false_from_ne_true, not-true}
use Rattle.std.proofs.{lemmas.Iterator.Adapters.option_map_id, lemmas.List.Folds.find-append, lemmas.Grind.common_steps}
use Rattle.adf_names.specs.Texts.{uppers}
use Rattle.adf_tree.specs.{Additions.Addition, Additions.AllHaveRoom, Additions.content_of, Additions.entries_of_additions, Paths.Content, Paths.content_at}
use Rattle.adf_edits.specs.declared.edits.Change.{Change}
use Rattle.adf_tree.specs.declared.entry.Body.TheVariants.{File}
use Rattle.adf_edits.specs.Edits.{can_remove, can_replace, changed_meta, changed_at, changed_if, has_directory, has_path, is_at, is_directory_at, is_file_named, refilled_at, refilled_if, removed}
use Rattle.adf_edits.specs.Edits.{only_if, with_new}
use Rattle.adf_edits.proofs.FirstAt.{content_done, first_kept, first_left_out, first_mapped, none_first, or_nothing, told}
use Rattle.adf_edits.proofs.{Places.same_paths, RoomKept.change_kept, RoomKept.made_is, RoomKept.new_kept, RoomKept.place_to_add, RoomKept.remove_kept}
use Rattle.adf_edits.proofs.RoomKept.{replace_kept}

-- what has one path does not have another
pub not_both : (a b : List (List ℕ)) (y : Addition) → map uppers a ≢ map uppers b → is_at a y ≡ true → is_at b y ≡ false
not_both a b y far at = false_from_ne_true (is_at b y) (λ t. far (sym ((same_paths y.path a).0 at) ∙ (same_paths y.path b).0 t))

-- removals

module _ (path : List (List ℕ)) (xs ys : List Addition) (room : AllHaveRoom xs)
    (h : only_if (can_remove xs path) (removed path xs) ≡ Some ys) where
  left : (q : List (List ℕ)) → content_at (entries_of_additions ys) q ≡ option_map content_of (find (is_at q) (removed path xs))
  left q = grind (arith, common_steps, told, remove_kept, option_map, made_is)

  pub gone : content_at (entries_of_additions ys) path ≡ None
  gone = left path ∙ ap (option_map content_of) (first_left_out (is_at path) (is_at path) xs (λ y at. at))

  pub others_kept : (q : List (List ℕ)) → map uppers q ≢ map uppers path
      → content_at (entries_of_additions ys) q ≡ content_at (entries_of_additions xs) q
  others_kept q far =
      left q
      ∙ (ap (option_map content_of) (first_kept (is_at q) (λ y. not (is_at path y)) xs (λ y at. rw (not_both q path y far at) refl))
      ∙ sym (told xs room q))

-- additions

module _ (x : Addition) (xs ys : List Addition) (room : AllHaveRoom xs) (h : with_new x xs ≡ Some ys) where
  more : (q : List (List ℕ))
      → content_at (entries_of_additions ys) q ≡ option_map content_of (option_or (find (is_at q) xs) (find (is_at q) (x ∷ [])))
  more q = grind (arith, told, new_kept, option_map, made_is, find-append)

  pub new_there : content_at (entries_of_additions ys) x.path ≡ Some (content_of x)
  new_there = grind (arith, common_steps, place_to_add, made_is, same_paths, more, none_first)

  pub old_kept : (q : List (List ℕ)) → map uppers q ≢ map uppers x.path
      → content_at (entries_of_additions ys) q ≡ content_at (entries_of_additions xs) q
  old_kept q far = grind (arith, false_from_ne_true, same_paths, more, option_map, or_nothing, told)

-- changes

module _ (path : List (List ℕ)) (what : Change) (xs ys : List Addition) (room : AllHaveRoom xs)
    (h : only_if (has_path xs path) (changed_at path what xs) ≡ Some ys) where
  same_at : (q : List (List ℕ)) (y : Addition) → is_at q (changed_if path what y) ≡ is_at q y
  same_at q y = elim (cases_Bool (is_at path y)) [ inl t ↦ rw t refl | inr f ↦ rw f refl ]

  after : (q : List (List ℕ))
      → content_at (entries_of_additions ys) q ≡ option_map content_of (option_map (changed_if path what) (find (is_at q) xs))
  after q = grind (arith, common_steps, told, change_kept, option_map, made_is, first_mapped, same_at)

  pub change_there : content_at (entries_of_additions ys) path
      ≡ option_map (λ (c : Content). record c { meta = changed_meta what c.meta }) (content_at (entries_of_additions xs) path)
  change_there = grind (arith, common_steps, after, content_done, option_map, told)

  pub unchanged_kept : (q : List (List ℕ)) → map uppers q ≢ map uppers path
      → content_at (entries_of_additions ys) q ≡ content_at (entries_of_additions xs) q
  unchanged_kept q far =
      after q
      ∙ (content_done (is_at q) (changed_if path what) (λ c. c) xs (λ y at. rw (not_both q path y far at) refl)
      ∙ (option_map_id (option_map content_of (find (is_at q) xs)) ∙ sym (told xs room q)))

-- other bytes

first_refilled : (path : List (List ℕ)) (bytes : List ℕ) (xs : List Addition) → list_any (is_directory_at path) xs ≡ false
    → option_map content_of (option_map (refilled_if path bytes) (find (is_at path) xs))
    ≡ option_map (λ (c : Content). record c { body = File bytes }) (option_map content_of (find (is_at path) xs))
first_refilled path bytes [] none = refl
first_refilled path bytes (x ∷ xs) none = grind (arith, common_steps, cases_Bool, first_refilled path bytes xs)

module _ (path : List (List ℕ)) (bytes : List ℕ) (xs ys : List Addition) (room : AllHaveRoom xs)
    (h : only_if (can_replace xs path) (refilled_at path bytes xs) ≡ Some ys) where
  refilled_same_at : (q : List (List ℕ)) (y : Addition) → is_at q (refilled_if path bytes y) ≡ is_at q y
  refilled_same_at q y = elim (cases_Bool (is_file_named path y)) [ inl t ↦ rw t refl | inr f ↦ rw f refl ]

  after_replace : (q : List (List ℕ))
      → content_at (entries_of_additions ys) q ≡ option_map content_of (option_map (refilled_if path bytes) (find (is_at q) xs))
  after_replace q = grind (arith, common_steps, told, replace_kept, option_map, made_is, first_mapped, refilled_same_at)

  -- what has the path is a file
  no_directory : list_any (is_directory_at path) xs ≡ false
  no_directory =
      not-true (has_directory xs path)
      (and_parts (has_path xs path) (not (has_directory xs path)) (made_is (can_replace xs path) (refilled_at path bytes xs) ys h).0).1

  pub replace_there : content_at (entries_of_additions ys) path
      ≡ option_map (λ (c : Content). record c { body = File bytes }) (content_at (entries_of_additions xs) path)
  replace_there =
      after_replace path
      ∙ (first_refilled path bytes xs no_directory ∙ ap (option_map (λ (c : Content). record c { body = File bytes })) (sym (told xs room path)))

  pub unreplaced_kept : (q : List (List ℕ)) → map uppers q ≢ map uppers path
      → content_at (entries_of_additions ys) q ≡ content_at (entries_of_additions xs) q
  unreplaced_kept q far =
      after_replace q
      ∙ (content_done (is_at q) (refilled_if path bytes) (λ c. c) xs (λ y at. rw (not_at_file y at) refl)
      ∙ (option_map_id (option_map content_of (find (is_at q) xs)) ∙ sym (told xs room q)))
    where
      not_at_file : (y : Addition) → is_at q y ≡ true → is_file_named path y ≡ false
      not_at_file y at = grind (arith, cases_Bool, not_both q path y far at)

-- labels

pub label_keeps : (xs ys : List Addition) (q : List (List ℕ)) → (let r : Option (List Addition) = Some xs in r ≡ Some ys)
    → content_at (entries_of_additions ys) q ≡ content_at (entries_of_additions xs) q
label_keeps xs ys q h = let same : xs ≡ ys = cc in ap (λ us. content_at (entries_of_additions us) q) (sym same)
