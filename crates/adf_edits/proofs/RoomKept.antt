-- What an edit makes of additions that all have room, has room.
-- Letters: xs are additions, ys what the edit makes of them; x, y are additions, front those before them.
use Rattle.std.proofs.Common.{◌≡◌, ℕ, List, [], ◌∷◌, ◌++◌, ◌&&◌, ◌==◌, length, refl, subst, arith, true, false, Bool, Some, Option, not, get_or, map, nat_lt}
use Rattle.std.specs.List.{All, list_any}
use Rattle.std.proofs.lemmas.Bool.{and_from, and_parts, cases_Bool, eqb-false, false_from_ne_true, lt-ltb, not-true}
use Rattle.std.proofs.lemmas.List.{length-map, length-take-le, Folds.list_any_at}
use Rattle.std.proofs.lemmas.Grind.{common_steps}
use Rattle.adf_names.specs.Texts.{uppers}
use Rattle.adf_tree.specs.{Additions.Addition, Additions.AllHaveRoom, Additions.entries_of_additions, Tree.parents_of}
use Rattle.adf_tree.proofs.TreeOfAdditions.{all_built}
use Rattle.adf_edits.specs.{declared.edits.Change.Change, Paths.is_under}
use Rattle.adf_edits.specs.Edits.{can_add, can_remove, can_replace, changed_at, has_path, has_under, is_at, leads_to_directory, only_if, refilled_at, removed, with_new}
use Rattle.adf_edits.proofs.{Additions.room_more, Places.HasPlace, Places.room_from, Places.same_paths}
use Rattle.adf_edits.proofs.PlacedInOrder.{KeepsDirectory, changed_after, filtered_after, nothing_before, placed, refilled_after, roomy}

-- what is made could be made
pub made_is : (may : Bool) (xs ys : List Addition) → only_if may xs ≡ Some ys → (may ≡ true) × (xs ≡ ys)
made_is false xs ys h = cc
made_is true xs ys h = (refl, cc)

pub place_to_add : (xs : List Addition) (path : List (List ℕ)) → can_add xs path ≡ true → HasPlace xs path
place_to_add xs path h =
    let named = and_parts (not (length path == 0)) (leads_to_directory xs (parents_of path) && not (has_path xs path)) h in
    let rest = and_parts (leads_to_directory xs (parents_of path)) (not (has_path xs path)) named.1 in
    record { some = not-true (length path == 0) named.0; directory = rest.0; free = not-true (has_path xs path) rest.1 }

pub new_kept : (x : Addition) (xs ys : List Addition) → AllHaveRoom xs → with_new x xs ≡ Some ys → AllHaveRoom ys
new_kept x xs ys room h =
    let made = made_is (can_add xs x.path) (xs ++ x ∷ []) ys h in
    subst AllHaveRoom made.1
    (room_more xs x room (room_from (entries_of_additions xs) xs (all_built xs room) x.path (place_to_add xs x.path made.0)))

pub label_kept : (xs ys : List Addition) → AllHaveRoom xs → (let r : Option (List Addition) = Some xs in r ≡ Some ys) → AllHaveRoom ys
label_kept xs ys room h = let same : xs ≡ ys = cc in subst AllHaveRoom same room

pub change_kept : (path : List (List ℕ)) (what : Change) (xs ys : List Addition) → AllHaveRoom xs
    → only_if (has_path xs path) (changed_at path what xs) ≡ Some ys → AllHaveRoom ys
change_kept path what xs ys room h =
    let made = made_is (has_path xs path) (changed_at path what xs) ys h in
    subst AllHaveRoom made.1
    (roomy [] (changed_at path what xs) nothing_before (changed_after path what [] xs (placed [] xs nothing_before room)))

pub replace_kept : (path : List (List ℕ)) (bytes : List ℕ) (xs ys : List Addition) → AllHaveRoom xs
    → only_if (can_replace xs path) (refilled_at path bytes xs) ≡ Some ys → AllHaveRoom ys
replace_kept path bytes xs ys room h =
    let made = made_is (can_replace xs path) (refilled_at path bytes xs) ys h in
    subst AllHaveRoom made.1
    (roomy [] (refilled_at path bytes xs) nothing_before (refilled_after path bytes [] xs (placed [] xs nothing_before room)))

-- removal

none_pass : (p : Addition → Bool) (xs : List Addition) → list_any p xs ≡ false → All (λ x. p x ≡ false) xs
none_pass p xs h = λ i d lt. false_from_ne_true (p (get_or xs i d)) (λ t. let there = list_any_at p xs i d lt t in cc)

-- what is in the directory of a path is under it
in_directory_under : (dir path : List (List ℕ)) → (length path == 0) ≡ false → map uppers (parents_of path) ≡ map uppers dir
    → is_under dir path ≡ true
in_directory_under dir path some same = grind (arith, common_steps, eqb-false, length-take-le, length-map, same_paths, and_from, nat_lt, lt-ltb)

-- where nothing is under a path, it is the directory of nothing
keeps_directory : (path : List (List ℕ)) (x : Addition) → is_under path x.path ≡ false → KeepsDirectory (λ y. not (is_at path y)) x
keeps_directory path x none = grind (arith, common_steps, cases_Bool, and_parts, same_paths, in_directory_under)

nothing_under : (xs : List Addition) (path : List (List ℕ)) → can_remove xs path ≡ true → has_under xs path ≡ false
nothing_under xs path h = not-true (has_under xs path) (and_parts (has_path xs path) (not (has_under xs path)) h).1

pub remove_kept : (path : List (List ℕ)) (xs ys : List Addition) → AllHaveRoom xs
    → only_if (can_remove xs path) (removed path xs) ≡ Some ys → AllHaveRoom ys
remove_kept path xs ys room h =
    let made = made_is (can_remove xs path) (removed path xs) ys h in
    let none = none_pass (λ x. is_under path x.path) xs (nothing_under xs path made.0) in
    subst AllHaveRoom made.1
    (roomy [] (removed path xs) nothing_before (filtered_after (λ y. not (is_at path y)) [] xs
    (λ i d lt. keeps_directory path (get_or xs i d) (none i d lt)) (placed [] xs nothing_before room)))
