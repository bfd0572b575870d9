-- What each edit does to places.
-- Letters: p are places before, q after; path, from, to paths; i a place; x an addition.
use Rattle.std.proofs.Common.{◌≡◌, ℕ, List, [], ◌∷◌, ◌++◌, set, refl, sym, ap, subst, ◌∙◌, true, false, Option, Some, None}
use Rattle.adf_tree.specs.{Additions.Addition, Tree.is_dir_body}
use Rattle.adf_edits.specs.Edits.{can_move, can_remove, can_replace, changed_at, changed_if, has_path, has_under, is_at, moved_additions, rebased, refilled_at, refilled_if}
use Rattle.adf_edits.specs.Edits.{only_if, removed, with_new}
use Rattle.adf_edits.specs.declared.edits.Change.{Change}
use Rattle.adf_edits.specs.Index.{HasRoom, IsFileAt, IsIndexedAt, IsIndexed, IsRooted, IsSoundIndex, StandsIn}
use Rattle.adf_edits.specs.Index.{entry_placed, place_in_index, standing}
use Rattle.adf_edits.specs.declared.index.Places.{Places}
use Rattle.adf_edits.proofs.IndexSteps.{add_made, change_made, indexed_changed, indexed_less, indexed_without, move_made, remove_made, replace_made}
use Rattle.adf_edits.proofs.{IndexedPaths.moved_path, IndexedPaths.not_under_same}
use Rattle.adf_edits.proofs.{IndexedPaths.nothing_under_file, StandingPlaces.entry_from, StandingPlaces.put_again}

-- q has these entries, and the index of p
pub sound_by : (p q : Places) (ps : List (Option Addition)) → IsIndexed ps p.index → q.entries.items ≡ ps → q ≡ record p { entries = q.entries }
    → IsIndexed q.entries.items q.index
sound_by p q ps is entries rest =
    subst (λ index. IsIndexed q.entries.items index) (sym (ap (λ (r : Places). r.index) rest))
    (subst (λ (qs : List (Option Addition)). IsIndexed qs p.index) (sym entries) is)

file_here : (ps : List (Option Addition)) (i : ℕ) (x : Addition) → StandsIn ps i x → IsFileAt ps i → is_dir_body x.body ≡ false
file_here ps i x s f = let same : f.0 ≡ x = cc in subst (λ (y : Addition). is_dir_body y.body ≡ false) same f.2

same_changed : (path : List (List ℕ)) (what : Change) (x : Addition) → is_at path x ≡ true
    → ((changed_if path what x).path ≡ x.path) × (is_dir_body (changed_if path what x).body ≡ is_dir_body x.body)
same_changed path what x at = (rw at refl, rw at refl)

same_refilled : (path : List (List ℕ)) (bytes : List ℕ) (x : Addition) → is_at path x ≡ true → is_dir_body x.body ≡ false
    → ((refilled_if path bytes x).path ≡ x.path) × (is_dir_body (refilled_if path bytes x).body ≡ is_dir_body x.body)
same_refilled path bytes x at file = (rw (file, at) refl, rw (file, at) refl)

pub nothing_in_file : (p : Places) (path : List (List ℕ)) (i : ℕ) → IsIndexedAt p i path → IsFileAt p.entries.items i
    → has_under (standing p.entries.items) path ≡ false
nothing_in_file p path i found is_file =
    nothing_under_file p.entries.items p.index (found.sound found.whole) path i found.entry.0 found.entry.1 found.entry.2
    (file_here p.entries.items i found.entry.0 found.entry.1 is_file)

module _ (p q : Places) (path : List (List ℕ)) (i : ℕ) (found : IsIndexedAt p i path) (rest : q ≡ record p { entries = q.entries }) where
  abbrev ps : List (Option Addition)
  ps = p.entries.items

  abbrev x : Addition
  x = found.entry.0

  s : StandsIn ps i x
  s = found.entry.1

  at : is_at path x ≡ true
  at = found.entry.2

  is : IsIndexed ps p.index
  is = found.sound found.whole

  pub change_step : (what : Change) → ((y : Addition) → StandsIn ps i y → q.entries.items ≡ set ps i (Some (changed_if path what y)))
      → (only_if (has_path (standing ps) path) (changed_at path what (standing ps)) ≡ Some (standing q.entries.items)) × IsSoundIndex q
  change_step what entries = (
    change_made ps p.index is i x s path at what ∙ ap (λ (qs : List (Option Addition)). Some (standing qs)) (sym (entries x s)),
    λ whole. sound_by p q (set ps i (Some (changed_if path what x)))
        (indexed_changed ps p.index is i x s (changed_if path what x) (same_changed path what x at).0 (same_changed path what x at).1) (entries x s) rest,
  )

  pub replace_step : (bytes : List ℕ) → IsFileAt ps i
      → ((y : Addition) → StandsIn ps i y → q.entries.items ≡ set ps i (Some (refilled_if path bytes y)))
      → (only_if (can_replace (standing ps) path) (refilled_at path bytes (standing ps)) ≡ Some (standing q.entries.items)) × IsSoundIndex q
  replace_step bytes is_file entries =
      let file = file_here ps i x s is_file in (
        replace_made ps p.index is i x s path at bytes file ∙ ap (λ (qs : List (Option Addition)). Some (standing qs)) (sym (entries x s)),
        λ whole. sound_by p q (set ps i (Some (refilled_if path bytes x)))
            (indexed_changed ps p.index is i x s (refilled_if path bytes x) (same_refilled path bytes x at file).0 (same_refilled path bytes x at file).1)
            (entries x s) rest,
      )

  none_in_itself : has_under (standing ps) path ≡ false → has_under (standing ps) x.path ≡ false
  none_in_itself none = not_under_same (standing ps) path x.path at none

  pub remove_step : has_under (standing ps) path ≡ false → q.entries.items ≡ set ps i None
      → (only_if (can_remove (standing ps) path) (removed path (standing ps)) ≡ Some (standing q.entries.items)) × IsSoundIndex q
  remove_step none entries = (
    remove_made ps p.index is i x s path at none ∙ ap (λ (qs : List (Option Addition)). Some (standing qs)) (sym entries),
    λ whole. sound_by p q (set ps i None) (indexed_less ps p.index is i x s (none_in_itself none)) entries rest,
  )

  -- a file moved: p has it, q has it no more
  module _ (is_file : IsFileAt ps i) (taken : q.entries.items ≡ set ps i None) where
    pub taken_sound : IsSoundIndex q
    taken_sound whole =
        sound_by p q (set ps i None) (indexed_without ps p.index is i x s path path at (file_here ps i x s is_file)) taken rest

    module _ (item : Addition) (item_is : Some item ≡ entry_placed ps (Some i)) (to : List (List ℕ)) where
      same_item : item ≡ x
      same_item = let both : Some item ≡ Some x = item_is ∙ entry_from ps i x s in cc

      moved_to : (rebased path to item).path ≡ to
      moved_to = moved_path path to item.path (subst (λ (y : Addition). is_at path y ≡ true) (sym same_item) at)

      pub room_moved : HasRoom q to → HasRoom q (rebased path to item).path
      room_moved room = subst (HasRoom q) (sym moved_to) room

      pub put_back_is : (r : List (Option Addition)) → r ≡ set q.entries.items i (Some item) → r ≡ ps
      put_back_is r h =
          h ∙ (ap (λ (qs : List (Option Addition)). set qs i (Some item)) taken
          ∙ (ap (λ (y : Addition). set (set ps i None) i (Some y)) same_item ∙ put_again ps i x s))

      pub put_back_sound : (r : Places) → r.entries.items ≡ set q.entries.items i (Some item) → r ≡ record q { entries = r.entries } → IsSoundIndex r
      put_back_sound r h same whole =
          sound_by q r ps (subst (λ index. IsIndexed ps index) (sym (ap (λ (u : Places). u.index) rest)) is) (put_back_is r.entries.items h) same

      pub move_step : HasRoom q to → (r : List (Option Addition))
          → r ≡ q.entries.items ++ Some (rebased path to item) ∷ []
          → only_if (can_move (standing ps) path to) (moved_additions path to (standing ps)) ≡ Some (standing r)
      move_step room r moved =
          let rooted = subst (λ (qs : List (Option Addition)). IsRooted qs to) taken room.rooted in
          let index : q.index ≡ p.index = ap (λ (u : Places). u.index) rest in
          let free : entry_placed (set ps i None) (place_in_index p.index to) ≡ None =
          subst (λ (qs : List (Option Addition)). entry_placed qs (place_in_index p.index to) ≡ None) taken
          (subst (λ ix. entry_placed q.entries.items (place_in_index ix to) ≡ None) index room.free) in
          let made = move_made ps p.index is i x s path to at (file_here ps i x s is_file) rooted free in
          let all : r ≡ set ps i None ++ Some (rebased path to x) ∷ [] =
          moved ∙ (ap (λ (qs : List (Option Addition)). qs ++ Some (rebased path to item) ∷ []) taken
          ∙ ap (λ (y : Addition). set ps i None ++ Some (rebased path to y) ∷ []) same_item) in
          made ∙ ap (λ (qs : List (Option Addition)). Some (standing qs)) (sym all)

-- an entry added
pub add_step : (p q : Places) (x : Addition) → IsSoundIndex p → p.is_whole ≡ true → HasRoom p x.path
    → q.entries.items ≡ p.entries.items ++ Some x ∷ [] → with_new x (standing p.entries.items) ≡ Some (standing q.entries.items)
add_step p q x sound whole room entries =
    add_made p.entries.items p.index x (sound whole) room.rooted room.free ∙ ap (λ (qs : List (Option Addition)). Some (standing qs)) (sym entries)
