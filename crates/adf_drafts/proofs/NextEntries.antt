-- The next entry of a tree, behind those before it: its path has room, and directories stay where their paths lead.
-- Letters: l the letters whose case is ignored; es the entries before, e the next one; p, q, m nodes; dir, names paths; x a name.
use Rattle.std.proofs.Common.{◌≡◌, ℕ, ◌+◌, ◌-◌, ◌<◌, ◌≤◌, List, [], ◌∷◌, ◌++◌, length, get_or, true, Some, None, Ok, arith, refl, sym, ap, ◌∙◌}
use Rattle.std.proofs.{lemmas.Bool.false_from_ne_true, lemmas.Grind.common_steps}
use Rattle.std.proofs.lemmas.List.{get_or_append_left, get_or_push, length_push}
use Rattle.adf_base.specs.declared.hash.Letters.{Letters}
use Rattle.adf_tree.specs.{declared.entry.Body.TheVariants.Dir, declared.entry.Entry.Entry, Tree.room_for_by}
use Rattle.adf_tree.specs.Tree.{IsTreeBy, MayAddBy, child_by, directory_from_by, free_in, is_child_by, is_dir, is_dir_body, last_of, new_entry_by, room_at_by}
use Rattle.adf_tree.proofs.AddRoom.{next_dir_by}
use Rattle.adf_tree.proofs.ChildLookup.{child_is_by, child_says_by, found_is_by, is_child_from_by, no_children_by}
use Rattle.adf_drafts.proofs.{DraftLookup.dir_at, DraftLookup.past_by, DraftDirectories.one_more, DraftDirectories.room_more}

-- one entry more

child_stays : {l : Letters} (es : List Entry) (e : Entry) (p : ℕ) (x : List ℕ) (m : ℕ) → IsTreeBy l (es ++ e ∷ []) → child_by l es p x ≡ Some m
    → child_by l (es ++ e ∷ []) p x ≡ Some m
child_stays {l} es e p x m t h = grind (arith, common_steps, found_is_by, length_push, get_or_append_left, child_is_by)

dir_stays : (es : List Entry) (e : Entry) (m : ℕ) → 0 < m → m ≤ length es → is_dir (es ++ e ∷ []) m ≡ is_dir es m
dir_stays es e m some le =
    let long = length_push es e in
    let same : get_or (es ++ e ∷ []) (m - 1) e ≡ get_or es (m - 1) e = get_or_append_left es (e ∷ []) e (m - 1) (omega arith) in
    dir_at (es ++ e ∷ []) m e some (omega arith) ∙ (ap (λ (d : Entry). is_dir_body d.body) same ∙ sym (dir_at es m e some le))

-- a path of directories leads to the same one
pub directory_stays : {l : Letters} (es : List Entry) (e : Entry) (p : ℕ) (names : List (List ℕ)) (q : ℕ) → IsTreeBy l (es ++ e ∷ [])
    → directory_from_by l es p names ≡ Ok q
    → directory_from_by l (es ++ e ∷ []) p names ≡ Ok q
directory_stays {l} es e p [] q t h = h
directory_stays {l} es e p (x ∷ xs) q t h =
    let next = next_dir_by l es xs q (child_by l es p x) h in
    let found = found_is_by l es p x next.0 e next.1 in
    ap (past_by l (es ++ e ∷ []) xs) (child_stays es e p x next.0 t next.1)
    ∙ rw (dir_stays es e next.0 found.0 found.1, next.2) (directory_stays es e next.0 xs q t next.3)

pub last_is : (names : List (List ℕ)) (x : List ℕ) → last_of (names ++ x ∷ []) ≡ x
last_is names x = grind (arith, common_steps, length_push, get_or_push)

-- the next entry, in the directory that a path leads to
module _ {l : Letters} (es : List Entry) (e : Entry) (dir : List (List ℕ)) (may : MayAddBy l es e)
    (to : directory_from_by l es 0 dir ≡ Ok e.parent) where
  none_yet : child_by l es e.parent e.name ≡ None
  none_yet = grind (arith, common_steps, no_children_by, false_from_ne_true, child_says_by)

  -- its path has room
  pub has_room : room_for_by l es (dir ++ e.name ∷ []) ≡ Ok e.parent
  has_room = room_more l es dir e.name ∙ (ap (room_at_by l es e.name) to ∙ ap (free_in e.parent) none_yet)

  -- what is added there is the entry
  pub new_is : new_entry_by l es (dir ++ e.name ∷ []) e.meta e.body ≡ e
  new_is = grind (arith, common_steps, has_room, last_is)

  -- its path leads to it, if it is a directory
  pub new_leads : IsTreeBy l (es ++ e ∷ []) → e.body ≡ Dir → directory_from_by l (es ++ e ∷ []) 0 (dir ++ e.name ∷ []) ≡ Ok (length es + 1)
  new_leads t is =
      let long = length_push es e in
      let n : ℕ = length es + 1 in
      let there = directory_stays es e 0 dir e.parent t to in
      let here : get_or (es ++ e ∷ []) (length es) e ≡ e = get_or_push es e e (length es) refl in
      let behind : get_or (es ++ e ∷ []) (n - 1) e ≡ e = get_or_push es e e (n - 1) (omega arith) in
      let found : child_by l (es ++ e ∷ []) e.parent e.name ≡ Some n =
      child_is_by l (es ++ e ∷ []) e.parent e.name (length es) e t (omega arith)
      (ap (is_child_by l e.parent e.name) here ∙ is_child_from_by l e.parent e.name e refl refl) in
      let one : is_dir (es ++ e ∷ []) n ≡ true =
      dir_at (es ++ e ∷ []) n e (omega arith) (omega arith) ∙ (ap (λ (d : Entry). is_dir_body d.body) behind ∙ ap is_dir_body is) in
      one_more l (es ++ e ∷ []) 0 e.parent dir e.name there ∙ (ap (past_by l (es ++ e ∷ []) []) found ∙ rw one refl)
