-- The directories of a draft: what has room in them, and how they stay when an entry is put in the draft.
-- Letters: l the letters whose case is ignored.
use Rattle.std.proofs.Common.{◌≡◌, ◌≢◌, ℕ, ◌+◌, ◌-◌, ◌<◌, ◌≤◌, List, [], ◌∷◌, ◌++◌, length, get_or, true, Option, Some, None, Result, Ok, Err, arith, sym, refl}
use Rattle.std.proofs.Common.{◌∙◌, ap, if◌then◌else◌, is_ok, option_map, OnOk}
use Rattle.std.proofs.{lemmas.Bool.ne_eqb, Math.Seq.take-append_seam, lemmas.Grind.common_steps}
use Rattle.std.proofs.lemmas.List.{get_or_push, length_push, length-map}
use Rattle.adf_base.specs.declared.hash.Letters.{Letters}
use Rattle.adf_drafts.specs.{declared.draft.Room.Room, ChildMap.number_in, ChildMap.Numbers}
use Rattle.adf_tree.specs.{declared.entry.Body.Body, declared.entry.Body.TheVariants.Dir, declared.entry.Entry.Entry, Tree.MayAddBy}
use Rattle.adf_names.specs.{declared.kind.Kind.Kind, declared.meta.Meta.Meta, declared.meta.Stamps.Stamps, Texts.uppers_by}
use Rattle.adf_tree.specs.declared.tree.RoomFault.{RoomFault, TheVariants.Exists}
use Rattle.adf_drafts.specs.Draft.{draft_value, in_tree, new_number, addition_node, built, built_more, IsDirectoryOf, IsDraft, IsRoomFor}
use Rattle.adf_tree.specs.Tree.{added_by, child_by, directory_from_by, free_in, is_dir, moved, parents_of, place_by, rank_by, room_at_by, room_for_by, IsTreeBy}
use Rattle.adf_tree.proofs.AddRoom.{next_dir_by, room_may_add_by, room_says_by, IsNewBy}
use Rattle.adf_tree.proofs.ChildLookup.{child_new, child_other, child_says_by, found_is_by, parent_stays}
use Rattle.adf_drafts.proofs.DraftInvariant.{node_new, node_old, walked_more}
use Rattle.adf_drafts.proofs.{DraftLookup.dir_at, DraftLookup.past_by, DraftRooms.put_in, DraftRooms.room_may, DraftRooms.room_new}
use Rattle.adf_tree.proofs.TreeInvariant.{at_place, length_added, moved_below, moved_near, moved_up, new_get, place_le_by}

-- a path of directories in a tree with one more entry

dir_stays : {l : Letters} (es : List Entry) (e : Entry) (k : ℕ) → IsTreeBy l es → 0 < k → k ≤ length es
    → is_dir (added_by l es e) (moved (place_by l es (rank_by l e) + 1) k) ≡ is_dir es k
dir_stays {l} es e k t some le =
    let n : ℕ = place_by l es (rank_by l e) + 1 in
    let near = moved_near n k in
    let up = moved_up n k in
    rw (dir_at (added_by l es e) (moved n k) e (omega arith) (omega (arith, length_added es e t)), new_get es e k e t some le, dir_at es k e some le)

-- it leads to the same directory, under its new number
directory_stays : {l : Letters} (es : List Entry) (e : Entry) (p : ℕ) (names : List (List ℕ)) (q : ℕ) → IsTreeBy l es → MayAddBy l es e
    → directory_from_by l es p names ≡ Ok q
    → directory_from_by l (added_by l es e) (moved (place_by l es (rank_by l e) + 1) p) names ≡ Ok (moved (place_by l es (rank_by l e) + 1) q)
directory_stays {l} es e p [] q t may h = let same : p ≡ q = cc in rw same
directory_stays {l} es e p (x ∷ xs) q t may h =
    let n : ℕ = place_by l es (rank_by l e) + 1 in
    let next = next_dir_by l es xs q (child_by l es p x) h in
    let k : ℕ = next.0 in
    let found = found_is_by l es p x k e next.1 in
    let says = child_says_by l p x (get_or es (k - 1) e) found.2 in
    let other : p ≡ e.parent → uppers_by l e.name ≢ uppers_by l x =
    λ same u. may.fresh (k - 1) e (omega (arith, found.0, found.1)) (says.0 ∙ same) (says.1 ∙ sym u) in
    let at : child_by l (added_by l es e) (moved n p) x ≡ Some (moved n k) = child_other es e p x t may other ∙ ap (option_map (moved n)) next.1 in
    ap (past_by l (added_by l es e) xs) at
    ∙ rw (dir_stays es e k t found.0 found.1, next.2) (directory_stays es e k xs q t may next.3)

from_root : {l : Letters} (es : List Entry) (e : Entry) (names : List (List ℕ)) (q : ℕ) → IsTreeBy l es → MayAddBy l es e
    → directory_from_by l es 0 names ≡ Ok q
    → directory_from_by l (added_by l es e) 0 names ≡ Ok (moved (place_by l es (rank_by l e) + 1) q)
from_root {l} es e names q t may h = rw (moved_below (place_by l es (rank_by l e) + 1) 0 (omega arith)) at (directory_stays es e 0 names q t may h)

-- a path of directories, and one more name
pub one_more : (l : Letters) (es : List Entry) (p q : ℕ) (names : List (List ℕ)) (x : List ℕ) → directory_from_by l es p names ≡ Ok q
    → directory_from_by l es p (names ++ x ∷ []) ≡ past_by l es [] (child_by l es q x)
one_more l es p q [] x h = let same : p ≡ q = cc in rw same
one_more l es p q (y ∷ ys) x h =
    let next = next_dir_by l es ys q (child_by l es p y) h in
    ap (past_by l es (ys ++ x ∷ [])) next.1 ∙ rw next.2 (one_more l es next.0 q ys x next.3)

-- a new directory is where its path leads to
new_directory : {l : Letters} (es : List Entry) (e : Entry) (names : List (List ℕ)) → IsTreeBy l es
    → room_at_by l es e.name (directory_from_by l es 0 names) ≡ Ok e.parent
    → e.body ≡ Dir → directory_from_by l (added_by l es e) 0 (names ++ e.name ∷ []) ≡ Ok (place_by l es (rank_by l e) + 1)
new_directory {l} es e names t room is =
    let n : ℕ = place_by l es (rank_by l e) + 1 in
    let may = room_may_add_by l es e names room in
    let there = rw (parent_stays es e t may.parent) at (from_root es e names e.parent t may
    (room_says_by l es e (directory_from_by l es 0 names) room).0) in
    let at : n - 1 ≡ place_by l es (rank_by l e) = omega arith in
    let one : is_dir (added_by l es e) n ≡ true =
    rw (
      dir_at (added_by l es e) n e (omega arith) (omega (arith, place_le_by l es (rank_by l e), length_added es e t)),
      at,
      at_place es e e t,
      is,
    )
    refl in
    one_more l (added_by l es e) 0 e.parent names e.name there ∙ (ap (past_by l (added_by l es e) []) (child_new es e e.name t may refl) ∙ rw one)

-- the room of a path with one more name
pub room_more : (l : Letters) (es : List Entry) (names : List (List ℕ)) (x : List ℕ)
    → room_for_by l es (names ++ x ∷ []) ≡ room_at_by l es x (directory_from_by l es 0 names)
room_more l es names x = grind (arith, common_steps, length_push, ne_eqb, get_or_push, take-append_seam)

-- a draft
module _ {l : Letters} {drafts : List Entry} {numbers : Numbers} {kind : Kind} {label : List ℕ} {stamps : Stamps} (h : IsDraft l drafts numbers) where
  -- a directory has room for a name that none of its entries has, and for no other
  room_in_directory : (path : List (List ℕ)) (m : ℕ) (name : List ℕ) (o : Option ℕ)
      → IsDirectoryOf (draft_value kind l label stamps (built l drafts)) path m → number_in numbers m (uppers_by l name) ≡ o
      → room_for_by l (built l drafts).entries (path ++ name ∷ [])
      ≡ free_in (addition_node (built l drafts).nodes m) (option_map (addition_node (built l drafts).nodes) o)
  room_in_directory path m name o is at = grind (arith, common_steps, room_more)

  pub has_room_in : {path : List (List ℕ)} {m : ℕ} (name : List ℕ) → IsDirectoryOf (draft_value kind l label stamps (built l drafts)) path m
      → number_in numbers m (uppers_by l name) ≡ None
      → IsRoomFor (draft_value kind l label stamps (built l drafts)) (path ++ name ∷ []) (record { parent = m; name = name })
  has_room_in name is at = grind (arith, common_steps, length_push, get_or_push, room_in_directory)

  pub has_none_in : {path : List (List ℕ)} {m k : ℕ} (name : List ℕ) → IsDirectoryOf (draft_value kind l label stamps (built l drafts)) path m
      → number_in numbers m (uppers_by l name) ≡ Some k
      → (let r : Result ℕ RoomFault = Err Exists in room_for_by l (built l drafts).entries (path ++ name ∷ []) ≡ r)
  has_none_in {path} {m} {k} name is at = room_in_directory path m name (Some k) is at

  -- an entry is put in a room
  module _ {path : List (List ℕ)} {room : Room} (is : IsRoomFor (draft_value kind l label stamps (built l drafts)) path room)
      (meta : Meta) (body : Body) where
    may_put : MayAddBy l (built l drafts).entries (in_tree (built l drafts).nodes (put_in room meta body))
    may_put = room_may h is meta body

    one_more_node : length (built l (drafts ++ put_in room meta body ∷ [])).nodes ≡ length (built l drafts).nodes + 1
    one_more_node = grind (arith, common_steps, put_in, walked_more, length_push, length-map)

    stays : (other : List (List ℕ)) (m : ℕ) → IsDirectoryOf (draft_value kind l label stamps (built l drafts)) other m
        → IsDirectoryOf (draft_value kind l label stamps (built l (drafts ++ put_in room meta body ∷ []))) other m
    stays other m at =
        let n : ℕ = new_number l (built l drafts) (put_in room meta body) in
        let more = one_more_node in
        record {
          within = omega (arith, at.within);
          leads = rw (walked_more l drafts (put_in room meta body), node_old (built l drafts).nodes n m (omega arith) at.within)
              (from_root (built l drafts).entries (in_tree (built l drafts).nodes (put_in room meta body)) other
              (addition_node (built l drafts).nodes m) h.gives.tree may_put at.leads);
        }

    is_new : body ≡ Dir
        → IsDirectoryOf (draft_value kind l label stamps (built l (drafts ++ put_in room meta body ∷ []))) path
        (length (built l drafts).nodes + 1)
    is_new dir =
        let n : ℕ = new_number l (built l drafts) (put_in room meta body) in
        let more = one_more_node in
        let fresh : IsNewBy l (built l drafts).entries path meta body (in_tree (built l drafts).nodes (put_in room meta body)) =
        room_new h is meta body in
        record {
          within = omega arith;
          leads = rw (
            walked_more l drafts (put_in room meta body),
            node_new (built l drafts).nodes n (length (built l drafts).nodes + 1) refl,
          )
              (ap (directory_from_by l (built_more l (built l drafts) (put_in room meta body)).entries 0) fresh.is
              ∙ new_directory (built l drafts).entries (in_tree (built l drafts).nodes (put_in room meta body))
              (parents_of path) h.gives.tree fresh.room dir);
        }

    module _ {E : Type 0} (new : List Entry) (r : Result (Unit {0}) E)
        (left : new ≡ (if is_ok r then drafts ++ put_in room meta body ∷ [] else drafts)) where
      pub put_count : OnOk r (length (built l new).nodes ≡ length (built l drafts).nodes + 1)
      put_count = grind (arith, common_steps, one_more_node)

      pub put_directories : (other : List (List ℕ)) (m : ℕ) → IsDirectoryOf (draft_value kind l label stamps (built l drafts)) other m
          → IsDirectoryOf (draft_value kind l label stamps (built l new)) other m
      put_directories other m at = grind (arith, common_steps, stays)

      pub put_directory : body ≡ Dir
          → OnOk r (IsDirectoryOf (draft_value kind l label stamps (built l new)) path (length (built l drafts).nodes + 1))
      put_directory dir = grind (arith, common_steps, is_new)
