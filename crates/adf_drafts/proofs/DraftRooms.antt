-- The value of a draft after an entry is put in one of its rooms.
-- Letters: l the letters whose case is ignored.
use Rattle.std.proofs.Common.{◌≡◌, ℕ, ◌≤◌, ◌++◌, List, [], ◌∷◌, length, arith, if◌then◌else◌, Result, is_ok, OnOk, Bool, true, false}
use Rattle.std.proofs.lemmas.Grind.{common_steps}
use Rattle.adf_base.specs.declared.hash.Letters.{Letters}
use Rattle.adf_drafts.specs.{declared.draft.Room.Room, ChildMap.Numbers, Draft.draft_value, Draft.in_tree, Draft.built, Draft.IsDraft, Draft.IsRoomFor}
use Rattle.adf_tree.specs.{declared.entry.Body.Body, declared.entry.Entry.Entry, Paths.AddsOneBy}
use Rattle.adf_names.specs.{declared.kind.Kind.Kind, declared.meta.Meta.Meta, declared.meta.Stamps.Stamps}
use Rattle.adf_tree.specs.Tree.{added_by, new_entry_by, parents_of, with_entry_by, MayAddBy, Tree}
use Rattle.adf_tree.proofs.{AddRoom.new_in_room_by, AddRoom.room_may_add_by, AddRoom.IsNewBy, PathContents.added_paths}
use Rattle.adf_drafts.proofs.DraftInvariant.{entries_left}

-- the addition that is put in a room
abbrev pub put_in : Room → Meta → Body → Entry
put_in room meta body = record { parent = room.parent; name = room.name; meta = meta; body = body }

-- the tree that an addition leaves
tree_left : (t : Tree) (entries : List Entry) (e : Entry) (b : Bool) (path : List (List ℕ)) (meta : Meta) (body : Body)
    → entries ≡ (if b then added_by t.letters t.entries e else t.entries) → e ≡ new_entry_by t.letters t.entries path meta body
    → (let u : Tree = record t { entries = entries } in u ≡ (if b then with_entry_by t.letters t path meta body else t))
tree_left t entries e true path meta body h same = rw (h, same)
tree_left t entries e false path meta body h same = rw h

-- a draft, and a room of it
module _ {l : Letters} {drafts : List Entry} {numbers : Numbers} {kind : Kind} {label : List ℕ} {stamps : Stamps} {path : List (List ℕ)} {room : Room}
    (h : IsDraft l drafts numbers) (is : IsRoomFor (draft_value kind l label stamps (built l drafts)) path room) where
  pub room_within : room.parent ≤ length drafts
  room_within = omega (arith, is.within, h.gives.nodes)

  pub room_new : (meta : Meta) (body : Body)
      → IsNewBy l (built l drafts).entries path meta body (in_tree (built l drafts).nodes (put_in room meta body))
  room_new meta body = new_in_room_by l (built l drafts).entries path meta body room.name _ is.name is.leads

  pub room_may : (meta : Meta) (body : Body) → MayAddBy l (built l drafts).entries (in_tree (built l drafts).nodes (put_in room meta body))
  room_may meta body =
      room_may_add_by l (built l drafts).entries (in_tree (built l drafts).nodes (put_in room meta body)) (parents_of path) (room_new meta body).room

  module _ {E : Type 0} (new : List Entry) (r : Result (Unit {0}) E) (meta : Meta) (body : Body)
      (left : new ≡ (if is_ok r then drafts ++ put_in room meta body ∷ [] else drafts)) where
    pub put_paths : OnOk r (AddsOneBy l (built l drafts).entries (built l new).entries (new_entry_by l (built l drafts).entries path meta body) path)
    put_paths =
        added_paths r (built l drafts).entries (built l new).entries _ path meta body h.gives.tree (room_new meta body)
        (entries_left l drafts new (put_in room meta body) (is_ok r) left)

    pub put_tree : (draft_value kind l label stamps (built l new)).tree
        ≡ (if is_ok r then with_entry_by l (draft_value kind l label stamps (built l drafts)).tree path meta body else
        (draft_value kind l label stamps (built l drafts)).tree)
    put_tree = grind (arith, common_steps, tree_left, entries_left, put_in, room_new)
