-- Whether a path has room, and what may be added there.
-- Letters: l the letters whose case is ignored.
use Rattle.std.proofs.Common.{◌≡◌, ℕ, ◌-◌, ◌<◌, List, [], ◌∷◌, length, get_or, true, false, Bool, Option, Some, None, Result, Ok, Err, arith, ◌==◌, refl, subst}
use Rattle.std.proofs.Common.{if◌then◌else◌, zero, suc, take, ◌++◌, option_map}
use Rattle.std.specs.{Option.unwrap_or, List.slice_get}
use Rattle.std.proofs.lemmas.Bool.{cases_Bool, and_from, eq-eqb, eqb-false, ne_eqb, both_ways}
use Rattle.std.proofs.{lemmas.List.get_or_default, lemmas.List.take_more, lemmas.List.take_all, lemmas.Slice.Eq.bytes_eq-Decides, lemmas.Grind.common_steps}
use Rattle.adf_base.specs.declared.hash.Letters.{Letters, TheVariants.Ascii}
use Rattle.adf_tree.specs.{declared.entry.Entry.Entry, declared.entry.Body.Body, declared.entry.Body.TheVariants.Dir, declared.entry.Body.TheVariants.File}
use Rattle.adf_names.specs.{declared.kind.Kind.Kind, declared.meta.Meta.Meta, declared.meta.Stamps.Stamps}
use Rattle.adf_tree.specs.declared.tree.RoomFault.{RoomFault, TheVariants.EmptyPath, TheVariants.NoParent, TheVariants.ParentIsFile, TheVariants.Exists}
use Rattle.adf_tree.specs.Tree.{added_by, child, child_by, directory_from, directory_from_by, free_in, is_dir, is_dir_body, last_of, new_entry_by, parents_of}
use Rattle.adf_tree.specs.Tree.{room_at, room_at_by, room_for, room_for_by, with_added, with_entry_by, AreApartBy, IsDir, IsTreeBy, MayAddBy, Tree, TreeEntries}
use Rattle.adf_tree.proofs.{TreeInvariant.added_tree, ChildLookup.none_is}

body_is_dir : (b : Body) → is_dir_body b ≡ true → b ≡ Dir
body_is_dir Dir h = refl
body_is_dir (File bytes) h = cc

slice_dir : (es : List Entry) (i : ℕ) → unwrap_or (option_map (λ e. is_dir_body e.body) (slice_get es i)) false ≡ true
    → (i < length es) × ((d : Entry) → (get_or es i d).body ≡ Dir)
slice_dir [] i h = cc
slice_dir (e ∷ es) zero h = (omega arith, λ d. body_is_dir e.body h)
slice_dir (e ∷ es) (suc i) h = let more = slice_dir es i h in (omega (arith, more.0), more.1)

is_dir_says : (es : List Entry) (n : ℕ) → is_dir es n ≡ true → IsDir es n
is_dir_says es n h some = grind (arith, common_steps, slice_dir, ne_eqb)

-- a path of directories leads to one
pub next_dir_by : (l : Letters) (es : List Entry) (names : List (List ℕ)) (q : ℕ) (o : Option ℕ)
    → (let r : Result ℕ RoomFault =
    elim o [ None ↦ Err NoParent | Some n ↦ if is_dir es n then directory_from_by l es n names else Err ParentIsFile ] in r ≡ Ok q)
    → (n : ℕ) × (o ≡ Some n) × (is_dir es n ≡ true) × (directory_from_by l es n names ≡ Ok q)
next_dir_by l es names q None h = cc
next_dir_by l es names q (Some n) h = grind (arith, common_steps, cases_Bool)

pub directory_is_dir_by : (l : Letters) (es : List Entry) (p : ℕ) (names : List (List ℕ)) (q : ℕ) → directory_from_by l es p names ≡ Ok q → IsDir es p
    → IsDir es q
directory_is_dir_by l es p [] q h dir = let same : q ≡ p = cc in rw same dir
directory_is_dir_by l es p (name ∷ names) q h dir =
    let next = next_dir_by l es names q (child_by l es p name) h in
    directory_is_dir_by l es next.0 names q next.3 (is_dir_says es next.0 next.2)

pub none_is_fresh : (l : Letters) (es : List Entry) (e : Entry) → child_by l es e.parent e.name ≡ None → (k : ℕ) (d : Entry) → k < length es
    → AreApartBy l (get_or es k d) e
none_is_fresh l es e h k d lt p u = grind (arith, common_steps, both_ways, none_is, and_from, eq-eqb, bytes_eq-Decides)

free_says : (p q : ℕ) (o : Option ℕ) → free_in p o ≡ Ok q → (p ≡ q) × (o ≡ None)
free_says p q None h = (cc, refl)
free_says p q (Some n) h = cc

pub room_says_by : (l : Letters) (es : List Entry) (e : Entry) (r : Result ℕ RoomFault) → room_at_by l es e.name r ≡ Ok e.parent
    → (r ≡ Ok e.parent) × (child_by l es e.parent e.name ≡ None)
room_says_by l es e (Ok p) h = grind (arith, common_steps, free_says)
room_says_by l es e (Err f) h = cc

pub room_may_add_by : (l : Letters) (es : List Entry) (e : Entry) (names : List (List ℕ))
    → room_at_by l es e.name (directory_from_by l es 0 names) ≡ Ok e.parent → MayAddBy l es e
room_may_add_by l es e names h =
    let both = room_says_by l es e (directory_from_by l es 0 names) h in
    record {
      parent = directory_is_dir_by l es 0 names e.parent both.0 (λ some. absurd (omega arith));
      fresh = none_is_fresh l es e both.1;
    }

pub whole_path : (path : List (List ℕ)) (d : List ℕ) → (length path == 0) ≡ false
    → path ≡ take (length path - 1) path ++ get_or path (length path - 1) d ∷ []
whole_path path d h = grind (arith, common_steps, eqb-false, take_all, take_more)

-- so a tree stays one, whatever `add` answers
pub room_keeps : (l : Letters) (es : List Entry) (e : Entry) (names : List (List ℕ)) (b : Bool) → IsTreeBy l es
    → room_at_by l es e.name (directory_from_by l es 0 names) ≡ Ok e.parent → IsTreeBy l (if b then added_by l es e else es)
room_keeps l es e names true t h = added_tree es e t (room_may_add_by l es e names h)
room_keeps l es e names false t h = t

-- an entry is the one that a path with room gets
pub record IsNewBy (l : Letters) (es : List Entry) (path : List (List ℕ)) (meta : Meta) (body : Body) (e : Entry) : Type 0 where
  pub is : path ≡ parents_of path ++ e.name ∷ []
  pub room : room_at_by l es e.name (directory_from_by l es 0 (parents_of path)) ≡ Ok e.parent
  pub entry : e ≡ new_entry_by l es path meta body

-- the room of a path whose last name is found at its place
pub room_is : (l : Letters) (es : List Entry) (path : List (List ℕ)) (x name : List ℕ) (p : ℕ) → (length path == 0) ≡ false
    → x ≡ get_or path (length path - 1) x → name ≡ x
    → (let r : Result ℕ RoomFault = Ok p in r ≡ room_at_by l es name (directory_from_by l es 0 (parents_of path)))
    → (name ≡ last_of path) × (room_for_by l es path ≡ Ok p)
room_is l es path x name p some at same ok = grind (arith, common_steps, eqb-false, get_or_default)

-- what is put in the room of a path is the path's entry
pub new_in_room_by : (l : Letters) (es : List Entry) (path : List (List ℕ)) (meta : Meta) (body : Body) (name : List ℕ) (p : ℕ) → name ≡ last_of path
    → room_for_by l es path ≡ Ok p → IsNewBy l es path meta body (record { parent = p; name = name; meta = meta; body = body })
new_in_room_by l es path meta body name p last room = grind (arith, common_steps, cases_Bool, whole_path)

pub is_new : (l : Letters) (es : List Entry) (path : List (List ℕ)) (meta : Meta) (body : Body) (x name : List ℕ) (p : ℕ) → (length path == 0) ≡ false
    → x ≡ get_or path (length path - 1) x → name ≡ x
    → (let r : Result ℕ RoomFault = Ok p in r ≡ room_at_by l es name (directory_from_by l es 0 (parents_of path)))
    → IsNewBy l es path meta body (record { parent = p; name = name; meta = meta; body = body })
is_new l es path meta body x name p some at same ok = grind (arith, common_steps, room_is, new_in_room_by)

-- and by any letters
pub entries_left : (t : TreeEntries) (entries : List Entry) (e : Entry) (b : Bool) (path : List (List ℕ)) (meta : Meta) (body : Body)
    → entries ≡ (if b then added_by t.letters t.entries e else t.entries) → e ≡ new_entry_by t.letters t.entries path meta body
    → (let u : TreeEntries = record t { entries = entries } in u ≡ (if b then with_added t path meta body else t))
entries_left t entries e true path meta body h same = rw (h, same)
entries_left t entries e false path meta body h same = rw h

-- a tree of such entries
pub tree_grown : (kind : Kind) (label : List ℕ) (stamps : Stamps) (old new : TreeEntries) (b : Bool) (path : List (List ℕ)) (meta : Meta) (body : Body)
    → new ≡ (if b then with_added old path meta body else old)
    → (let t : Tree = record { kind = kind; letters = old.letters; label = label; stamps = stamps; entries = old.entries } in
    let u : Tree = record t { letters = new.letters; entries = new.entries } in u ≡ (if b then with_entry_by old.letters t path meta body else t))
tree_grown kind label stamps old new true path meta body h = rw h
tree_grown kind label stamps old new false path meta body h = rw h

-- why a path with a name has no room: its parent is none, or it exists
abbrev pub SaysNoRoom : RoomFault → Type 0
SaysNoRoom EmptyPath = ⊥
SaysNoRoom _ = Unit {0}

next_says : (l : Letters) (es : List Entry) (names : List (List ℕ)) (f : RoomFault) (o : Option ℕ)
    → ((n : ℕ) → directory_from_by l es n names ≡ Err f → SaysNoRoom f)
    → (let r : Result ℕ RoomFault =
    elim o [ None ↦ Err NoParent | Some n ↦ if is_dir es n then directory_from_by l es n names else Err ParentIsFile ] in r ≡ Err f) → SaysNoRoom f
next_says l es names f None more h = let same : NoParent ≡ f = cc in subst SaysNoRoom same tt
next_says l es names f (Some n) more h = grind (arith, common_steps, cases_Bool)

directory_says : (l : Letters) (es : List Entry) (names : List (List ℕ)) (f : RoomFault) (p : ℕ) → directory_from_by l es p names ≡ Err f
    → SaysNoRoom f
directory_says l es [] f p h = cc
directory_says l es (name ∷ names) f p h = next_says l es names f (child_by l es p name) (directory_says l es names f) h

taken_says : (p : ℕ) (o : Option ℕ) (f : RoomFault) → free_in p o ≡ Err f → SaysNoRoom f
taken_says p None f h = cc
taken_says p (Some n) f h = let same : Exists ≡ f = cc in subst SaysNoRoom same tt

room_says_why : (l : Letters) (es : List Entry) (name : List ℕ) (f : RoomFault) (r : Result ℕ RoomFault)
    → ((g : RoomFault) → r ≡ Err g → SaysNoRoom g)
    → room_at_by l es name r ≡ Err f → SaysNoRoom f
room_says_why l es name f (Err g) why h = let same : g ≡ f = cc in subst SaysNoRoom same (why g refl)
room_says_why l es name f (Ok p) why h = grind (arith, common_steps, taken_says)

pub no_room_by : (l : Letters) (es : List Entry) (path : List (List ℕ)) (f : RoomFault) → 0 < length path → room_for_by l es path ≡ Err f
    → SaysNoRoom f
no_room_by l es path f some h = grind (arith, common_steps, room_says_why, directory_says, ne_eqb)

-- by ASCII letters

pub directory_is_dir : (es : List Entry) (p : ℕ) (names : List (List ℕ)) (q : ℕ) → directory_from es p names ≡ Ok q → IsDir es p → IsDir es q
directory_is_dir = directory_is_dir_by Ascii

pub room_says : (es : List Entry) (e : Entry) (r : Result ℕ RoomFault) → room_at es e.name r ≡ Ok e.parent
    → (r ≡ Ok e.parent) × (child es e.parent e.name ≡ None)
room_says = room_says_by Ascii

pub no_room : (es : List Entry) (path : List (List ℕ)) (f : RoomFault) → 0 < length path → room_for es path ≡ Err f → SaysNoRoom f
no_room = no_room_by Ascii
