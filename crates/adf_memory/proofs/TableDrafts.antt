-- The draft of a table of additions, and one addition more.
use Rattle.std.proofs.Common.{◌≡◌, Some, None, Ok, Err, Result, ◌≤◌, ◌<◌, ◌+◌, ◌∙◌, ℕ, List, [], ◌∷◌, ◌++◌, length, map, fold, get_or, true, false, arith, refl}
use Rattle.std.proofs.Common.{sym, ap, inl, inr, nat_lt, suc, take, ◌⊎◌}
use Rattle.std.proofs.{lemmas.Bool.cases_lt, lemmas.Bool.Decides.nat_tests, lemmas.Grind.common_steps}
use Rattle.std.proofs.lemmas.List.{map-append, get_or_append_left, get_or_push, length_push, take_more, Sums.fold_push}
use Rattle.adf_base.specs.declared.hash.Letters.{Letters}
use Rattle.adf_tree.specs.{declared.entry.Body.TheVariants.Dir, Additions.Addition, Additions.entries_of_additions_by, Additions.with_addition_by}
use Rattle.adf_tree.specs.Tree.{Tree, room_for_by, with_entry_by}
use Rattle.adf_tree.specs.declared.tree.RoomFault.TheVariants as room
use Rattle.adf_drafts.specs.{declared.draft.Room.Room, Draft.DraftValue, Draft.IsDirectoryOf, Draft.IsRoomFor}
use Rattle.adf_memory.specs.TableAdditions.{IsDraftOf, IsNextAddition, additions_of, addition_body, directory_in, fault_in, fault_of, has_bytes, has_entry_name}
use Rattle.adf_memory.specs.TableAdditions.{has_room, is_file_at, meta_in, path_numbered, addition_path, tree_with, with_next, AreSoundBefore, IsNotAdded}
use Rattle.adf_memory.specs.{declared.table_additions.AdditionFault.AdditionFault, declared.table_additions.TableAddition.TableAddition}
use Rattle.adf_memory.specs.declared.table_additions.AdditionFault.TheVariants.{BadName, Exists, BadComment, PastContents}
use Rattle.adf_memory.specs.declared.table_additions.NotAdded.{NotAdded, TheVariants.Fault, TheVariants.NoMemory}

length_mapped : {X Y : Type 0} (f : X → Y) (xs : List X) → length (map f xs) ≡ length xs
length_mapped f [] = refl
length_mapped f (x ∷ xs) = ap (λ n. suc n) (length_mapped f xs)

-- what is kept for each of some values, with that of the root before them
kept : {X Y : Type 0} (f : X → Y) (d : Y) (xs : List X) (x : X) (m : ℕ) → m ≤ length xs
    → get_or (d ∷ map f (xs ++ x ∷ [])) m d ≡ get_or (d ∷ map f xs) m d
kept f d xs x m le = rw (map-append f xs (x ∷ [])) (get_or_append_left (d ∷ map f xs) (f x ∷ []) d m (omega (arith, length_mapped f xs)))

next : {X Y : Type 0} (f : X → Y) (d : Y) (xs : List X) (x : X) (m : ℕ) → m ≡ length xs + 1
    → get_or (d ∷ map f (xs ++ x ∷ [])) m d ≡ f x
next f d xs x m at = rw (map-append f xs (x ∷ [])) (get_or_push (d ∷ map f xs) (f x) d m (omega (arith, length_mapped f xs)))

counted : (bytes : List ℕ) (before : List Addition) (xs : List TableAddition)
    → length (fold (with_next bytes) before xs) ≡ length before + length xs
counted bytes before [] = omega arith
counted bytes before (x ∷ xs) =
    omega (
      arith,
      counted bytes (with_next bytes before x) xs,
      length_push before
          (record { path = addition_path before x; meta = meta_in x; body = addition_body bytes x }),
    )

-- there are as many additions with paths as in the table
pub additions_count : (bytes : List ℕ) (xs : List TableAddition) → length (additions_of bytes xs) ≡ length xs
additions_count bytes xs = omega (arith, counted bytes [] xs)

pub additions_more : (bytes : List ℕ) (xs : List TableAddition) (x : TableAddition)
    → additions_of bytes (xs ++ x ∷ []) ≡ with_next bytes (additions_of bytes xs) x
additions_more bytes xs x = fold_push (with_next bytes) [] xs x

pub tree_more : (t : Tree) (bytes : List ℕ) (xs : List TableAddition) (x : TableAddition)
    → tree_with t bytes (xs ++ x ∷ [])
    ≡ with_entry_by t.letters (tree_with t bytes xs) (addition_path (additions_of bytes xs) x) (meta_in x) (addition_body bytes x)
tree_more t bytes xs x =
    let a : Addition = record { path = addition_path (additions_of bytes xs) x; meta = meta_in x; body = addition_body bytes x } in
    rw (additions_more bytes xs x, fold_push (with_addition_by t.letters) [] (additions_of bytes xs) a) refl

not_file : (bytes : List ℕ) (x : TableAddition) → nat_lt 0 x.is_file ≡ false → addition_body bytes x ≡ Dir
not_file bytes x e = grind (arith, common_steps, nat_tests)

-- the draft has the letters of the tree
own_letters : (t : Tree) (bytes : List ℕ) (xs : List TableAddition) (d : DraftValue) → IsDraftOf t bytes xs d → d.tree.letters ≡ t.letters
own_letters t bytes xs d is = ap (λ (s : Tree). s.letters) is.tree

-- drafts of one tree have the same letters
pub same_letters : (t : Tree) (bytes : List ℕ) (xs ys : List TableAddition) (d e : DraftValue) → IsDraftOf t bytes xs d → IsDraftOf t bytes ys e
    → d.tree.letters ≡ e.tree.letters
same_letters t bytes xs ys d e one other = own_letters t bytes xs d one ∙ sym (own_letters t bytes ys e other)

pub draft_more : (t : Tree) (bytes : List ℕ) (xs : List TableAddition) (x : TableAddition) (d e : DraftValue) → IsDraftOf t bytes xs d
    → e.tree ≡ with_entry_by d.tree.letters d.tree (addition_path (additions_of bytes xs) x) (meta_in x) (addition_body bytes x)
    → length e.nodes ≡ length d.nodes + 1
    → ((other : List (List ℕ)) (m : ℕ) → IsDirectoryOf d other m → IsDirectoryOf e other m)
    → (addition_body bytes x ≡ Dir → IsDirectoryOf e (addition_path (additions_of bytes xs) x) (length d.nodes + 1))
    → IsDraftOf t bytes (xs ++ x ∷ []) e
draft_more t bytes xs x d e is tree nodes kept_dirs new =
    let a : Addition = record { path = addition_path (additions_of bytes xs) x; meta = meta_in x; body = addition_body bytes x } in
    let n = additions_count bytes xs in
    let plain = tree ∙ ap (λ l. with_entry_by l d.tree a.path a.meta a.body) (own_letters t bytes xs d is) in
    record {
      tree = plain ∙ (ap (λ (s : Tree). with_entry_by t.letters s a.path a.meta a.body) is.tree ∙ sym (tree_more t bytes xs x));
      count = omega (arith, nodes, is.count, length_push xs x);
      directories = λ m le dir. elim (cases_lt (length xs) m) [
        | inl past ↦
            let at : m ≡ length xs + 1 = omega (arith, length_push xs x) in
            let same : m ≡ length d.nodes + 1 = omega (arith, is.count) in
            rw (additions_more bytes xs x, next (λ (b : Addition). b.path) [] (additions_of bytes xs) a m (omega arith), same)
            (new (not_file bytes x (rw (next (λ (y : TableAddition). y.is_file) 0 xs x m at) at dir)))
        | inr within ↦
            rw (additions_more bytes xs x, kept (λ (b : Addition). b.path) [] (additions_of bytes xs) a m (omega arith))
            (kept_dirs (path_numbered (additions_of bytes xs) m) m
            (is.directories m within (rw (kept (λ (y : TableAddition). y.is_file) 0 xs x m within) at dir)))
      ];
    }

-- the faults of one addition, in their order

pub directory_fault : (letters : Letters) (bytes : List ℕ) (before : List TableAddition) (x : TableAddition) (r : Result ℕ AdditionFault)
    → directory_in before x ≡ r → fault_of letters bytes before x ≡ fault_in letters bytes before x r
unfolding fault_of
directory_fault letters bytes before x r e = ap (fault_in letters bytes before x) e

pub directory_is : (before : List TableAddition) (x : TableAddition) (p : ℕ) → directory_in before x ≡ Ok p
    → (p ≡ x.parent) × (p ≤ length before) × (is_file_at before p ≡ false)
directory_is before x p e = grind (arith, common_steps, nat_tests)

module _ (t : Tree) (bytes : List ℕ) (before : List TableAddition) (x : TableAddition) (p : ℕ) (d : DraftValue)
    (is : IsNextAddition t bytes before x p d) where
  at : fault_of d.tree.letters bytes before x ≡ fault_in d.tree.letters bytes before x (Ok p)
  at = directory_fault d.tree.letters bytes before x (Ok p) is.directory

  pub in_directory : IsDirectoryOf d (path_numbered (additions_of bytes before) x.parent) p
  in_directory =
      let said = directory_is before x p is.directory in
      rw (← said.0) (is.draft.directories p said.1 said.2)

  own_entries : d.tree.entries ≡ entries_of_additions_by d.tree.letters (additions_of bytes before)
  own_entries =
      ap (λ (s : Tree). s.entries) is.draft.tree
      ∙ ap (λ l. entries_of_additions_by l (additions_of bytes before)) (sym (own_letters t bytes before d is.draft))

  pub room_none : room_for_by d.tree.letters d.tree.entries (addition_path (additions_of bytes before) x) ≡ Err room.Exists
      → has_room d.tree.letters bytes before x ≡ false
  room_none e = let plain = rw own_entries at e in rw plain refl

  pub room_some : (r : Room) → IsRoomFor d (addition_path (additions_of bytes before) x) r → has_room d.tree.letters bytes before x ≡ true
  room_some r e = let leads = rw own_entries at e.leads in rw leads refl

  pub bad_name : has_entry_name x ≡ false → fault_of d.tree.letters bytes before x ≡ Some BadName
  bad_name e = rw (at, e) refl

  pub taken : has_entry_name x ≡ true → has_room d.tree.letters bytes before x ≡ false → fault_of d.tree.letters bytes before x ≡ Some Exists
  taken e r = rw (at, e, r) refl

  pub bad_comment : has_entry_name x ≡ true → has_room d.tree.letters bytes before x ≡ true → 79 < x.comment_length
      → fault_of d.tree.letters bytes before x ≡ Some BadComment
  bad_comment e r long = let test : nat_lt 79 x.comment_length ≡ true = grind (arith, nat_tests) in rw (at, e, r, test) refl

  pub past : has_entry_name x ≡ true → has_room d.tree.letters bytes before x ≡ true → x.comment_length ≤ 79 → has_bytes bytes x ≡ false
      → fault_of d.tree.letters bytes before x ≡ Some PastContents
  past e r short b = let test : nat_lt 79 x.comment_length ≡ false = grind (arith, nat_tests) in rw (at, e, r, test, b) refl

  pub sound : has_entry_name x ≡ true → has_room d.tree.letters bytes before x ≡ true → x.comment_length ≤ 79 → has_bytes bytes x ≡ true
      → fault_of d.tree.letters bytes before x ≡ None
  sound e r short b = let test : nat_lt 79 x.comment_length ≡ false = grind (arith, nat_tests) in rw (at, e, r, test, b) refl

  pub not_copied : (e : NotAdded) → has_entry_name x ≡ true → has_room d.tree.letters bytes before x ≡ true → x.comment_length ≤ 79
      → (e ≡ NoMemory) ⊎ ((e ≡ Fault PastContents) × (has_bytes bytes x ≡ false)) → IsNotAdded d.tree.letters bytes before x e
  not_copied e n r short (inl m) = rw m tt
  not_copied e n r short (inr f) = rw f.0 (past n r short f.1)

-- the addition at a place of the table

pub next_is : (t : Tree) (bytes : List ℕ) (xs : List TableAddition) (i : ℕ) (x : TableAddition) (p : ℕ) (d : DraftValue)
    → ((y : TableAddition) → x ≡ get_or xs i y) → ((y : TableAddition) → Ok p ≡ directory_in (take i xs) (get_or xs i y))
    → IsDraftOf t bytes (take i xs) d → IsNextAddition t bytes (take i xs) x p d
next_is t bytes xs i x p d at dir is = record { draft = is; directory = ap (directory_in (take i xs)) (at x) ∙ sym (dir x) }

pub next_more : (t : Tree) (bytes : List ℕ) (xs : List TableAddition) (i : ℕ) (x : TableAddition) (e : DraftValue) → i < length xs
    → ((y : TableAddition) → x ≡ get_or xs i y) → IsDraftOf t bytes (take i xs ++ x ∷ []) e → IsDraftOf t bytes (take (i + 1) xs) e
next_more t bytes xs i x e lt at h =
    let more : take (i + 1) xs ≡ take i xs ++ x ∷ [] = take_more xs i x lt ∙ ap (λ (y : TableAddition). take i xs ++ y ∷ []) (sym (at x)) in
    rw more h

-- one addition more has no fault
pub sound_more : (letters : Letters) (bytes : List ℕ) (xs : List TableAddition) (i : ℕ) → AreSoundBefore letters bytes xs i
    → ((y : TableAddition) → fault_of letters bytes (take i xs) (get_or xs i y) ≡ None) → AreSoundBefore letters bytes xs (i + 1)
sound_more letters bytes xs i before here j y lt = elim (cases_lt j i) [
  | inl lower ↦ before j y lower
  | inr at ↦ let same : j ≡ i = omega arith in rw same (here y)
]
