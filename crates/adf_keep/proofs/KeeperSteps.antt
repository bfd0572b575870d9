-- The state of a keeper after one more verdict.
-- Letters: g what is given; vs the verdicts before, v one more; k, s the keeper before and after it; d, e drafts; ps places.
use Rattle.std.proofs.Common.{Err, IsOk, take, ◌≡◌, ℕ, ◌+◌, ◌-◌, ◌<◌, ◌≤◌, ◌^◌, inl, inr, List, [], ◌∷◌, ◌++◌, Option, Some, None, Bool, true, false, cond, length, get_or, min, arith, refl, sym, ◌∙◌, ap, subst, zero, suc}
use Rattle.std.proofs.lemmas.Bool.{cases_lt}
use Rattle.std.proofs.{lemmas.List.Sums.fold_push, lemmas.Grind.flat_map-append, lemmas.Grind.common_steps, lemmas.Option.slice_get_past}
use Rattle.std.proofs.lemmas.List.{append-nil, append_assoc, get_or_append_left, get_or_past, get_or_push, length_push, take_more}
use Rattle.std.specs.List.{flat_map}
use Rattle.adf_tree.specs.{Additions.Addition, Additions.entries_of_additions_by, Tree.Tree, Tree.with_entry_by, Tree.is_dir_body, Tree.new_entry_by}
use Rattle.adf_tree.specs.declared.entry.Body.{Body, TheVariants.Dir, TheVariants.File}
use Rattle.adf_names.specs.declared.meta.Meta.{Meta}
use Rattle.adf_tree.proofs.Lists.{get_last}
use Rattle.adf_volume.proofs.Lists.{get_before}
use Rattle.adf_blocks.specs.Sizes.{blocks, is_allowed}
use Rattle.adf_tree.specs.{Tree.room_for_by, declared.tree.RoomFault.TheVariants.Exists}
use Rattle.adf_drafts.specs.{declared.draft.Room.Room, Draft.DraftValue, Draft.IsDirectoryOf, Draft.IsRoomFor}
use Rattle.adf_build.specs.{Building.IsBuildable, Plan.entries_blocks, Plan.reserved}
use Rattle.adf_keep.specs.{Marks.AreClaimed, declared.keeper.Keeper.Keeper, declared.proposal.Why.Why}
use Rattle.adf_keep.proofs.TreeBlocks.{added_blocks}
use Rattle.adf_keep.specs.declared.proposal.Why.TheVariants.{BadData, BadTable, NameTaken, NoData, NoDirectory, NoEntry, NoHeader, NoRoom, Taken}
use Rattle.adf_keep.specs.{Reasons.IsEntryFault, declared.proposal.Proposed.Proposed, Verdicts.IsVerdictFor.is_kept, Verdicts.IsVerdictFor.is_left_out}
use Rattle.adf_keep.specs.State.{TakesOne, IsKeeper, IsPlaceOf, IsState, body_cost, blocks_for_entries}
use Rattle.adf_keep.specs.Verdicts.{AreVerdicts, AreVerdicts.more, Setting, StandsAs, LacksRoom, IsReason, IsVerdictFor, EntryVerdict, kept_directory, kept_blocks, kept_tree, left_out_at, all_left_out, dir_path, kept_addition, verdict_blocks}
use Rattle.adf_keep.specs.Verdicts.EntryVerdict.{keeps, leaves}

-- lists of verdicts, with one more

pub blocks_more : (vs : List EntryVerdict) (v : EntryVerdict) → kept_blocks (vs ++ v ∷ []) ≡ kept_blocks vs ++ verdict_blocks v
blocks_more vs v = simp (flat_map-append, append-nil)

pub additions_more : (vs : List EntryVerdict) (v : EntryVerdict) → flat_map kept_addition (vs ++ v ∷ []) ≡ flat_map kept_addition vs ++ kept_addition v
additions_more vs v = simp (flat_map-append, append-nil)

left_out_more : (n : ℕ) (vs : List EntryVerdict) (v : EntryVerdict) → all_left_out n (vs ++ v ∷ []) ≡ all_left_out n vs ++ left_out_at (length vs + n) v
left_out_more n [] v = let at : n ≡ 0 + n = omega arith in rw (append-nil (left_out_at n v)) (ap (λ k. left_out_at k v) at)
left_out_more n (x ∷ xs) v = grind (arith, common_steps, append_assoc, left_out_more (suc n) xs v)

-- the places with that of one more entry
places_more : (d : DraftValue) (vs : List EntryVerdict) (v : EntryVerdict) (ps : List (Option ℕ)) (place : Option ℕ) → length ps ≡ length vs + 1
    → ((p : ℕ) → IsPlaceOf d (dir_path vs p) (get_or ps p None)) → IsPlaceOf d (kept_directory v) place
    → (p : ℕ) → IsPlaceOf d (dir_path (vs ++ v ∷ []) p) (get_or (ps ++ place ∷ []) p None)
places_more d vs v ps place long old new zero = rw (get_or_append_left ps (place ∷ []) None 0 (omega arith)) (old 0)
places_more d vs v ps place long old new (suc i) =
    let both = length_push ps place in
    let more = length_push vs v in
    elim (cases_lt i (length vs)) [
      | inl before ↦
          rw (get_before vs v i before, get_or_append_left ps (place ∷ []) None (suc i) (omega arith)) (old (suc i))
      | inr past ↦
          elim (cases_lt (length vs) i) [
            | inl far ↦
                rw (slice_get_past (vs ++ v ∷ []) i (omega arith), get_or_past (ps ++ place ∷ []) (suc i) None (omega arith)) tt
            | inr near ↦
                let here : i ≡ length vs = omega arith in
                rw (here, get_last vs v, get_or_push ps place None (suc (length vs)) (omega arith)) new
          ]
    ]

-- a directory that is kept in the draft keeps its place
kept_place : (d e : DraftValue) → ((dir : List (List ℕ)) (m : ℕ) → IsDirectoryOf d dir m → IsDirectoryOf e dir m)
    → (o : Option (List (List ℕ))) (place : Option ℕ) → IsPlaceOf d o place → IsPlaceOf e o place
kept_place d e h o place k = grind (arith, common_steps)

-- the next entry is left out
pub leaves_next : (g : Setting) (vs : List EntryVerdict) (k s : Keeper) (why : Why) (index : ℕ) → IsState g vs k → index ≡ length k.places.items - 1
    → s.image ≡ k.image → s.kind ≡ k.kind → s.draft ≡ k.draft → s.left ≡ k.left → s.marks ≡ k.marks → s.places.items ≡ k.places.items ++ None ∷ []
    → s.left_out.items ≡ k.left_out.items ++ record { index = index; why = why } ∷ []
    → IsState g (vs ++ leaves why ∷ []) s
leaves_next g vs k s why index is number image kind draft left marks places out =
    let at : index ≡ length vs + 0 = omega (arith, is.keeper.count) in
    let same : IsKeeper g vs k = is.keeper in
    record {
      keeper = record {
        image = image ∙ same.image;
        kind = kind ∙ same.kind;
        tree = ap (λ d. d.tree) draft ∙ (same.tree ∙ ap (λ xs. record g.tree { entries = entries_of_additions_by g.tree.letters xs })
            (sym (append-nil (flat_map kept_addition vs)) ∙ sym (additions_more vs (leaves why))));
        count = ap length places ∙ omega (arith, same.count, length_push k.places.items None, length_push vs (leaves why));
        places = rw places (rw draft (places_more k.draft vs (leaves why) k.places.items None same.count same.places tt));
        left = (rw (draft, left) same.left);
        left_out = out ∙ ((λ i. same.left_out i ++ record { index = at i; why = why } ∷ []) ∙ sym (left_out_more 0 vs (leaves why)));
      };
      claims = subst (λ bs. AreClaimed (blocks g.image) s.marks.items bs) (sym (append-nil (kept_blocks vs)) ∙ sym (blocks_more vs (leaves why)))
          (rw marks is.claims);
    }

-- blocks: `left` of `free` are left beside `used`; `real` are asked for, as `cost` tells
left_less : (left used free cost real : ℕ) → left + used ≡ free → left < 2 ^ 32 → cost ≡ min real (2 ^ 64 - 1) → cost ≤ left
    → left - cost + (used + real) ≡ free
left_less left used free cost real all small at le = omega arith

-- the place of an addition
pub new_place : (d : DraftValue) (path : List (List ℕ)) (meta : Meta) (body : Body) (claimed : List ℕ) (m : ℕ) (place : Option ℕ)
    → place ≡ cond (is_dir_body body) (Some m) None → (body ≡ Dir → IsDirectoryOf d path m)
    → IsPlaceOf d (kept_directory (keeps (record { path = path; meta = meta; body = body }) claimed)) place
new_place d path meta Dir claimed m place is dir = rw is (dir refl)
new_place d path meta (File bytes) claimed m place is dir = rw is tt

-- the next entry is kept
module _ (g : Setting) (vs : List EntryVerdict) (k s : Keeper) (x : Addition) (claimed : List ℕ) (is : IsKeeper g vs k) where
  abbrev grown : Tree
  grown = with_entry_by g.tree.letters (kept_tree g vs) x.path x.meta x.body

  tree_more : kept_tree g (vs ++ keeps x claimed ∷ []) ≡ grown
  tree_more = grind (arith, additions_more, append_assoc, fold_push)

  used_more : entries_blocks g.tree.kind grown.entries ≡ entries_blocks g.tree.kind (kept_tree g vs).entries + body_cost g.tree.kind x.body
  used_more = added_blocks g.tree.letters g.tree.kind (kept_tree g vs).entries
      (new_entry_by g.tree.letters (kept_tree g vs).entries x.path x.meta x.body)

  pub keeps_next : (place : Option ℕ) (cost : ℕ) → AreClaimed (blocks g.image) s.marks.items (kept_blocks vs ++ claimed)
      → cost ≡ min (body_cost k.kind x.body) (2 ^ 64 - 1) → k.left < 2 ^ 32 → cost ≤ k.left
      → s.draft.tree ≡ with_entry_by k.draft.tree.letters k.draft.tree x.path x.meta x.body
      → ((dir : List (List ℕ)) (m : ℕ) → IsDirectoryOf k.draft dir m → IsDirectoryOf s.draft dir m)
      → IsPlaceOf s.draft (kept_directory (keeps x claimed)) place
      → s.image ≡ k.image → s.kind ≡ k.kind → s.left ≡ k.left - cost → s.places.items ≡ k.places.items ++ place ∷ []
      → s.left_out.items ≡ k.left_out.items → IsState g (vs ++ keeps x claimed ∷ []) s
  keeps_next place cost claims at small le tree dirs new image kind left places out =
      let v : EntryVerdict = keeps x claimed in
      let built : s.draft.tree ≡ grown = tree ∙ ap (λ (t : Tree). with_entry_by t.letters t x.path x.meta x.body) is.tree in
      let real : cost ≡ min (body_cost g.tree.kind x.body) (2 ^ 64 - 1) = at ∙ ap (λ kind. min (body_cost kind x.body) (2 ^ 64 - 1)) is.kind in
      let before : k.left + entries_blocks g.tree.kind (kept_tree g vs).entries ≡ blocks_for_entries g.blocks =
      subst (λ (t : Tree). k.left + entries_blocks g.tree.kind t.entries ≡ blocks_for_entries g.blocks) is.tree is.left in
      let after = left_less k.left (entries_blocks g.tree.kind (kept_tree g vs).entries) (blocks_for_entries g.blocks) cost
      (body_cost g.tree.kind x.body) before small real le in
      record {
        keeper = record {
          image = image ∙ is.image;
          kind = kind ∙ is.kind;
          tree = built ∙ sym tree_more;
          count = ap length places ∙ omega (arith, is.count, length_push k.places.items place, length_push vs v);
          places = rw places (places_more s.draft vs v k.places.items place is.count
              (λ p. kept_place k.draft s.draft dirs (dir_path vs p) (get_or k.places.items p None) (is.places p)) new);
          left = rw (built, left, used_more) after;
          left_out = out ∙ (is.left_out ∙ (sym (append-nil (all_left_out 0 vs)) ∙ sym (left_out_more 0 vs v)));
        };
        claims = rw (blocks_more vs v) claims;
      }

-- the blocks do not suffice
room_short : (left used free most fixed cost real : ℕ) → left + used ≡ free → free ≡ most - (1 + fixed) → cost ≡ min real (2 ^ 64 - 1) → left < cost
    → most < 1 + fixed + (used + real)
room_short left used free most fixed cost real all is at lt = omega arith

pub is_full : (g : Setting) (vs : List EntryVerdict) (k : Keeper) (x : Addition) (cost : ℕ) → IsKeeper g vs k
    → cost ≡ min (body_cost k.kind x.body) (2 ^ 64 - 1) → k.left < cost → LacksRoom g vs x
is_full g vs k x cost is at lt =
    let real : cost ≡ min (body_cost g.tree.kind x.body) (2 ^ 64 - 1) = at ∙ ap (λ kind. min (body_cost kind x.body) (2 ^ 64 - 1)) is.kind in
    let before : k.left + entries_blocks g.tree.kind (kept_tree g vs).entries ≡ blocks_for_entries g.blocks =
    subst (λ (t : Tree). k.left + entries_blocks g.tree.kind t.entries ≡ blocks_for_entries g.blocks) is.tree is.left in
    rw (used_more g vs k k x [] is)
    (room_short k.left (entries_blocks g.tree.kind (kept_tree g vs).entries) (blocks_for_entries g.blocks) (g.blocks - 2) (reserved g.blocks) cost
    (body_cost g.tree.kind x.body) before refl real lt)

-- the marks are not of the keeper
pub with_marks : (g : Setting) (vs : List EntryVerdict) (k s : Keeper) → IsKeeper g vs k → s.image ≡ k.image → s.kind ≡ k.kind → s.draft ≡ k.draft
    → s.left ≡ k.left → s.places ≡ k.places → s.left_out ≡ k.left_out → IsKeeper g vs s
with_marks g vs k s is image kind draft left places out = record {
  image = image ∙ is.image;
  kind = kind ∙ is.kind;
  tree = ap (λ d. d.tree) draft ∙ is.tree;
  count = ap (λ v. length v.items) places ∙ is.count;
  places = rw (draft, places) is.places;
  left = rw (draft, left) is.left;
  left_out = ap (λ v. v.items) out ∙ is.left_out;
}

-- the directory of a place
pub place_some : (d : DraftValue) (o : Option (List (List ℕ))) (m : ℕ) → IsPlaceOf d o (Some m)
    → (dir : List (List ℕ)) × (o ≡ Some dir) × IsDirectoryOf d dir m
place_some d (Some dir) m h = (dir, refl, h)
place_some d None m h = absurd h

-- the next entry is kept, or left out since it has no room
pub settled : (g : Setting) (vs : List EntryVerdict) (p : Proposed) (k : Keeper) (x : Addition) (claimed : List ℕ) → StandsAs g vs p x claimed
    → (b : Bool) → (b ≡ false → LacksRoom g vs x) → IsState g (vs ++ cond b (keeps x claimed) (leaves NoRoom) ∷ []) k → TakesOne g vs p k
settled g vs p k x claimed found true full state = (keeps x claimed, is_kept x claimed found, state)
settled g vs p k x claimed found false full state = (leaves NoRoom, is_left_out NoRoom (x, claimed, found, full refl), state)

-- a directory without a place is not kept
pub place_none : (d : DraftValue) (o : Option (List (List ℕ))) → IsPlaceOf d o None → o ≡ None
place_none d (Some dir) h = absurd h
place_none d None h = refl

-- the reasons of a header are those of an entry
pub fault_reason : (g : Setting) (vs : List EntryVerdict) (p : Proposed) (why : Why) → IsEntryFault g.tree.kind g.image (kept_blocks vs) p.head why
    → IsReason g vs p why
fault_reason g vs p NoHeader fault = fault
fault_reason g vs p NoEntry fault = fault
fault_reason g vs p BadTable fault = fault
fault_reason g vs p NoData fault = fault
fault_reason g vs p Taken fault = fault
fault_reason g vs p BadData fault = fault
fault_reason g vs p NoDirectory fault = absurd (none p.head fault)
  where
    none : (o : Option ℕ) → IsEntryFault g.tree.kind g.image (kept_blocks vs) o NoDirectory → ⊥
    none (Some h) (inl fault) = fault.1
    none (Some h) (inr fault) = elim fault.1 [ inl not ↦ not | inr not ↦ not ]
    none None fault = fault
fault_reason g vs p NameTaken fault = absurd (none p.head fault)
  where
    none : (o : Option ℕ) → IsEntryFault g.tree.kind g.image (kept_blocks vs) o NameTaken → ⊥
    none (Some h) (inl fault) = fault.1
    none (Some h) (inr fault) = elim fault.1 [ inl not ↦ not | inr not ↦ not ]
    none None fault = fault
fault_reason g vs p NoRoom fault = absurd (none p.head fault)
  where
    none : (o : Option ℕ) → IsEntryFault g.tree.kind g.image (kept_blocks vs) o NoRoom → ⊥
    none (Some h) (inl fault) = fault.1
    none (Some h) (inr fault) = elim fault.1 [ inl not ↦ not | inr not ↦ not ]
    none None fault = fault

-- what fits is buildable
pub buildable : (g : Setting) (vs : List EntryVerdict) (k : Keeper) (n : ℕ) → IsKeeper g vs k → g.blocks ≡ n → is_allowed n ≡ true
    → 1 + reserved n ≤ n - 2 → IsBuildable k.draft.tree n
buildable g vs k n is same allowed room =
    let kind : k.draft.tree.kind ≡ g.tree.kind = ap (λ (t : Tree). t.kind) is.tree in
    let all : k.left + entries_blocks k.draft.tree.kind k.draft.tree.entries ≡ blocks_for_entries n = rw (kind, ← same) is.left in
    record { allowed = allowed; room = omega arith }

-- the verdicts, with one more, on the entries up to one
pub verdicts_more : (g : Setting) (all : List Proposed) (i : ℕ) (vs : List EntryVerdict) (p : Proposed) (v : EntryVerdict) → i < length all
    → p ≡ get_or all i p → AreVerdicts g (take i all) vs → IsVerdictFor g vs p v → AreVerdicts g (take (i + 1) all) (vs ++ v ∷ [])
verdicts_more g all i vs p v lt at before here =
    let e : take (i + 1) all ≡ take i all ++ p ∷ [] = take_more all i p lt ∙ ap (λ x. take i all ++ x ∷ []) (sym at) in
    rw e (more (take i all) vs p v before here)

-- the state before the first entry, by equal images and trees
abbrev given : List ℕ → Tree → ℕ → Setting
given image tree n = record { image = image; tree = tree; blocks = n }

pub begun_as : (i j : List ℕ) (t u : Tree) (n : ℕ) (k : Keeper) → i ≡ j → t ≡ u → IsState (record { image = i; tree = t; blocks = n }) [] k
    → IsState (record { image = j; tree = u; blocks = n }) [] k
begun_as i j t u n k image tree is =
    let P : List ℕ → Type 0 = λ x. IsState (given x t n) [] k in
    let Q : Tree → Type 0 = λ x. IsState (given j x n) [] k in
    subst Q tree (subst P image is)

-- the tree of the draft has room for a path, or an entry there
pub has_room : (g : Setting) (vs : List EntryVerdict) (d : DraftValue) (path : List (List ℕ)) (room : Room) → d.tree ≡ kept_tree g vs
    → IsRoomFor d path room → IsOk (room_for_by g.tree.letters (kept_tree g vs).entries path)
has_room g vs d path room tree is =
    let P : Tree → Type 0 = λ t. IsOk (room_for_by t.letters t.entries path) in
    subst P tree (subst IsOk (sym is.leads) refl)

pub name_taken : (g : Setting) (vs : List EntryVerdict) (d : DraftValue) (path : List (List ℕ)) → d.tree ≡ kept_tree g vs
    → room_for_by d.tree.letters d.tree.entries path ≡ Err Exists → room_for_by g.tree.letters (kept_tree g vs).entries path ≡ Err Exists
name_taken g vs d path tree is =
    let P : Tree → Type 0 = λ t. room_for_by t.letters t.entries path ≡ Err Exists in
    subst P tree is
