-- A proposal has one outcome: what is kept of it does not depend on who keeps.
-- Letters: g what is given; p an entry; vs, ws verdicts on the same entries, v, w one more; x, y additions, d, e their blocks.
use Rattle.std.proofs.Common.{◌≡◌, ◌∙◌, ◌+◌, ◌-◌, ◌<◌, ◌≤◌, ℕ, List, [], ◌∷◌, ◌++◌, Option, Some, None, Err, IsOk, true, ◌⊎◌, inl, inr, length, length-append, get_or, arith, refl, ap, subst, sym, zero, suc}
use Rattle.std.proofs.lemmas.List.{append_assoc, get_or_append_left, length_push}
use Rattle.std.specs.List.{flat_map, slice_get}
use Rattle.std.specs.Option.{option_and_then}
use Rattle.adf_names.specs.declared.{kind.Kind.Kind, meta.Meta.Meta}
use Rattle.adf_tree.specs.{Additions.Addition, declared.entry.Body.Body}
use Rattle.adf_blocks.specs.Sizes.{count}
use Rattle.adf_blocks.specs.declared.layout.TheConstants.{SECONDARY_TYPE, SIZE, ST_DIR, ST_FILE}
use Rattle.adf_volume.specs.{Image.word_in, Lists.At}
use Rattle.std.proofs.lemmas.Bool.{cases_lt}
use Rattle.adf_tree.specs.{Tree.room_for_by, declared.tree.RoomFault.RoomFault, declared.tree.RoomFault.TheVariants.Exists}
use Rattle.adf_keep.specs.{Marks.IsOnce, Marks.has_block, Entry.IsDirOf, Entry.IsEntryOf, Entry.IsHeadedBy, File.IsFileOf, File.datas_from, File.firsts, File.named_at, File.table_at, File.tables_from, File.tables_needed, Reasons.IsEntryFault, Reasons.IsHeadFault}
use Rattle.adf_keep.specs.declared.proposal.Why.TheVariants.{BadData, BadTable, NameTaken, NoData, NoDirectory, NoEntry, NoHeader, NoRoom, Taken}
use Rattle.adf_keep.proofs.{ClaimMarks.none_before, ClaimMarks.once_less, TableNames.firsts_length}
use Rattle.adf_keep.specs.Kept.{Agree, HasRoomFor}
use Rattle.adf_tree.specs.{Additions.entries_of_additions_by, declared.entry.Entry.Entry, Tree.Tree, Tree.new_entry_by, Tree.with_entry_by}
use Rattle.adf_build.specs.Plan.{blocks_needed, entries_blocks, reserved}
use Rattle.adf_keep.proofs.{KeeperSteps.blocks_more, KeptTrees.entries_kept, KeptTrees.entries_same, TreeBlocks.added_blocks}
use Rattle.adf_keep.specs.declared.proposal.{Proposed.Proposed, Why.Why}
use Rattle.adf_keep.specs.Verdicts.{AreVerdicts, AreVerdicts.more, AreVerdicts.none, Setting, StandsAs, LacksRoom, IsReason, IsVerdictFor, IsVerdictFor.is_kept, IsVerdictFor.is_left_out, EntryVerdict, kept_directory, kept_blocks, kept_tree, dir_path, kept_addition, verdict_blocks}
use Rattle.adf_keep.specs.Verdicts.EntryVerdict.{keeps, leaves}

-- verdicts that agree

pub agree_blocks : (vs ws : List EntryVerdict) → Agree vs ws → kept_blocks vs ≡ kept_blocks ws
agree_blocks [] [] same = refl
agree_blocks [] (w ∷ ws) same = absurd same
agree_blocks (keeps x d ∷ vs) [] same = absurd same
agree_blocks (leaves why ∷ vs) [] same = absurd same
agree_blocks (keeps x d ∷ vs) (keeps y e ∷ ws) same = λ i. same.1 i ++ agree_blocks vs ws same.2 i
agree_blocks (keeps x d ∷ vs) (leaves why ∷ ws) same = absurd same
agree_blocks (leaves why ∷ vs) (keeps y e ∷ ws) same = absurd same
agree_blocks (leaves why ∷ vs) (leaves other ∷ ws) same = agree_blocks vs ws same

pub agree_additions : (vs ws : List EntryVerdict) → Agree vs ws → flat_map kept_addition vs ≡ flat_map kept_addition ws
agree_additions [] [] same = refl
agree_additions [] (w ∷ ws) same = absurd same
agree_additions (keeps x d ∷ vs) [] same = absurd same
agree_additions (leaves why ∷ vs) [] same = absurd same
agree_additions (keeps x d ∷ vs) (keeps y e ∷ ws) same = λ i. same.0 i ∷ agree_additions vs ws same.2 i
agree_additions (keeps x d ∷ vs) (leaves why ∷ ws) same = absurd same
agree_additions (leaves why ∷ vs) (keeps y e ∷ ws) same = absurd same
agree_additions (leaves why ∷ vs) (leaves other ∷ ws) same = agree_additions vs ws same

agree_nth : (vs ws : List EntryVerdict) (i : ℕ) → Agree vs ws
    → option_and_then kept_directory (slice_get vs i) ≡ option_and_then kept_directory (slice_get ws i)
agree_nth [] [] i same = refl
agree_nth [] (w ∷ ws) i same = absurd same
agree_nth (keeps x d ∷ vs) [] i same = absurd same
agree_nth (leaves why ∷ vs) [] i same = absurd same
agree_nth (keeps x d ∷ vs) (keeps y e ∷ ws) zero same = λ i. kept_directory (keeps (same.0 i) (same.1 i))
agree_nth (keeps x d ∷ vs) (keeps y e ∷ ws) (suc i) same = agree_nth vs ws i same.2
agree_nth (keeps x d ∷ vs) (leaves why ∷ ws) i same = absurd same
agree_nth (leaves why ∷ vs) (keeps y e ∷ ws) i same = absurd same
agree_nth (leaves why ∷ vs) (leaves other ∷ ws) zero same = refl
agree_nth (leaves why ∷ vs) (leaves other ∷ ws) (suc i) same = agree_nth vs ws i same

agree_path : (vs ws : List EntryVerdict) (p : ℕ) → Agree vs ws → dir_path vs p ≡ dir_path ws p
agree_path vs ws zero same = refl
agree_path vs ws (suc i) same = agree_nth vs ws i same

agree_more : (vs ws : List EntryVerdict) (v w : EntryVerdict) → Agree vs ws → Agree (v ∷ []) (w ∷ []) → Agree (vs ++ v ∷ []) (ws ++ w ∷ [])
agree_more [] [] v w same last = last
agree_more [] (y ∷ ws) v w same last = absurd same
agree_more (keeps x d ∷ vs) [] v w same last = absurd same
agree_more (leaves why ∷ vs) [] v w same last = absurd same
agree_more (keeps x d ∷ vs) (keeps y e ∷ ws) v w same last = (same.0, same.1, agree_more vs ws v w same.2 last)
agree_more (keeps x d ∷ vs) (leaves why ∷ ws) v w same last = absurd same
agree_more (leaves why ∷ vs) (keeps y e ∷ ws) v w same last = absurd same
agree_more (leaves why ∷ vs) (leaves other ∷ ws) v w same last = agree_more vs ws v w same last

-- an entry is one addition

same_headed : (kind : Kind) (image : List ℕ) (h : ℕ) (m n : Meta) (b c : Body) (d e : List ℕ) → IsHeadedBy kind image h m b d
    → IsHeadedBy kind image h n c e → (m ≡ n) × (b ≡ c) × (d ≡ e)
same_headed kind image h m n b c d e one other = (one.meta_is ∙ sym other.meta_is, (bodies one.content other.content).0, (bodies one.content other.content).1)
  where
    bodies : (IsDirOf image h b d ⊎ IsFileOf kind image h b d) → (IsDirOf image h c e ⊎ IsFileOf kind image h c e) → (b ≡ c) × (d ≡ e)
    bodies (inl s) (inl t) = (s.body_is ∙ sym t.body_is, s.all ∙ sym t.all)
    bodies (inl s) (inr t) = absurd (omega (arith, s.type, t.type))
    bodies (inr s) (inl t) = absurd (omega (arith, s.type, t.type))
    bodies (inr s) (inr t) = (s.bytes ∙ sym t.bytes, s.all ∙ sym t.all)

same_entry : (kind : Kind) (image : List ℕ) (head : Option ℕ) (m n : Meta) (b c : Body) (d e : List ℕ) → IsEntryOf kind image head m b d
    → IsEntryOf kind image head n c e → (m ≡ n) × (b ≡ c) × (d ≡ e)
same_entry kind image None m n b c d e one other =
    (one.meta_is ∙ sym other.meta_is, one.body_is ∙ sym other.body_is, one.none ∙ sym other.none)
same_entry kind image (Some h) m n b c d e one other = same_headed kind image h m n b c d e one other

unique_found : (g : Setting) (vs : List EntryVerdict) (p : Proposed) (x y : Addition) (d e : List ℕ) → StandsAs g vs p x d → StandsAs g vs p y e
    → (x ≡ y) × (d ≡ e)
unique_found g vs p x y d e one other =
    let dirs : one.dir ≡ other.dir = let both : Some one.dir ≡ Some other.dir = sym one.directory ∙ other.directory in cc in
    let paths : x.path ≡ y.path = one.path ∙ (ap (λ dir. dir ++ p.name ∷ []) dirs ∙ sym other.path) in
    let same = same_entry g.tree.kind g.image p.head x.meta y.meta x.body y.body d e one.entry other.entry in
    ((λ i. record { path = paths i; meta = same.0 i; body = same.1 i }), same.2)

-- what stands has no reason to be left out

at_left : (xs ys : List ℕ) (k b : ℕ) → At xs k b → At (xs ++ ys) k b
at_left [] ys k b at = absurd at
at_left (x ∷ xs) ys zero b at = at
at_left (x ∷ xs) ys (suc k) b at = at_left xs ys k b at

at_last : (xs : List ℕ) (b n : ℕ) → length xs ≡ n → At (xs ++ b ∷ []) n b
at_last [] b n long = subst (λ k. At (b ∷ []) k b) long refl
at_last (x ∷ xs) b zero long = absurd (omega arith)
at_last (x ∷ xs) b (suc n) long = at_last xs b n (omega arith)

firsts_at : (f : ℕ → ℕ) (n k : ℕ) → k < n → At (firsts f n) k (f k)
firsts_at f zero k lt = absurd (omega arith)
firsts_at f (suc n) k lt = elim (cases_lt k n) [
  | inl below ↦ at_left (firsts f n) (f n ∷ []) k (f k) (firsts_at f n k below)
  | inr above ↦
      let last : n ≡ k = omega arith in
      subst (λ m. At (firsts f n ++ f n ∷ []) m (f m)) last (at_last (firsts f n) (f n) n (firsts_length f n))
]

not_taken : (f : ℕ → ℕ) (n k : ℕ) (bs : List ℕ) → k < n → IsOnce (bs ++ firsts f n) → has_block (bs ++ firsts f k) (f k) ≡ true → ⊥
not_taken f zero k bs lt once taken = omega arith
not_taken f (suc n) k bs lt once taken =
    let apart : IsOnce ((bs ++ firsts f n) ++ f n ∷ []) = subst IsOnce (sym (append_assoc bs (firsts f n) (f n ∷ []))) once in
    elim (cases_lt k n) [
      | inl below ↦ not_taken f n k bs below (once_less (bs ++ firsts f n) (f n) apart) taken
      | inr above ↦
          let last : k ≡ n = omega arith in
          let none = none_before (bs ++ firsts f n) (f n) apart in
          let some = subst (λ m. has_block (bs ++ firsts f m) (f m) ≡ true) last taken in
          cc
    ]

once_front : (bs xs : List ℕ) → IsOnce (bs ++ xs) → IsOnce bs
once_front bs xs once = λ i j d lt below.
    let long = length-append bs xs in
    let all = once i j d lt (omega arith) in
    let first : get_or (bs ++ xs) i d ≡ get_or bs i d = get_or_append_left bs xs d i (omega arith) in
    let second : get_or (bs ++ xs) j d ≡ get_or bs j d = get_or_append_left bs xs d j below in
    λ same. all (cc)

file_of : (kind : Kind) (image : List ℕ) (h : ℕ) (m : Meta) (b : Body) (d : List ℕ) → IsHeadedBy kind image h m b d
    → word_in image h SECONDARY_TYPE ≡ ST_FILE → IsFileOf kind image h b d
file_of kind image h m b d is type = pick is.content
  where
    pick : (IsDirOf image h b d ⊎ IsFileOf kind image h b d) → IsFileOf kind image h b d
    pick (inl s) = absurd (omega (arith, s.type, type))
    pick (inr s) = s

dir_of : (kind : Kind) (image : List ℕ) (h : ℕ) (m : Meta) (b : Body) (d : List ℕ) → IsHeadedBy kind image h m b d
    → word_in image h SECONDARY_TYPE ≡ ST_DIR → IsDirOf image h b d
dir_of kind image h m b d is type = pick is.content
  where
    pick : (IsDirOf image h b d ⊎ IsFileOf kind image h b d) → IsDirOf image h b d
    pick (inl s) = s
    pick (inr s) = absurd (omega (arith, s.type, type))

no_fault : (kind : Kind) (image bs : List ℕ) (h : ℕ) (m : Meta) (b : Body) (d : List ℕ) (why : Why) → IsHeadedBy kind image h m b d
    → IsOnce (bs ++ d) → IsHeadFault kind image bs h why → ⊥
no_fault kind image bs h m b d NoHeader is once fault = fault is.held
no_fault kind image bs h m b d NoEntry is once fault = pick is.content
  where
    pick : (IsDirOf image h b d ⊎ IsFileOf kind image h b d) → ⊥
    pick (inl s) = fault.0 s.type
    pick (inr s) = fault.1 s.type
no_fault kind image bs h m b d BadTable is once (inl fault) = fault.1 (λ j lt. absurd (omega arith))
no_fault kind image bs h m b d BadTable is once (inr fault) = elim fault.1 [
  | inl table ↦ table (file_of kind image h m b d is fault.0).table
  | inr not ↦ not
]
no_fault kind image bs h m b d NoData is once (inl fault) = fault.1
no_fault kind image bs h m b d NoData is once (inr fault) = elim fault.1 [
  | inl not ↦ not
  | inr r ↦
      r.2 ((file_of kind image h m b d is fault.0).inside r.0 (named_at image h r.0)
      (firsts_at (named_at image h) (count kind (word_in image h SIZE)) r.0 r.1))
]
no_fault kind image bs h m b d Taken is once (inl fault) =
    let dir = dir_of kind image h m b d is fault.0 in
    let r = fault.1 in
    not_taken (table_at image h) 1 r.0 bs r.1 (subst (λ xs. IsOnce (bs ++ xs)) dir.all once) r.2
no_fault kind image bs h m b d Taken is once (inr fault) =
    let file = file_of kind image h m b d is fault.0 in
    let n : ℕ = count kind (word_in image h SIZE) in
    let all : IsOnce ((bs ++ tables_from kind image h) ++ datas_from kind image h) =
    subst IsOnce (sym (append_assoc bs (tables_from kind image h) (datas_from kind image h))) (subst (λ xs. IsOnce (bs ++ xs)) file.all once) in
    elim fault.1 [
      | inl r ↦ not_taken (table_at image h) (tables_needed n) r.0 bs r.1 (once_front (bs ++ tables_from kind image h) (datas_from kind image h) all) r.2
      | inr r ↦ not_taken (named_at image h) n r.0 (bs ++ tables_from kind image h) r.1 all r.2
    ]
no_fault kind image bs h m b d BadData is once (inl fault) = fault.1
no_fault kind image bs h m b d BadData is once (inr fault) = fault.1 (file_of kind image h m b d is fault.0).forms
no_fault kind image bs h m b d _ is once (inl fault) = fault.1
no_fault kind image bs h m b d _ is once (inr fault) = elim fault.1 [ inl not ↦ not | inr not ↦ not ]

no_entry_fault : (kind : Kind) (image bs : List ℕ) (head : Option ℕ) (m : Meta) (b : Body) (d : List ℕ) (why : Why)
    → IsEntryOf kind image head m b d → IsOnce (bs ++ d) → IsEntryFault kind image bs head why → ⊥
no_entry_fault kind image bs None m b d why is once fault = fault
no_entry_fault kind image bs (Some h) m b d why is once fault = no_fault kind image bs h m b d why is once fault

no_reason : (g : Setting) (vs : List EntryVerdict) (p : Proposed) (x : Addition) (d : List ℕ) (why : Why) → StandsAs g vs p x d
    → IsOnce (kept_blocks vs ++ d) → (LacksRoom g vs x → ⊥) → IsReason g vs p why → ⊥
no_reason g vs p x d NoDirectory found once room reason = let at = found.directory in cc
no_reason g vs p x d NameTaken found once room reason =
    let dirs : found.dir ≡ reason.0 = let both : Some found.dir ≡ Some reason.0 = sym found.directory ∙ reason.1 in cc in
    let paths : x.path ≡ reason.0 ++ p.name ∷ [] = found.path ∙ ap (λ dir. dir ++ p.name ∷ []) dirs in
    let ok = subst (λ q. IsOk (room_for_by g.tree.letters (kept_tree g vs).entries q)) paths found.room in
    let not : IsOk {T = ℕ} {E = RoomFault} (Err Exists) = subst IsOk reason.2 ok in
    cc
no_reason g vs p x d NoRoom found once room reason =
    let same = unique_found g vs p reason.0 x reason.1 d reason.2 found in
    room (subst (λ y. LacksRoom g vs y) same.0 reason.3)
no_reason g vs p x d NoHeader found once room reason = no_entry_fault g.tree.kind g.image (kept_blocks vs) p.head x.meta x.body d NoHeader found.entry once reason
no_reason g vs p x d NoEntry found once room reason = no_entry_fault g.tree.kind g.image (kept_blocks vs) p.head x.meta x.body d NoEntry found.entry once reason
no_reason g vs p x d BadTable found once room reason = no_entry_fault g.tree.kind g.image (kept_blocks vs) p.head x.meta x.body d BadTable found.entry once reason
no_reason g vs p x d NoData found once room reason = no_entry_fault g.tree.kind g.image (kept_blocks vs) p.head x.meta x.body d NoData found.entry once reason
no_reason g vs p x d Taken found once room reason = no_entry_fault g.tree.kind g.image (kept_blocks vs) p.head x.meta x.body d Taken found.entry once reason
no_reason g vs p x d BadData found once room reason = no_entry_fault g.tree.kind g.image (kept_blocks vs) p.head x.meta x.body d BadData found.entry once reason

-- one more entry of both

module _ (g : Setting) (p : Proposed) (vs ws : List EntryVerdict) (same : Agree vs ws) where
  tree_same : kept_tree g vs ≡ kept_tree g ws
  tree_same = λ i. record g.tree { entries = entries_of_additions_by g.tree.letters (agree_additions vs ws same i) }

  found_same : (x : Addition) (d : List ℕ) → StandsAs g vs p x d → StandsAs g ws p x d
  found_same x d found = record {
    dir = found.dir;
    directory = sym (agree_path vs ws p.directory same) ∙ found.directory;
    path = found.path;
    room = subst (λ (t : Tree). IsOk (room_for_by g.tree.letters t.entries x.path)) tree_same found.room;
    entry = found.entry;
  }

  once_same : (d : List ℕ) → IsOnce (kept_blocks vs ++ d) → IsOnce (kept_blocks ws ++ d)
  once_same d once = subst (λ bs. IsOnce (bs ++ d)) (agree_blocks vs ws same) once

  full_same : (x : Addition) → LacksRoom g ws x → LacksRoom g vs x
  full_same x full =
      subst (λ (t : Tree). g.blocks - 2 < blocks_needed (with_entry_by g.tree.letters t x.path x.meta x.body) g.blocks) (sym tree_same) full

agree_sym : (vs ws : List EntryVerdict) → Agree vs ws → Agree ws vs
agree_sym [] [] same = tt
agree_sym [] (w ∷ ws) same = absurd same
agree_sym (keeps x d ∷ vs) [] same = absurd same
agree_sym (leaves why ∷ vs) [] same = absurd same
agree_sym (keeps x d ∷ vs) (keeps y e ∷ ws) same = (sym same.0, sym same.1, agree_sym vs ws same.2)
agree_sym (keeps x d ∷ vs) (leaves why ∷ ws) same = absurd same
agree_sym (leaves why ∷ vs) (keeps y e ∷ ws) same = absurd same
agree_sym (leaves why ∷ vs) (leaves other ∷ ws) same = agree_sym vs ws same

not_full : (g : Setting) (vs : List EntryVerdict) (x : Addition) (d : List ℕ) → HasRoomFor g (vs ++ keeps x d ∷ []) → LacksRoom g vs x → ⊥
not_full g vs x d room full =
    let P : List Entry → Type 0 = λ es. 1 + reserved g.blocks + entries_blocks g.tree.kind es ≤ g.blocks - 2 in
    let fits = subst P (entries_kept g vs x d) room in
    omega arith

-- no entry is kept by one and left out by the other
clash : (g : Setting) (p : Proposed) (vs ws : List EntryVerdict) → Agree vs ws → (x : Addition) (d : List ℕ) (why : Why) → StandsAs g vs p x d
    → IsReason g ws p why → IsOnce (kept_blocks (vs ++ keeps x d ∷ [])) → HasRoomFor g (vs ++ keeps x d ∷ []) → ⊥
clash g p vs ws same x d why found reason once room =
    no_reason g ws p x d why (found_same g p vs ws same x d found) (once_same g p vs ws same d (subst IsOnce (blocks_more vs (keeps x d)) once))
    (λ full. not_full g vs x d room (full_same g p vs ws same x full)) reason

last_same : (g : Setting) (p : Proposed) (vs ws : List EntryVerdict) → Agree vs ws → (v w : EntryVerdict) → IsVerdictFor g vs p v → IsVerdictFor g ws p w
    → IsOnce (kept_blocks (vs ++ v ∷ [])) → IsOnce (kept_blocks (ws ++ w ∷ [])) → HasRoomFor g (vs ++ v ∷ []) → HasRoomFor g (ws ++ w ∷ [])
    → Agree (v ∷ []) (w ∷ [])
last_same g p vs ws same _ _ (is_kept x d found) (is_kept y e other) once apart room space =
    let u = unique_found g ws p x y d e (found_same g p vs ws same x d found) other in (u.0, u.1, tt)
last_same g p vs ws same _ _ (is_left_out why reason) (is_left_out other cause) once apart room space = tt
last_same g p vs ws same _ _ (is_kept x d found) (is_left_out why reason) once apart room space =
    absurd (clash g p vs ws same x d why found reason once room)
last_same g p vs ws same _ _ (is_left_out why reason) (is_kept y e found) once apart room space =
    absurd (clash g p ws vs (agree_sym vs ws same) y e why found reason apart space)

-- what holds of all verdicts holds of those before the last

once_before : (vs : List EntryVerdict) (v : EntryVerdict) → IsOnce (kept_blocks (vs ++ v ∷ [])) → IsOnce (kept_blocks vs)
once_before vs v once = once_front (kept_blocks vs) (verdict_blocks v) (subst IsOnce (blocks_more vs v) once)

room_before : (g : Setting) (vs : List EntryVerdict) (v : EntryVerdict) → HasRoomFor g (vs ++ v ∷ []) → HasRoomFor g vs
room_before g vs (keeps x d) room =
    let P : List Entry → Type 0 = λ es. 1 + reserved g.blocks + entries_blocks g.tree.kind es ≤ g.blocks - 2 in
    let fits = subst P (entries_kept g vs x d) room in
    let more = added_blocks g.tree.letters g.tree.kind (kept_tree g vs).entries
    (new_entry_by g.tree.letters (kept_tree g vs).entries x.path x.meta x.body) in
    omega arith
room_before g vs (leaves why) room =
    let P : List Entry → Type 0 = λ es. 1 + reserved g.blocks + entries_blocks g.tree.kind es ≤ g.blocks - 2 in
    subst P (entries_same g vs (leaves why) refl) room

none_pushed : {X : Type 0} (xs : List X) (x : X) → [] ≡ xs ++ x ∷ [] → ⊥
none_pushed xs x e = omega (arith, ap length e, length_push xs x)

push_inj : {X : Type 0} (xs ys : List X) (x y : X) → xs ++ x ∷ [] ≡ ys ++ y ∷ [] → (xs ≡ ys) × (x ≡ y)
push_inj [] [] x y e = (refl, (cc))
push_inj [] (z ∷ ys) x y e = let rest : [] ≡ ys ++ y ∷ [] = cc in absurd (none_pushed ys y rest)
push_inj (z ∷ xs) [] x y e = let rest : [] ≡ xs ++ x ∷ [] = cc in absurd (none_pushed xs x rest)
push_inj (z ∷ xs) (w ∷ ys) x y e =
    let rest : xs ++ x ∷ [] ≡ ys ++ y ∷ [] = cc in
    let first : z ≡ w = cc in
    let parts = push_inj xs ys x y rest in
    ((λ i. first i ∷ parts.0 i), parts.1)

-- a proposal has one outcome
one_by : (g : Setting) (ps : List Proposed) (vs : List EntryVerdict) → AreVerdicts g ps vs → (qs : List Proposed) (ws : List EntryVerdict)
    → AreVerdicts g qs ws → ps ≡ qs → IsOnce (kept_blocks vs) → IsOnce (kept_blocks ws) → HasRoomFor g vs → HasRoomFor g ws → Agree vs ws
one_by g _ _ none _ _ none e once apart room space = tt
one_by g _ _ none _ _ (more qs ws q w above there) e once apart room space = absurd (none_pushed qs q e)
one_by g _ _ (more ps vs p v before here) _ _ none e once apart room space = absurd (none_pushed ps p (sym e))
one_by g _ _ (more ps vs p v before here) _ _ (more qs ws q w above there) e once apart room space =
    let parts = push_inj ps qs p q e in
    let rest = one_by g ps vs before qs ws above parts.0 (once_before vs v once) (once_before ws w apart) (room_before g vs v room)
    (room_before g ws w space) in
    agree_more vs ws v w rest (last_same g p vs ws rest v w here (subst (λ r. IsVerdictFor g ws r w) (sym parts.1) there) once apart room space)

pub one_outcome : (g : Setting) (ps : List Proposed) (vs ws : List EntryVerdict) → AreVerdicts g ps vs → AreVerdicts g ps ws
    → IsOnce (kept_blocks vs) → IsOnce (kept_blocks ws) → HasRoomFor g vs → HasRoomFor g ws → Agree vs ws
one_outcome g ps vs ws one other once apart room space = one_by g ps vs one ps ws other refl once apart room space
