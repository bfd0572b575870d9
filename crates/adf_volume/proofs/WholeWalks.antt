-- The tree, pages, chains and files of a whole walk.
use Rattle.std.proofs.Common.{◌≡◌, ℕ, zero, suc, List, inl, inr, ◌+◌, ◌*◌, ◌/◌, ◌<◌, ◌≤◌, length, refl, sym, ap, subst, ◌∙◌, arith, Bool, true, false, cond}
use Rattle.std.proofs.Common.{map, eq-eqb, ◌==◌, slice_index}
use Rattle.std.proofs.lemmas.Bool.{eqb-true}
use native.Mathlib.Decide.{dec_lt}
use Rattle.adf_blocks.specs.declared.layout.TheConstants.{EXTENSION, FIRST_MAP_EXT, FIRST_PAGE, FIRST_SLOT, MAP_EXT_NEXT, MAP_EXT_PAGES, NEXT_IN_CHAIN}
use Rattle.adf_blocks.specs.declared.layout.TheConstants.{POINTERS, ROOT_PAGES, SECONDARY_TYPE, SIZE, SLOTS, ST_DIR, ST_FILE}
use Rattle.adf_volume.specs.{Lists.At, Lists.Spelled, Fits.EntryFitsBy, Fits.FileFits, Fits.BodyFits, Fits.TableAt}
use Rattle.adf_blocks.specs.Sizes.{blocks, count, pages_needed}
use Rattle.adf_volume.specs.Image.{word_in, root_of, map_exts_needed, kind_of, held, table_word, name_of, content}
use Rattle.adf_base.specs.{Hash.slot_by, declared.hash.Letters.Letters}
use Rattle.adf_names.specs.Texts.{uppers_by}
use Rattle.adf_volume.specs.Demands.{AllHold, boot_demands_by, head_demands_by, ext_demands, data_demands}
use Rattle.adf_tree.specs.{declared.entry.Entry.Entry, declared.entry.Body.TheVariants.Dir, declared.entry.Body.TheVariants.File}
use Rattle.adf_volume.specs.Layout.{EntryAt, nodes_from_by, chain_nodes_by, at_node, exts_of, datas_of}
use Rattle.adf_volume.proofs.{TreeOrder.Ordered, TreeOrder.DirNode, FormDemands.head_type, FormDemands.dir_not_file, WalkOrder.in_order, Roles.head_at}
use Rattle.adf_volume.proofs.{Roles.head_role, WalkMembers.chains, Places.place_parts, Sizes.size_low}
use Rattle.adf_volume.specs.Walk.{Before, Has, heads, HeadAt, DirAt, FileAt, MemberAt, NamesPage, data_count, ext_count, IsWalkBy, IsWhole, Walk}
use Rattle.adf_volume.specs.Walk.Role.{Page, MapExt, Head, Ext, Data}
use Rattle.adf_volume.specs.Made.{pages_in, map_exts_in, exts_in, datas_in, body_in, entry_in, place_in, entries_in, places_in, tree_in_by, layout_in}
use Rattle.adf_volume.proofs.Images.{content_length, map_exts_high, map_exts_low}
use Rattle.adf_volume.proofs.Lists.{at_fun, at_below, at_some, at_unmap, spelled_from, at_index, index_past}
use Rattle.adf_volume.proofs.Gathered.{file_one, parent_below, one_block, one_head, root_in, root_is}
use Rattle.adf_volume.proofs.Walks.{of_walk, number_of, numbered, ext_file, asked_block, asked_header, page_word}
use Rattle.adf_volume.proofs.MemberFacts.{kept, there, IsNext, new_names, in_range, map_ext_low}
use Rattle.adf_volume.proofs.WalkMembers.{entries_length, entry_has, place_has, exts_length, ext_has, has_ext, data_has, has_data, pages, map_exts, slot_is}
use Rattle.std.proofs.{lemmas.List.length-map, lemmas.List.nil_from_length, lemmas.Grind.common_steps}
use Rattle.adf_tree.proofs.ChildLookup.{same_slot_by}

body_dir : (image : List ℕ) (w : Walk) (n b : ℕ) (x : Bool) → cond x Dir (File (content image (kind_of image) b (datas_in w n))) ≡ Dir
    → x ≡ true
body_dir image w n b true h = refl
body_dir image w n b false h = cc

body_file : (image : List ℕ) (w : Walk) (n b : ℕ) (bytes : List ℕ) (x : Bool)
    → cond x Dir (File (content image (kind_of image) b (datas_in w n))) ≡ File bytes
    → (x ≡ false) × (bytes ≡ content image (kind_of image) b (datas_in w n))
body_file image w n b bytes true h = cc
body_file image w n b bytes false h = let e : bytes ≡ content image (kind_of image) b (datas_in w n) = cc in (refl, e)

-- a header that is no directory is a file
head_kind : (letters : Letters) (image : List ℕ) (b c s : ℕ) → AllHold (head_demands_by letters image (kind_of image) b c s)
    → (word_in image b SECONDARY_TYPE == ST_DIR) ≡ false → word_in image b SECONDARY_TYPE ≡ ST_FILE
head_kind letters image b c s h z = grind (arith, common_steps, head_type letters, eq-eqb)

-- a whole walk has all bitmap extension blocks
pub all_map_exts : (image : List ℕ) (w : Walk) → IsWhole image w → (j : ℕ) → ROOT_PAGES + MAP_EXT_PAGES * j < pages_needed (blocks image)
    → (a : ℕ) × Has w (MapExt j) a
all_map_exts image w whole zero lt = asked_block image w whole (MapExt 0) (root_of image) FIRST_MAP_EXT (lt, refl, refl) (omega arith)
all_map_exts image w whole (suc j) lt =
    let x = all_map_exts image w whole j (omega arith) in
    asked_block image w whole (MapExt (suc j)) x.0 MAP_EXT_NEXT (lt, x.1, refl) (omega arith)

-- the header of which entry n is made
pub record HeadOf (image : List ℕ) (w : Walk) (n : ℕ) (e : Entry) : Type 0 where
  pub block : ℕ
  pub header : HeadAt w n block
  pub entry : e ≡ entry_in image w n header.parent block

module _ {letters : Letters} (image : List ℕ) (w : Walk) (v : IsWalkBy letters image w) (whole : IsWhole image w) where
  pub head_is : {n b : ℕ} → HeadAt w n b
      → (at_node image (layout_in w) n ≡ b) × (exts_of (layout_in w) n ≡ exts_in w n) × (datas_of (layout_in w) n ≡ datas_in w n)
  head_is {n = zero} h = let u : (1 ≤ 0) × (0 ≤ heads w) = number_of image v h in absurd (omega arith)
  head_is {n = suc i} {b = b} h = place_parts (places_in w w) i (place_in w (suc i) b) (place_has image w v h)

  dir_at : (p a : ℕ) → DirAt image w p a → at_node image (layout_in w) p ≡ a
  dir_at zero a h = root_is image (of_walk image v) a h
  dir_at (suc i) a h = (head_is h.header).0

  pub entry_is : (n : ℕ) (e : Entry) → EntryAt (tree_in_by letters image w) n e → HeadOf image w n e
  entry_is zero e h = absurd h
  entry_is (suc i) e h =
      let lt = at_below (entries_in image w w) i e h in
      let k = numbered image v (suc i) (omega arith) (omega (arith, lt, entries_length image w w)) in
      let same = at_fun (entries_in image w w) i e (entry_in image w (suc i) k.1.parent k.0) h (entry_has image w v k.1) in
      record { block = k.0; header = k.1; entry = same }

  -- a directory of the walk is one of the tree
  dir_is : (p c : ℕ) → DirAt image w p c → DirNode (tree_in_by letters image w) p
  dir_is zero c h = tt
  dir_is (suc i) c h = (
    entry_in image w (suc i) h.header.parent c,
    entry_has image w v h.header,
    ap (λ x. cond x Dir (File (content image (kind_of image) c (datas_in w (suc i))))) (eq-eqb (word_in image c SECONDARY_TYPE) ST_DIR h.type),
  )

  pub is_tree : Ordered letters (tree_in_by letters image w)
  is_tree = record {
    parents = (λ n e h.
        let x = entry_is n e h in
        let k = kept image v (head_role x.header) x.block x.header.has in
        let z : x.header.parent ≡ e.parent = ap (λ (y : Entry). y.parent) (sym x.entry) in
        subst (λ p. (p < n) × DirNode (tree_in_by letters image w) p) z
        (parent_below image (of_walk image v) x.header, dir_is x.header.parent k.2.0 k.2.1));
    order = (λ n m e f h k l.
        let x = entry_is n e h in
        let y = entry_is m f k in
        let o : Before (head_role x.header) (head_role y.header) = in_order image v x.header y.header l in
        let p1 : e.parent ≡ x.header.parent = ap (λ (z : Entry). z.parent) x.entry in
        let p2 : f.parent ≡ y.header.parent = ap (λ (z : Entry). z.parent) y.entry in
        let s1 : slot_by letters e.name ≡ x.header.slot = ap (λ (z : Entry). slot_by letters z.name) x.entry ∙ slot_is image v x.header in
        let s2 : slot_by letters f.name ≡ y.header.slot = ap (λ (z : Entry). slot_by letters z.name) y.entry ∙ slot_is image v y.header in
        (omega (arith, o.0), (λ z. omega (arith, o.1 (omega (arith, o.0))))));
    names = (λ n m e f h k ne z u.
        let x = entry_is n e h in
        let y = entry_is m f k in
        let p1 : x.header.parent ≡ y.header.parent = sym (ap (λ (z : Entry). z.parent) x.entry) ∙ z ∙ ap (λ (z : Entry). z.parent) y.entry in
        let nm : uppers_by letters (name_of image x.block) ≡ uppers_by letters (name_of image y.block) =
        sym (ap (λ (z : Entry). uppers_by letters z.name) x.entry) ∙ u ∙ ap (λ (z : Entry). uppers_by letters z.name) y.entry in
        let s1 : x.header.slot ≡ y.header.slot =
        sym (slot_is image v x.header) ∙ same_slot_by letters (name_of image x.block) (name_of image y.block) nm ∙ slot_is image v y.header in
        let has : Has w (Head m x.header.parent x.header.slot y.header.place) y.block = rw (p1, s1) y.header.has in
        new_names image v n m x.header.parent x.header.slot x.header.place y.header.place x.block y.block x.header.has has ne nm);
  }

  pub pages_length : length (pages_in w) ≡ pages_needed (blocks image)
  pages_length =
      let enough : length (pages_in w) < pages_needed (blocks image) → ⊥ = (λ u.
      let m = page_word image w (length (pages_in w)) u (λ j y. all_map_exts image w whole j (omega arith)) in
      let x = asked_block image w whole (Page (length (pages_in w))) m.0 m.1 m.2 (omega arith) in
      omega (arith, at_below (pages_in w) (length (pages_in w)) x.0 ((pages image v).to (length (pages_in w)) x.0 x.1))) in
      let few : pages_needed (blocks image) < length (pages_in w) → ⊥ = (λ l.
      let x = at_some (pages_in w) (pages_needed (blocks image)) l in
      let y = (kept image v (Page (pages_needed (blocks image))) x.0 ((pages image v).from (pages_needed (blocks image)) x.0 x.1)).0 in
      omega arith) in
      omega arith

  pub map_exts_length : length (map_exts_in w) ≡ map_exts_needed (pages_needed (blocks image))
  map_exts_length =
      let m : ℕ = map_exts_needed (pages_needed (blocks image)) in
      let enough : length (map_exts_in w) < m → ⊥ = (λ u.
      let x = all_map_exts image w whole (length (map_exts_in w)) (map_exts_low (pages_needed (blocks image)) (length (map_exts_in w)) u) in
      omega (arith, at_below (map_exts_in w) (length (map_exts_in w)) x.0 ((map_exts image v).to (length (map_exts_in w)) x.0 x.1))) in
      let few : m < length (map_exts_in w) → ⊥ = (λ l.
      let x = at_some (map_exts_in w) m l in
      let y = map_exts_high (pages_needed (blocks image)) m (map_ext_low image w m x.0 v ((map_exts image v).from m x.0 x.1)) in
      omega arith) in
      omega arith

  pub map_ext_next : (j a b : ℕ) → At (map_exts_in w) j a → At (map_exts_in w) (suc j) b → word_in image a MAP_EXT_NEXT ≡ b
  map_ext_next j a b h k = grind (arith, common_steps, kept, map_exts, at_fun)

  pub root_names : (k b a i : ℕ) → k < ROOT_PAGES → NamesPage image w k a i → word_in image a i ≡ b
      → word_in image (root_of image) (FIRST_PAGE + k) ≡ b
  root_names k b a i lt (inl x) e = ap (λ a. word_in image a (FIRST_PAGE + k)) (sym x.1) ∙ ap (word_in image a) (sym x.2) ∙ e
  root_names k b a i lt (inr x) e = absurd (omega arith)

  pub ext_names : (j i c b a m : ℕ) → i < MAP_EXT_PAGES → At (map_exts_in w) j c → NamesPage image w (ROOT_PAGES + MAP_EXT_PAGES * j + i) a m
      → word_in image a m ≡ b
      → word_in image c i ≡ b
  ext_names j i c b a m lt h (inl x) e = absurd (omega arith)
  ext_names j i c b a m lt h (inr x) e = grind (arith, common_steps, at_fun, map_exts)

  is_dir_at : (p : ℕ) → DirNode (tree_in_by letters image w) p → DirAt image w p (at_node image (layout_in w) p)
  is_dir_at zero d = root_in image (of_walk image v)
  is_dir_at (suc i) d =
      let x = entry_is (suc i) d.0 d.1 in
      let b : ℕ = x.block in
      let z : body_in image w (suc i) b ≡ Dir = ap (λ (y : Entry). y.body) (sym x.entry) ∙ d.2 in
      let y : word_in image b SECONDARY_TYPE ≡ ST_DIR =
      eqb-true (word_in image b SECONDARY_TYPE) ST_DIR (body_dir image w (suc i) b (word_in image b SECONDARY_TYPE == ST_DIR) z) in
      let e : b ≡ at_node image (layout_in w) (suc i) = sym (head_is x.header).0 in
      subst (DirAt image w (suc i)) e (record { header = x.header; type = y })

  -- the chains are spelled
  pub chains_spelled : (p s : ℕ) → DirNode (tree_in_by letters image w) p → s < SLOTS →
      Spelled (λ b. word_in image b NEXT_IN_CHAIN) (word_in image (at_node image (layout_in w) p) (FIRST_SLOT + s))
      (map (at_node image (layout_in w)) (chain_nodes_by letters (tree_in_by letters image w) p s))
  chains_spelled p s d lt =
      let da = is_dir_at p d in
      let a : ℕ = at_node image (layout_in w) p in
      let c : List ℕ = nodes_from_by letters 1 (entries_in image w w) p s in
      spelled_from (λ b. word_in image b NEXT_IN_CHAIN) (word_in image a (FIRST_SLOT + s)) (map (at_node image (layout_in w)) c)
      (λ b h.
      let u = at_unmap (at_node image (layout_in w)) c 0 b h in
      let x = (chains letters image w v).from u.0 p s 0 u.1 in
      let k = (kept image v (Head u.0 p s 0) x.0 x.1).1 in
      ap (λ a. word_in image a (FIRST_SLOT + s)) (dir_at p k.0 k.1) ∙ k.2 ∙ sym (head_is (head_at u.0 p s 0 x.0 x.1)).0 ∙ u.2)
      (λ h.
      let none : 0 < word_in image a (FIRST_SLOT + s) → ⊥ = (λ some.
      let x = asked_header image w whole (suc (heads w)) p s 0 a (FIRST_SLOT + s) (refl, lt, da, refl, (λ z. omega arith)) in
      omega (arith, at_below c 0 x.0 ((chains letters image w v).to x.0 p s 0 x.1 x.2), length-map c (at_node image (layout_in w)))) in
      omega arith)
      (λ j b b2 h h2.
      let u = at_unmap (at_node image (layout_in w)) c j b h in
      let u2 = at_unmap (at_node image (layout_in w)) c (suc j) b2 h2 in
      let x = (chains letters image w v).from u.0 p s j u.1 in
      let x2 = (chains letters image w v).from u2.0 p s (suc j) u2.1 in
      let k = (kept image v (Head u2.0 p s (suc j)) x2.0 x2.1).1 in
      let z : k.1 ≡ x.0 = (one_block image (of_walk image v) (Head k.0 p s j) (Head u.0 p s j) k.1 x.0 k.2 x.1 (refl, refl, refl)).1 in
      let y : b ≡ k.1 = sym u.2 ∙ (head_is (head_at u.0 p s j x.0 x.1)).0 ∙ sym z in
      ap (λ b. word_in image b NEXT_IN_CHAIN) y ∙ k.3 ∙ sym (head_is (head_at u2.0 p s (suc j) x2.0 x2.1)).0 ∙ u2.2)
      (λ j b h e.
      let u = at_unmap (at_node image (layout_in w)) c j b h in
      let x = (chains letters image w v).from u.0 p s j u.1 in
      let y : x.0 ≡ b = sym (head_is (head_at u.0 p s j x.0 x.1)).0 ∙ u.2 in
      let none : 0 < word_in image b NEXT_IN_CHAIN → ⊥ = (λ some.
      let x' : Has w (Head u.0 p s j) b = subst (Has w (Head u.0 p s j)) y x.1 in
      let q = asked_header image w whole (suc (heads w)) p s (suc j) b NEXT_IN_CHAIN (refl, (u.0, x'), refl, (λ z. omega arith)) in
      omega (arith, at_below c (suc j) q.0 ((chains letters image w v).to q.0 p s (suc j) q.1 q.2), length-map c (at_node image (layout_in w)))) in
      omega arith)

  -- a file of the tree is one of the walk
  pub file_at : (n : ℕ) (e : Entry) (bytes : List ℕ) → EntryAt (tree_in_by letters image w) n e → e.body ≡ File bytes
      → (h : ℕ) × FileAt image w n h × (bytes ≡ content image (kind_of image) h (datas_in w n))
  file_at n e bytes h f =
      let x = entry_is n e h in
      let b : ℕ = x.block in
      let z : body_in image w n b ≡ File bytes = ap (λ (y : Entry). y.body) (sym x.entry) ∙ f in
      let y = body_file image w n b bytes (word_in image b SECONDARY_TYPE == ST_DIR) z in
      let k = kept image v (head_role x.header) b x.header.has in
      (b, record { header = x.header; type = head_kind letters image b k.2.0 x.header.slot k.2.2 y.0 }, y.1)

  enough_now : (n h : ℕ) → FileAt image w n h → data_count image h ≤ POINTERS * suc (ext_count w n)
  enough_now n h f =
      let few : POINTERS * suc (ext_count w n) < data_count image h → ⊥ = (λ u.
      let x = asked_block image w whole (Data n 1) h (table_word 0) ((h, f, omega arith), f, refl) (omega arith) in
      let k = kept image v (Data n 1) x.0 x.1 in
      let y = subst (λ h. data_count image h ≤ POINTERS * suc (ext_count w n)) (file_one image (of_walk image v) n k.head h k.file f) k.enough in
      omega arith) in
      omega arith

  datas_length : (n h : ℕ) → FileAt image w n h → length (datas_in w n) ≡ data_count image h
  datas_length n h f =
      let m : ℕ = length (datas_in w n) in
      let all : m < data_count image h → ⊥ = (λ u.
      let en = enough_now n h f in
      let t = there image w v (λ r b h. kept image v r b h) n (m / POINTERS) h f (omega arith) in
      let x = asked_block image w whole (Data n (suc m)) t.0 (table_word m) ((h, f, u), t.1, refl) (omega arith) in
      omega (arith, at_below (datas_in w n) m x.0 (data_has image w v n m x.0 x.1))) in
      let few : data_count image h < m → ⊥ = (λ l.
      let x = at_some (datas_in w n) (data_count image h) l in
      let k = kept image v (Data n (suc (data_count image h))) x.0 (has_data image w v n (data_count image h) x.0 x.1) in
      let y = subst (λ g. data_count image h < data_count image g) (file_one image (of_walk image v) n k.head h k.file f) k.asked in
      omega arith) in
      omega arith

  exts_spelled : (n h : ℕ) → FileAt image w n h → Spelled (λ b. word_in image b EXTENSION) (word_in image h EXTENSION) (exts_in w n)
  exts_spelled n h f =
      spelled_from (λ b. word_in image b EXTENSION) (word_in image h EXTENSION) (exts_in w n)
      (λ b x.
      let k = (kept image v (Ext n 1) b (has_ext image w v n 0 b x)).0 in
      ap (λ h. word_in image h EXTENSION) (file_one image (of_walk image v) n h k.0 f k.1) ∙ k.2)
      (λ z.
      let none : 0 < word_in image h EXTENSION → ⊥ = (λ some.
      let x = asked_block image w whole (Ext n 1) h EXTENSION (f, refl, (λ z. omega arith)) (omega arith) in
      omega (arith, at_below (exts_in w n) 0 x.0 (ext_has image v n 0 x.0 x.1))) in
      omega arith)
      (λ j b c x y.
      let k = (kept image v (Ext n (suc (suc j))) c (has_ext image w v n (suc j) c y)).0 in
      let e : b ≡ k.0 = at_fun (exts_in w n) j b k.0 x (ext_has image v n j k.0 k.1) in
      ap (λ b. word_in image b EXTENSION) e ∙ k.2)
      (λ j b x e.
      let none : 0 < word_in image b EXTENSION → ⊥ = (λ some.
      let q = asked_block image w whole (Ext n (suc (suc j))) b EXTENSION (has_ext image w v n j b x, refl, (λ z. omega arith)) (omega arith) in
      omega (arith, at_below (exts_in w n) (suc j) q.0 (ext_has image v n (suc j) q.0 q.1))) in
      omega arith)

  -- a member of the table is one member
  table_is : (n h m a c : ℕ) → FileAt image w n h → TableAt image (layout_in w) n m a → MemberAt image w n m c → a ≡ c
  table_is n h zero a c f x y = sym x ∙ (head_is y.header).0
  table_is n h (suc m) a c f x y = at_fun (exts_in w n) m a c (subst (λ xs. At xs m a) (head_is f.header).1 x) (ext_has image v n m c y)

  data_named : (n h k b a : ℕ) → FileAt image w n h → At (datas_in w n) k b → TableAt image (layout_in w) n (k / POINTERS) a
      → word_in image a (table_word k) ≡ b
  data_named n h k b a f x y =
      let z = (kept image v (Data n (suc k)) b (has_data image w v n k b x)).named in
      ap (λ a. word_in image a (table_word k)) (table_is n h (k / POINTERS) a z.0 f y z.1) ∙ z.2

  table_of : (n h m c : ℕ) → FileAt image w n h → MemberAt image w n m c → TableAt image (layout_in w) n m c
  table_of n h zero c f y = (head_is y.header).0
  table_of n h (suc m) c f y = subst (λ xs. At xs m c) (sym (head_is f.header).1) (ext_has image v n m c y)

  data_next : (n h k x : ℕ) → FileAt image w n h → IsNext image w n k h x → x ≡ slice_index (datas_in w n) k
  data_next n h k x f y =
      let l : length (datas_in w n) ≡ data_count image h = datas_length n h f in
      elim (dec_lt k (data_count image h)) [
        | yes u ↦
            let c = y.inner u in
            let e = at_some (datas_in w n) k (omega arith) in
            c.2 ∙ data_named n h k e.0 c.0 f e.1 (table_of n h (k / POINTERS) c.0 f c.1) ∙ sym (at_index (datas_in w n) k e.0 e.1)
        | no u ↦ y.last (omega arith) ∙ sym (index_past (datas_in w n) k (omega arith))
      ]

  data_formed : (n h k b : ℕ) → FileAt image w n h → At (datas_in w n) k b
      → AllHold (data_demands image (kind_of image) b h (suc k) (held (kind_of image) (word_in image h SIZE) (suc k))
      (slice_index (datas_in w n) (suc k)))
  data_formed n h k b f x =
      let y = kept image v (Data n (suc k)) b (has_data image w v n k b x) in
      let z : y.head ≡ h = file_one image (of_walk image v) n y.head h y.file f in
      let next : ℕ = y.form.0 in
      let e : next ≡ slice_index (datas_in w n) (suc k) = data_next n h (suc k) next f (subst (λ h. IsNext image w n (suc k) h next) z y.form.1) in
      rw (← e, ← z) y.form.2

  pub file_fits : (n h : ℕ) (bytes : List ℕ) → FileAt image w n h → length bytes ≡ word_in image h SIZE
      → FileFits image (tree_in_by letters image w) (layout_in w) n h bytes
  file_fits n h bytes f z =
      let fp = head_is f.header in
      let ex : exts_of (layout_in w) n ≡ exts_in w n = fp.1 in
      let da : datas_of (layout_in w) n ≡ datas_in w n = fp.2 in
      let ct : count (kind_of image) (length bytes) ≡ data_count image h = ap (count (kind_of image)) z in
      record {
        exts = subst (Spelled (λ b. word_in image b EXTENSION) (word_in image h EXTENSION)) (sym ex) (exts_spelled n h f);
        ext_form = (λ k b x.
            let y = (kept image v (Ext n (suc k)) b (has_ext image w v n k b (subst (λ xs. At xs k b) ex x))).1 in
            subst (λ h. AllHold (ext_demands image b h)) (file_one image (of_walk image v) n y.0 h y.1 f) y.2);
        enough =
            omega (arith, ct, enough_now n h f, ap length ex ∙ exts_length w n);
        datas = ap length da ∙ datas_length n h f ∙ sym ct;
        named = (λ k b a x y. data_named n h k b a f (subst (λ xs. At xs k b) da x) y);
        data_form = (λ k b x.
            rw (da, z) (data_formed n h k b f (subst (λ xs. At xs k b) da x)));
      }

  module _ (boots : AllHold (boot_demands_by letters image)) where
    -- what a file holds is as long as its header says
    pub content_long : (n h : ℕ) → FileAt image w n h → length (content image (kind_of image) h (datas_in w n)) ≡ word_in image h SIZE
    content_long n h f =
        content_length image (kind_of image) h (datas_in w n) boots.0.0
        (λ k b x. (in_range image v (size_low (blocks image) boots.0.1) (Data n (suc k)) b (has_data image w v n k b x)).1)
        (datas_length n h f)

    body_fits : (n b c : ℕ) (h : HeadAt w n b) → AllHold (head_demands_by letters image (kind_of image) b c h.slot) → (x : Bool)
        → (word_in image b SECONDARY_TYPE == ST_DIR) ≡ x
        → BodyFits image (kind_of image) (layout_in w) n b (cond x Dir (File (content image (kind_of image) b (datas_in w n))))
    body_fits n b c h k true z =
        let d : word_in image b SECONDARY_TYPE ≡ ST_DIR = eqb-true (word_in image b SECONDARY_TYPE) ST_DIR z in
        let hp = head_is h in
        let no_file : (a : ℕ) → FileAt image w n a → ⊥ =
        (λ a f. dir_not_file image b d (subst (λ a. word_in image a SECONDARY_TYPE ≡ ST_FILE)
        (one_head image (of_walk image v) f.header h).1 f.type)) in (
          d,
          hp.1 ∙ nil_from_length (exts_in w n) (let none : 0 < length (exts_in w n) → ⊥ = (λ u.
              let x = at_some (exts_in w n) 0 u in
              let f = ext_file image v n 1 x.0 (has_ext image w v n 0 x.0 x.1) in no_file f.0 f.1) in omega arith),
          hp.2 ∙ nil_from_length (datas_in w n) (let none : 0 < length (datas_in w n) → ⊥ = (λ u.
              let x = at_some (datas_in w n) 0 u in
              let f = kept image v (Data n 1) x.0 (has_data image w v n 0 x.0 x.1) in no_file f.head f.file) in omega arith),
        )
    body_fits n b c h k false z =
        let f : FileAt image w n b = record { header = h; type = head_kind letters image b c h.slot k z } in
        let hp = head_is h in
        (f.type, ap (content image (kind_of image) b) (sym hp.2), content_long n b f)

    pub entry_fits : (n : ℕ) (e : Entry) → EntryAt (tree_in_by letters image w) n e
        → EntryFitsBy letters image (tree_in_by letters image w) (layout_in w) n (at_node image (layout_in w) n) e
    entry_fits n e h =
        let x = entry_is n e h in
        let b : ℕ = x.block in
        let k = kept image v (head_role x.header) b x.header.has in
        let hb : at_node image (layout_in w) n ≡ b = (head_is x.header).0 in
        let pb : at_node image (layout_in w) x.header.parent ≡ k.2.0 = dir_at x.header.parent k.2.0 k.2.1 in
        let sl : slot_by letters (name_of image b) ≡ x.header.slot = slot_is image v x.header in
        subst (λ e. EntryFitsBy letters image (tree_in_by letters image w) (layout_in w) n (at_node image (layout_in w) n) e) (sym x.entry)
        (subst (λ h. EntryFitsBy letters image (tree_in_by letters image w) (layout_in w) n h (entry_in image w n x.header.parent b)) (sym hb)
        (record {
          form = rw (pb, sl) k.2.2;
          name = refl;
          meta = refl;
          body = body_fits n b k.2.0 x.header k.2.2 (word_in image b SECONDARY_TYPE == ST_DIR) refl;
        }))
