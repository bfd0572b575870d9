-- Agreement: if a tree and a layout fit, each walk follows them.
use Rattle.std.proofs.Common.{◌≡◌, ℕ, zero, suc, List, inl, inr, ◌+◌, ◌/◌, ◌<◌, ◌≤◌, ◌≢◌, length, refl, sym, ap, subst, ◌∙◌, arith, map, Bool, true, false}
use Rattle.std.proofs.{Common.cond, Common.slice_index, Common.nat_lt, lemmas.Bool.ltb-false, lemmas.Bool.ltb-true, lemmas.Grind.common_steps}
use Rattle.adf_blocks.specs.declared.layout.TheConstants.{EXTENSION, FIRST_SLOT, NEXT_IN_CHAIN, POINTERS, SECONDARY_TYPE, SIZE, SLOTS, ST_DIR, ST_FILE}
use Rattle.adf_volume.specs.{Lists.At, Image.root_of, Image.name_of, Image.word_in, Image.kind_of, Image.table_word, Demands.AllHold, Demands.ext_demands}
use Rattle.adf_volume.specs.{Fits.FitsBy, Fits.FileFits, Fits.BodyFits, Fits.TableAt, Walk.Role.Root, Walk.Role.Page, Walk.Role.MapExt, Walk.Role.Head}
use Rattle.adf_volume.specs.{Walk.Role.Ext, Walk.Role.Data, Walk.IsWalkBy.start, Walk.IsWalkBy.step, LayoutRoles.LayoutHasBy, Parts.renumbered}
use Rattle.adf_blocks.specs.Sizes.{blocks, count, pages_needed}
use Rattle.adf_base.specs.{Hash.slot_by, declared.hash.Letters.Letters}
use Rattle.adf_names.specs.Texts.{uppers_by}
use Rattle.adf_tree.specs.declared.entry.Body.{Body, TheVariants.Dir, TheVariants.File}
use Rattle.adf_tree.specs.{declared.entry.Entry.Entry, Tree.Tree}
use Rattle.adf_volume.specs.Layout.{EntryAt, IsFile, chain_nodes_by, Layout, at_node, exts_of, datas_of}
use Rattle.adf_volume.proofs.Gathered.{asked_file, ext_below, member_is, node_is, root_in, root_is}
use Rattle.adf_volume.proofs.{TreeOrder.DirNode, TreeOrder.ordered, TreeOrder.is_dir, Images.map_exts_high, Lists.at_index, Lists.index_past, Roles.asks_number}
use Rattle.adf_volume.proofs.{Roles.dir_is_node, Roles.head_at, Roles.head_key, Roles.head_role, Roles.same_of, Walks.number_of, Walks.numbered, Walks.file_is}
use Rattle.adf_volume.proofs.{Walks.is_there, Walks.of_walk, LayoutRoles.part_range, LayoutRoles.one_part, Places.exts_below, FormDemands.dir_not_file}
use Rattle.adf_volume.specs.Walk.{Role, Before, Has, heads, HeadAt, DirAt, FileAt, MemberAt, NamesPage, data_count, Asks, Lacks, IsDue, ext_count, Enough, Walk}
use Rattle.adf_volume.specs.Walk.{NewNameBy, form_demands_by, node_block, member_block, next_data, NoCauseBy, IsWalkBy}
use Rattle.adf_volume.proofs.Lists.{at_fun, at_below, at_some, at_before, at_map, at_unmap, spelled_first, spelled_next, spelled_word, spelled_link, all_append}
use Rattle.adf_volume.proofs.Chains.{entry_at, entry_below, entry_some, place_at, one_place, sorted_places, chain_rises}
use Rattle.adf_tree.proofs.TreeInvariant.{slot_small_by}

module _ {letters : Letters} (image : List ℕ) (t : Tree) (l : Layout) (fit : FitsBy letters image t l) where
  -- a header whose secondary type says directory is a directory's
  pub dir_of : (n : ℕ) (e : Entry) (b : Body) → b ≡ e.body
      → BodyFits image t.kind l n (at_node image l n) b → word_in image (at_node image l n) SECONDARY_TYPE ≡ ST_DIR → e.body ≡ Dir
  dir_of n e Dir z f d = sym z
  dir_of n e (File bytes) z f d = absurd (dir_not_file image (at_node image l n) d f.0)

  pub dir_word : (n : ℕ) (e : Entry) (b : Body) → b ≡ e.body → BodyFits image t.kind l n (at_node image l n) b → e.body ≡ Dir
      → word_in image (at_node image l n) SECONDARY_TYPE ≡ ST_DIR
  dir_word n e Dir z f d = f.0
  dir_word n e (File bytes) z f d = let k : File bytes ≡ Dir = z ∙ d in cc

  pub file_of : (n : ℕ) (e : Entry) (b : Body) → b ≡ e.body → BodyFits image t.kind l n (at_node image l n) b
      → word_in image (at_node image l n) SECONDARY_TYPE ≡ ST_FILE
      → (bytes : List ℕ) × (e.body ≡ File bytes) × (length bytes ≡ word_in image (at_node image l n) SIZE)
  file_of n e Dir z f d = absurd (dir_not_file image (at_node image l n) f.0 d)
  file_of n e (File bytes) z f d = (bytes, sym z, f.2)

  pub no_exts : (n : ℕ) (e : Entry) (b : Body) (k x : ℕ) → b ≡ e.body → BodyFits image t.kind l n (at_node image l n) b → At (exts_of l n) k x
      → (bytes : List ℕ) × (e.body ≡ File bytes)
  no_exts n e Dir k x z f a = absurd (subst (λ xs. At xs k x) f.1 a)
  no_exts n e (File bytes) k x z f a = (bytes, sym z)

  pub fit_file : {n : ℕ} (f : IsFile t n) → FileFits image t l n (at_node image l n) f.bytes
  fit_file {n = n} f = fit.files n f.entry f.bytes f.at f.body

  -- the walk so far goes along the tree
  module _ (w : Walk) (v : IsWalkBy letters image w) (ag : (r : Role) (b : ℕ) → Has w r b → LayoutHasBy letters image t l r b) where
    pub dir_agrees : (p a : ℕ) → DirAt image w p a → DirNode t p × (at_node image l p ≡ a)
    dir_agrees zero a h = (tt, root_is image (of_walk image v) a h)
    dir_agrees (suc i) a h =
        let q = ag (head_role h.header) a h.header.has in
        let e = entry_at letters t h.header.parent h.header.slot h.header.place (suc i) q.0 in
        let d : word_in image (at_node image l (suc i)) SECONDARY_TYPE ≡ ST_DIR = ap (λ b. word_in image b SECONDARY_TYPE) q.1 ∙ h.type in
        ((e.entry, e.at, dir_of (suc i) e.entry e.entry.body refl (fit.entries (suc i) e.entry e.at).body d), q.1)

    -- a file of the walk is one of the tree, with as many bytes and data blocks as its header says
    pub file_agrees : (n a : ℕ) → FileAt image w n a
        → record {
          file : IsFile t n;
          long : length file.bytes ≡ word_in image a SIZE;
          count : count t.kind (length file.bytes) ≡ data_count image a;
          block : at_node image l n ≡ a;
        }
    file_agrees n a h =
        let q = ag (head_role h.header) a h.header.has in
        let e = entry_at letters t h.header.parent h.header.slot h.header.place n q.0 in
        let d : word_in image (at_node image l n) SECONDARY_TYPE ≡ ST_FILE = ap (λ b. word_in image b SECONDARY_TYPE) q.1 ∙ h.type in
        let f = file_of n e.entry e.entry.body refl (fit.entries n e.entry e.at).body d in
        let long : length f.0 ≡ word_in image a SIZE = f.2 ∙ ap (λ b. word_in image b SIZE) q.1 in
        record {
          file = record { entry = e.entry; bytes = f.0; at = e.at; body = f.1 };
          long = long;
          count = ap (λ k. count k (length f.0)) fit.kind ∙ ap (count (kind_of image)) long;
          block = q.1;
        }

    -- a node of the tree with a number that the walk has stands in the walk at its place
    pub has_node : (p s j n : ℕ) → At (chain_nodes_by letters t p s) j n → n ≤ heads w → (b : ℕ) × Has w (Head n p s j) b
    has_node p s j n h u =
        let e = entry_at letters t p s j n h in
        let x = numbered image v n e.low u in
        let k = x.1 in
        let q = ag (head_role k) x.0 k.has in
        let z = one_place letters t k.parent k.slot k.place p s j n q.0 h in
        let z0 : k.parent ≡ p = z.0 in let z1 : k.slot ≡ s = z.1 in let z2 : k.place ≡ j = z.2 in
        let y : head_role k ≡ Head n p s j = cc in
        (x.0, subst (λ r. Has w r x.0) y k.has)

    pub has_head : (n : ℕ) (e : Entry) → EntryAt t n e → n ≤ heads w → HeadAt w n (at_node image l n)
    has_head n e h u =
        let q = place_at letters t n e h in
        let k = has_node e.parent (slot_by letters e.name) q.0 n q.1 u in
        let g : HeadAt w n k.0 = head_at n e.parent (slot_by letters e.name) q.0 k.0 k.1 in
        subst (HeadAt w n) (sym (ag (head_role g) k.0 k.1).1) g

    pub has_dir : (p : ℕ) → p ≤ heads w → DirNode t p → DirAt image w p (at_node image l p)
    has_dir zero u d = root_in image (of_walk image v)
    has_dir (suc i) u d =
        record { header = has_head (suc i) d.0 d.1 u; type = dir_word (suc i) d.0 d.0.body refl (fit.entries (suc i) d.0 d.1).body d.2 }

    -- the chain in which a node stands is a directory's before it, and its slot is one of the table
    chain_of : (p s j n : ℕ) → At (chain_nodes_by letters t p s) j n → DirNode t p × (p < n) × (s < SLOTS)
    chain_of p s j n h =
        let e = entry_at letters t p s j n h in
        let up = (ordered t fit.tree).parents n e.entry e.at in
        (subst (DirNode t) e.parent up.1, subst (λ p. p < n) e.parent up.0, subst (λ s. s < SLOTS) e.slot (slot_small_by letters e.entry.name))

    -- the next node of the tree is asked for
    pub asks_next : (p s j n : ℕ) → At (chain_nodes_by letters t p s) j n → n ≡ suc (heads w) → (a i : ℕ) × Asks image w (Head n p s j) a i
    asks_next p s zero n h u =
        let g = chain_of p s 0 n h in
        let u1 : p < n = g.1 in
        let sp = fit.chains p s (is_dir t p g.0) g.2 in
        let named : word_in image (at_node image l p) (FIRST_SLOT + s) ≡ at_node image l n =
        spelled_word (λ b. word_in image b NEXT_IN_CHAIN) (word_in image (at_node image l p) (FIRST_SLOT + s))
        (map (at_node image l) (chain_nodes_by letters t p s)) (at_node image l n)
        sp (at_map (at_node image l) (chain_nodes_by letters t p s) 0 n h) in
        let r = part_range image t l fit (Head n p s 0) (at_node image l n) (h, refl) in
        (at_node image l p, 6 + s, (u, g.2, has_dir p (omega arith) g.0, refl, (λ z. omega (arith, r.0, sym named ∙ z))))
    asks_next p s (suc j) n h u =
        let b = at_before (chain_nodes_by letters t p s) j n h in
        let m : ℕ = b.0 in
        let g = chain_of p s (suc j) n h in
        let sp = fit.chains p s (is_dir t p g.0) g.2 in
        let less : m < n = chain_rises letters 1 t.entries p s j (suc j) m n b.1 h (omega arith) in
        let k = has_node p s j m b.1 (omega arith) in
        let z : at_node image l m ≡ k.0 = (ag (Head m p s j) k.0 k.1).1 in
        let named : word_in image (at_node image l m) NEXT_IN_CHAIN ≡ at_node image l n =
        spelled_link (λ b. word_in image b NEXT_IN_CHAIN) (word_in image (at_node image l p) (FIRST_SLOT + s))
        (map (at_node image l) (chain_nodes_by letters t p s)) j (at_node image l m) (at_node image l n) sp
        (at_map (at_node image l) (chain_nodes_by letters t p s) j m b.1) (at_map (at_node image l) (chain_nodes_by letters t p s) (suc j) n h) in
        let r = part_range image t l fit (Head n p s (suc j)) (at_node image l n) (h, refl) in
        (k.0, NEXT_IN_CHAIN, (u, (m, k.1), refl, (λ q. omega (arith, r.0, sym named ∙ (ap (λ b. word_in image b NEXT_IN_CHAIN) z ∙ q)))))

    -- and the walk lacks it
    pub next_lacks : (p s j n : ℕ) → At (chain_nodes_by letters t p s) j n → n ≡ suc (heads w) → Lacks w (Head n p s j)
    next_lacks p s j n h u r b has same = grind (arith, common_steps, head_key, at_fun, number_of, head_at)

    -- what is due in a chain is the tree's next node
    number_agrees : (p s j n m a i : ℕ) → IsDue image w (Head n p s j) a i → n ≡ suc (heads w) → At (chain_nodes_by letters t p s) j m → m ≡ n
    number_agrees p s j n m a i d u h =
        let above : m ≤ heads w → ⊥ = (λ k. let x = has_node p s j m h k in d.lacks (Head m p s j) x.0 x.1 (refl, refl, refl)) in
        let below : n < m → ⊥ = (λ y.
        let top = entry_at letters t p s j m h in
        let lim : m ≤ length t.entries = entry_below t m top.entry top.at in
        let e = entry_some t n (omega arith) (omega arith) in
        let q = place_at letters t n e.0 e.1 in
        let ask = asks_next e.0.parent (slot_by letters e.0.name) q.0 n q.1 u in
        let lack = next_lacks e.0.parent (slot_by letters e.0.name) q.0 n q.1 u in
        let bef : Before (Head n e.0.parent (slot_by letters e.0.name) q.0) (Head n p s j) =
        sorted_places letters t (ordered t fit.tree) e.0.parent (slot_by letters e.0.name) q.0 p s j n m n n q.1 h (omega arith) in
        d.least (Head n e.0.parent (slot_by letters e.0.name) q.0) ask.0 ask.1 ask.2 lack bef) in
        omega arith

    -- the members of a file's table agree
    pub member_agrees : (n m a : ℕ) → MemberAt image w n m a → TableAt image l n m a
    member_agrees n zero a h = (file_agrees n a h).block
    member_agrees n (suc m) a h = ag (Ext n (suc m)) a h

    pub is_file : (n k b : ℕ) → At (exts_of l n) k b → IsFile t n
    is_file zero k b h = absurd h
    is_file (suc i) k b h =
        let e = entry_some t (suc i) (omega arith) (omega (arith, exts_below l.places i k b h, fit.places)) in
        let g = no_exts (suc i) e.0 e.0.body k b refl (fit.entries (suc i) e.0 e.1).body h in
        record { entry = e.0; bytes = g.0; at = e.1; body = g.1 }

    -- the word that names a page
    page_part : (k a i : ℕ) → k < pages_needed (blocks image) → NamesPage image w k a i → At l.pages k (word_in image a i)
    page_part k a i lt (inl x) =
        let b = at_some l.pages k (omega (arith, lt, fit.pages)) in
        let z : word_in image a i ≡ b.0 = ap (λ a. word_in image a i) x.1 ∙ ap (word_in image (root_of image)) x.2 ∙ fit.page_named k b.0 x.0 b.1 in
        subst (At l.pages k) (sym z) b.1
    page_part k a i lt (inr x) =
        let b = at_some l.pages k (omega (arith, lt, fit.pages)) in
        let z : word_in image a i ≡ b.0 = fit.page_listed x.0 i a b.0 x.2 (ag (MapExt x.0) a x.1) (subst (λ k. At l.pages k b.0) x.3 b.1) in
        subst (At l.pages k) (sym z) b.1

    -- what is asked for is a part, by its number in the tree
    pub asked_part : (r : Role) (a i : ℕ) → Asks image w r a i → (m : ℕ) × LayoutHasBy letters image t l (renumbered m r) (word_in image a i)
    asked_part Root a i q = absurd q
    asked_part (Page k) a i q = (0, page_part k a i q.0 q.1)
    asked_part (MapExt zero) a i q =
        let b = at_some l.map_exts 0 (omega (arith, fit.map_exts, map_exts_high (pages_needed (blocks image)) 0 q.0)) in
        let z : word_in image a i ≡ b.0 = ap (λ a. word_in image a i) q.1 ∙ ap (word_in image (root_of image)) q.2 ∙ fit.map_first b.0 b.1 in
        (0, subst (At l.map_exts 0) (sym z) b.1)
    asked_part (MapExt (suc j)) a i q =
        let b = at_some l.map_exts (suc j) (omega (arith, fit.map_exts, map_exts_high (pages_needed (blocks image)) (suc j) q.0)) in
        let z : word_in image a i ≡ b.0 = ap (word_in image a) q.2 ∙ fit.map_next j a b.0 (ag (MapExt j) a q.1) b.1 in
        (0, subst (At l.map_exts (suc j)) (sym z) b.1)
    asked_part (Head n p s zero) a i q =
        let g = dir_agrees p a q.2 in
        let z : word_in image (at_node image l p) (FIRST_SLOT + s) ≡ word_in image a i =
        ap (λ a. word_in image a (FIRST_SLOT + s)) g.1 ∙ ap (word_in image a) (sym q.3) in
        let sp = fit.chains p s (is_dir t p g.0) q.1 in
        let x : At (map (at_node image l) (chain_nodes_by letters t p s)) 0 (word_in image (at_node image l p) (FIRST_SLOT + s)) =
        spelled_first (λ b. word_in image b NEXT_IN_CHAIN) (word_in image (at_node image l p) (FIRST_SLOT + s))
        (map (at_node image l) (chain_nodes_by letters t p s)) sp (λ y. q.4 (sym z ∙ y)) in
        let m = at_unmap (at_node image l) (chain_nodes_by letters t p s) 0 (word_in image (at_node image l p) (FIRST_SLOT + s)) x in
        (m.0, (m.1, m.2 ∙ z))
    asked_part (Head n p s (suc j)) a i q =
        let y = q.1 in
        let pt = ag (Head y.0 p s j) a y.1 in
        let g = chain_of p s j y.0 pt.0 in
        let sp = fit.chains p s (is_dir t p g.0) g.2 in
        let z : word_in image (at_node image l y.0) NEXT_IN_CHAIN ≡ word_in image a i =
        ap (λ a. word_in image a NEXT_IN_CHAIN) pt.1 ∙ ap (word_in image a) (sym q.2) in
        let x : At (map (at_node image l) (chain_nodes_by letters t p s)) (suc j) (word_in image (at_node image l y.0) NEXT_IN_CHAIN) =
        spelled_next (λ b. word_in image b NEXT_IN_CHAIN) (word_in image (at_node image l p) (FIRST_SLOT + s))
        (map (at_node image l) (chain_nodes_by letters t p s)) j (at_node image l y.0) sp
        (at_map (at_node image l) (chain_nodes_by letters t p s) j y.0 pt.0) (λ k. q.3 (sym z ∙ k)) in
        let m = at_unmap (at_node image l) (chain_nodes_by letters t p s) (suc j) (word_in image (at_node image l y.0) NEXT_IN_CHAIN) x in
        (m.0, (m.1, m.2 ∙ z))
    asked_part (Ext n zero) a i q = absurd q
    asked_part (Ext n (suc zero)) a i q =
        let f = file_agrees n a q.0 in
        let ff = fit_file f.file in
        let z : word_in image (at_node image l n) EXTENSION ≡ word_in image a i =
        ap (λ a. word_in image a EXTENSION) f.block ∙ ap (word_in image a) (sym q.1) in
        let x : At (exts_of l n) 0 (word_in image (at_node image l n) EXTENSION) =
        spelled_first (λ b. word_in image b EXTENSION) (word_in image (at_node image l n) EXTENSION) (exts_of l n) ff.exts (λ k. q.2 (sym z ∙ k)) in
        (0, subst (At (exts_of l n) 0) z x)
    asked_part (Ext n (suc (suc k))) a i q =
        let h : At (exts_of l n) k a = ag (Ext n (suc k)) a q.0 in
        let ff = fit_file (is_file n k a h) in
        let z : word_in image a EXTENSION ≡ word_in image a i = ap (word_in image a) (sym q.1) in
        let x : At (exts_of l n) (suc k) (word_in image a EXTENSION) =
        spelled_next (λ b. word_in image b EXTENSION) (word_in image (at_node image l n) EXTENSION) (exts_of l n) k a ff.exts h
        (λ y. q.2 (sym z ∙ y)) in
        (0, subst (At (exts_of l n) (suc k)) z x)
    asked_part (Data n zero) a i q = absurd q
    asked_part (Data n (suc k)) a i q =
        let h = q.0 in
        let f = file_agrees n h.0 h.1 in
        let ff = fit_file f.file in
        let b = at_some (datas_of l n) k (omega (arith, h.2, f.count, ff.datas)) in
        let z : word_in image a i ≡ b.0 = ap (word_in image a) q.2 ∙ ff.named k b.0 a b.1 (member_agrees n (k / POINTERS) a q.1) in
        (0, subst (At (datas_of l n) k) (sym z) b.1)

    -- agreement, one step: what is due is a part
    due_part : (r : Role) (a i : ℕ) → IsDue image w r a i → LayoutHasBy letters image t l r (word_in image a i)
    due_part (Head n p s j) a i d =
        let x = asked_part (Head n p s j) a i d.asked in
        let e : x.0 ≡ n = number_agrees p s j n x.0 a i d (asks_number image w n p s j a i d.asked) x.1.0 in
        (subst (At (chain_nodes_by letters t p s) j) e x.1.0, ap (at_node image l) (sym e) ∙ x.1.1)
    due_part r a i d = (asked_part r a i d.asked).1

    pub file_block : (n h a : ℕ) → FileAt image w n h → at_node image l n ≡ h
    file_block n h a f = (file_agrees n h f).block

    -- a file's extension blocks are all there when its first data block is due
    has_exts : (n d0 a i h : ℕ) → IsDue image w (Data n (suc d0)) a i → FileAt image w n h → (k : ℕ) → k < length (exts_of l n)
        → (b : ℕ) × Has w (Ext n (suc k)) b
    has_exts n d0 a i h d f zero u =
        let e = at_some (exts_of l n) 0 u in
        let ff = fit_file (is_file n 0 e.0 e.1) in
        let rg : 2 ≤ e.0 = (part_range image t l fit (Ext n 1) e.0 e.1).0 in
        let z : at_node image l n ≡ h = file_block n h a f in
        let y : word_in image (at_node image l n) EXTENSION ≡ e.0 =
        spelled_word (λ b. word_in image b EXTENSION) (word_in image (at_node image l n) EXTENSION) (exts_of l n) e.0 ff.exts e.1 in
        is_there image w (Ext n 1) (Data n (suc d0)) a i h EXTENSION d
        (f, refl, (λ x. let o : e.0 ≡ 0 = sym y ∙ ap (λ a. word_in image a EXTENSION) z ∙ x in omega arith))
        (omega arith, (λ z. omega arith), (λ z y. omega arith)) (omega arith)
    has_exts n d0 a i h d f (suc k) u =
        let x = has_exts n d0 a i h d f k (omega arith) in
        let px : At (exts_of l n) k x.0 = ag (Ext n (suc k)) x.0 x.1 in
        let e = at_some (exts_of l n) (suc k) u in
        let ff = fit_file (is_file n (suc k) e.0 e.1) in
        let rg : 2 ≤ e.0 = (part_range image t l fit (Ext n (suc (suc k))) e.0 e.1).0 in
        let y : word_in image x.0 EXTENSION ≡ e.0 =
        spelled_link (λ b. word_in image b EXTENSION) (word_in image (at_node image l n) EXTENSION) (exts_of l n) k x.0 e.0 ff.exts px e.1 in
        is_there image w (Ext n (suc (suc k))) (Data n (suc d0)) a i x.0 EXTENSION d
        (x.1, refl, (λ z. let o : e.0 ≡ 0 = sym y ∙ z in omega arith))
        (omega arith, (λ z. omega arith), (λ z y. omega arith)) (omega arith)

    enough_due : (r : Role) (a i : ℕ) → IsDue image w r a i → Enough image w r
    enough_due (Data n k) a i d = λ e h f.
        let d' : IsDue image w (Data n 1) a i = subst (λ k. IsDue image w (Data n k) a i) e d in
        let g = file_agrees n h f in
        let all : ext_count w n < length (exts_of l n) → ⊥ = (λ y.
        let x = has_exts n 0 a i h d' f (ext_count w n) (omega arith) in
        let z = ext_below image (of_walk image v) n (ext_count w n) x.0 x.1 in
        omega arith) in
        omega (arith, g.count, (fit_file g.file).enough)
    enough_due _ a i d = tt

    table_there : (n d0 a i h m : ℕ) → IsDue image w (Data n (suc d0)) a i → FileAt image w n h → m ≤ length (exts_of l n)
        → (c : ℕ) × MemberAt image w n m c
    table_there n d0 a i h zero d f u = (h, f)
    table_there n d0 a i h (suc m) d f u = has_exts n d0 a i h d f m (omega arith)

    -- what the table has for the next data block is the layout's next data block
    next_agrees : (n k a i h : ℕ) (bytes : List ℕ) → IsDue image w (Data n (suc k)) a i → FileAt image w n h
        → FileFits image t l n (at_node image l n) bytes → count t.kind (length bytes) ≡ data_count image (node_block w n) →
        (x : Bool) → nat_lt (suc k) (data_count image (node_block w n)) ≡ x → k < length (datas_of l n) →
        cond x (word_in image (member_block w n (suc k / POINTERS)) (table_word (suc k))) 0 ≡ slice_index (datas_of l n) (suc k)
    next_agrees n k a i h bytes d f ff c true z u =
        let lt : suc k < data_count image (node_block w n) = ltb-true (suc k) (data_count image (node_block w n)) z in
        let m = table_there n k a i h (suc k / POINTERS) d f (omega (arith, lt, c, ff.enough)) in
        let e = at_some (datas_of l n) (suc k) (omega (arith, lt, c, ff.datas)) in
        ap (λ b. word_in image b (table_word (suc k))) (member_is image (of_walk image v) n (suc k / POINTERS) m.0 m.1)
        ∙ ff.named (suc k) e.0 m.0 e.1 (member_agrees n (suc k / POINTERS) m.0 m.1)
        ∙ sym (at_index (datas_of l n) (suc k) e.0 e.1)
    next_agrees n k a i h bytes d f ff c false z u = grind (arith, common_steps, index_past, ltb-false)

    head_form : (n p s j a i b : ℕ) → IsDue image w (Head n p s j) a i → LayoutHasBy letters image t l (Head n p s j) b
        → AllHold (form_demands_by letters image w (Head n p s j) b)
    head_form n p s j a i b d h =
        let e = entry_at letters t p s j n h.0 in
        let ef = fit.entries n e.entry e.at in
        let u : n ≡ suc (heads w) = asks_number image w n p s j a i d.asked in
        let up = (ordered t fit.tree).parents n e.entry e.at in
        let q : ℕ = e.entry.parent in
        let u1 : q < n = up.0 in
        let dir = has_dir q (omega arith) up.1 in
        let z : at_node image l q ≡ node_block w p =
        sym (node_is image (of_walk image v) q (at_node image l q) (dir_is_node image w q (at_node image l q) dir)) ∙ ap (node_block w) e.parent in
        rw (← fit.kind, ← h.1, ← e.slot, ← z) ef.form

    ext_form : (n k a i b : ℕ) → IsDue image w (Ext n (suc k)) a i → At (exts_of l n) k b → AllHold (ext_demands image b (node_block w n))
    ext_form n k a i b d h =
        let f = asked_file image (of_walk image v) n (suc k) a i d.asked in
        let g = file_agrees n f.0 f.1 in
        let ff = fit_file g.file in
        let z : at_node image l n ≡ node_block w n = g.block ∙ sym (file_is image w n f.0 v f.1) in
        subst (λ h. AllHold (ext_demands image b h)) z (ff.ext_form k b h)

    data_form : (n k a i b : ℕ) → IsDue image w (Data n (suc k)) a i → At (datas_of l n) k b
        → AllHold (form_demands_by letters image w (Data n (suc k)) b)
    data_form n k a i b d h =
        let f = d.asked.0 in
        let g = file_agrees n f.0 f.1 in
        let ff = fit_file g.file in
        let z0 : f.0 ≡ node_block w n = sym (file_is image w n f.0 v f.1) in
        let z : at_node image l n ≡ node_block w n = g.block ∙ z0 in
        let c : count t.kind (length g.file.bytes) ≡ data_count image (node_block w n) = g.count ∙ ap (data_count image) z0 in
        let size : length g.file.bytes ≡ word_in image (node_block w n) SIZE = g.long ∙ ap (λ h. word_in image h SIZE) z0 in
        let next : next_data image w n (suc k) ≡ slice_index (datas_of l n) (suc k) =
        next_agrees n k a i f.0 g.file.bytes d f.1 ff c (nat_lt (suc k) (data_count image (node_block w n))) refl (at_below (datas_of l n) k b h) in
        rw (next, ← size, ← fit.kind, ← z) (ff.data_form k b h)

    form_due : (r : Role) (a i b : ℕ) → IsDue image w r a i → LayoutHasBy letters image t l r b → AllHold (form_demands_by letters image w r b)
    form_due (Page k) a i b d h = fit.page_form k b h
    form_due (Head n p s j) a i b d h = head_form n p s j a i b d h
    form_due (Ext n zero) a i b d h = absurd h
    form_due (Ext n (suc k)) a i b d h = ext_form n k a i b d h
    form_due (Data n zero) a i b d h = absurd h
    form_due (Data n (suc k)) a i b d h = data_form n k a i b d h
    form_due _ a i b d h = tt

    new_due : (r : Role) (a i b : ℕ) → IsDue image w r a i → LayoutHasBy letters image t l r b → NewNameBy letters image w r b
    new_due (Head n p s j) a i b d h = λ m k c has eq.
        let u : n ≡ suc (heads w) = asks_number image w n p s j a i d.asked in
        let pt = ag (Head m p s k) c has in
        let nb : (1 ≤ m) × (m ≤ heads w) = number_of image v (head_at m p s k c has) in
        let e = entry_at letters t p s j n h.0 in
        let f = entry_at letters t p s k m pt.0 in
        let ne : n ≢ m = omega arith in
        (ordered t fit.tree).names n m e.entry f.entry e.at f.at ne (e.parent ∙ sym f.parent)
        (ap (uppers_by letters) ((fit.entries n e.entry e.at).name ∙ ap (name_of image) h.1) ∙ sym eq
        ∙ sym (ap (uppers_by letters) ((fit.entries m f.entry f.at).name ∙ ap (name_of image) pt.1)))
    new_due _ a i b d h = tt

    -- agreement, one step: what is due has no cause
    due_fine : (r : Role) (a i : ℕ) → IsDue image w r a i → NoCauseBy letters image w r a (word_in image a i)
    due_fine r a i d =
        let b : ℕ = word_in image a i in
        let p = due_part r a i d in (
          enough_due r a i d,
          (
            part_range image t l fit r b p,
            (
              (λ q h. let e : q ≡ r = one_part image t l fit q r b (ag q b h) p in d.lacks q b h (same_of q r e)),
              all_append (form_demands_by letters image w r b) _ (form_due r a i b d p) (new_due r a i b d p, tt),
            ),
          ),
        )

  -- agreement: each role and block of a walk is a part
  agrees : {w : Walk} → IsWalkBy letters image w → (r : Role) (b : ℕ) → Has w r b → LayoutHasBy letters image t l r b
  agrees start r b (inl e) = subst (λ r. LayoutHasBy letters image t l r b) e.0 e.1
  agrees start r b (inr h) = absurd h
  agrees (step {w = w} {r = q} {a = a} {i = i} v d e c) r b (inl h) = grind (arith, common_steps, due_part, agrees v)
  agrees (step v d e c) r b (inr h) = agrees v r b h

  pub agreement : (w : Walk) (r : Role) (b : ℕ) → IsWalkBy letters image w → Has w r b → LayoutHasBy letters image t l r b
  agreement w r b v h = agrees v r b h

  pub due_is_part : (w : Walk) (r : Role) (a i : ℕ) → IsWalkBy letters image w → IsDue image w r a i
      → LayoutHasBy letters image t l r (word_in image a i) × NoCauseBy letters image w r a (word_in image a i)
  due_is_part w r a i v d = (due_part w v (agrees v) r a i d, due_fine w v (agrees v) r a i d)
