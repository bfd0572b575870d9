-- Completeness: if a tree and a layout fit, a walk that asks for nothing more has all their parts.
use Rattle.std.proofs.Common.{◌≡◌, ℕ, zero, suc, List, ◌+◌, ◌*◌, ◌/◌, ◌<◌, ◌≤◌, length, refl, sym, subst, ◌∙◌, arith}
use Rattle.std.proofs.lemmas.Grind.{common_steps}
use Rattle.adf_blocks.specs.declared.layout.TheConstants.{EXTENSION, FIRST_MAP_EXT, MAP_EXT_NEXT, MAP_EXT_PAGES, POINTERS, ROOT_PAGES, SECONDARY_TYPE, ST_FILE}
use Rattle.adf_volume.specs.{Lists.At, Image.root_of, Image.word_in, Image.table_word, Fits.FitsBy, Fits.BodyFits, LayoutRoles.LayoutHasBy}
use Rattle.adf_blocks.specs.Sizes.{blocks, pages_needed}
use Rattle.adf_base.specs.{Hash.slot_by, declared.hash.Letters.Letters}
use Rattle.adf_tree.specs.declared.entry.Body.{Body, TheVariants.Dir, TheVariants.File}
use Rattle.adf_tree.specs.{declared.entry.Entry.Entry, Tree.Tree}
use Rattle.adf_volume.specs.Layout.{EntryAt, Layout, at_node, exts_of, datas_of}
use Rattle.adf_volume.specs.Walk.{Role, Has, heads, FileAt, MemberAt, data_count, IsWalkBy, IsWhole, Walk}
use Rattle.adf_volume.specs.Walk.Role.{Root, Page, MapExt, Head, Ext, Data}
use Rattle.adf_volume.proofs.{Gathered.root_in, Lists.at_fun, Lists.at_below, Lists.at_some, Lists.at_before, Lists.spelled_word, Lists.spelled_link}
use Rattle.adf_volume.proofs.{Chains.entry_at, Chains.entry_below, Chains.entry_some, Chains.place_at, Walks.numbered, Walks.page_word, Walks.asked_block}
use Rattle.adf_volume.proofs.{Walks.of_walk, Images.map_exts_high, Images.map_exts_low, LayoutRoles.part_range, Roles.head_role, Places.datas_below}
use Rattle.adf_volume.proofs.WalkAgreement.{next_lacks, agreement, file_agrees, fit_file, has_head, has_node, asks_next, is_file}

file_word : (image : List ℕ) (t : Tree) (l : Layout) (n : ℕ) (e : Entry) (b : Body) (bytes : List ℕ) → b ≡ e.body
    → BodyFits image t.kind l n (at_node image l n) b → e.body ≡ File bytes → word_in image (at_node image l n) SECONDARY_TYPE ≡ ST_FILE
file_word image t l n e Dir bytes z f d = let k : Dir ≡ File bytes = z ∙ d in cc
file_word image t l n e (File x) bytes z f d = f.0

no_datas : (image : List ℕ) (t : Tree) (l : Layout) (n : ℕ) (e : Entry) (b : Body) (k x : ℕ) → b ≡ e.body
    → BodyFits image t.kind l n (at_node image l n) b → At (datas_of l n) k x → (bytes : List ℕ) × (e.body ≡ File bytes)
no_datas image t l n e Dir k x z f a = absurd (subst (λ xs. At xs k x) f.2 a)
no_datas image t l n e (File bytes) k x z f a = (bytes, sym z)

module _ {letters : Letters} (image : List ℕ) (t : Tree) (l : Layout) (fit : FitsBy letters image t l) (w : Walk) (v : IsWalkBy letters image w)
    (whole : IsWhole image w) where
  ag : (r : Role) (b : ℕ) → Has w r b → LayoutHasBy letters image t l r b
  ag r b h = agreement image t l fit w r b v h

  -- the walk has as many headers as the tree has entries
  all_heads : length t.entries ≤ heads w
  all_heads =
      let n : ℕ = suc (heads w) in
      let more : heads w < length t.entries → ⊥ = (λ y.
      let e = entry_some t n (omega arith) (omega arith) in
      let q = place_at letters t n e.0 e.1 in
      let ask = asks_next image t l fit w v ag e.0.parent (slot_by letters e.0.name) q.0 n q.1 refl in
      whole (Head n e.0.parent (slot_by letters e.0.name) q.0) ask.0 ask.1 ask.2
      (next_lacks image t l fit w v ag e.0.parent (slot_by letters e.0.name) q.0 n q.1 refl)) in
      omega arith

  has_file : (n : ℕ) (e : Entry) (bytes : List ℕ) → EntryAt t n e → e.body ≡ File bytes → FileAt image w n (at_node image l n)
  has_file n e bytes h f = grind (arith, common_steps, entry_below, all_heads, has_head, ag, file_word)

  -- what the walk has at a place of a list of the layout is what the layout has there
  at_its_block : (r : Role) (xs : List ℕ) (k c b : ℕ) → Has w r c → At xs k c → At xs k b → Has w r b
  at_its_block r xs k c b h there here = subst (Has w r) (at_fun xs k c b there here) h

  all_exts : (n k b : ℕ) → At (exts_of l n) k b → Has w (Ext n (suc k)) b
  all_exts n zero b h =
      let g = is_file image t l fit w v ag n 0 b h in
      let ff = fit_file image t l fit g in
      let rg : 2 ≤ b = (part_range image t l fit (Ext n 1) b h).0 in
      let y : word_in image (at_node image l n) EXTENSION ≡ b =
      spelled_word (λ b. word_in image b EXTENSION) (word_in image (at_node image l n) EXTENSION) (exts_of l n) b ff.exts h in
      let x = asked_block image w whole (Ext n 1) (at_node image l n) EXTENSION
      (has_file n g.entry g.bytes g.at g.body, refl, (λ z. let o : b ≡ 0 = sym y ∙ z in omega arith)) (omega arith) in
      at_its_block (Ext n 1) (exts_of l n) 0 x.0 b x.1 (ag (Ext n 1) x.0 x.1) h
  all_exts n (suc k) b h =
      let c = at_before (exts_of l n) k b h in
      let hc : Has w (Ext n (suc k)) c.0 = all_exts n k c.0 c.1 in
      let ff = fit_file image t l fit (is_file image t l fit w v ag n (suc k) b h) in
      let rg : 2 ≤ b = (part_range image t l fit (Ext n (suc (suc k))) b h).0 in
      let y : word_in image c.0 EXTENSION ≡ b =
      spelled_link (λ b. word_in image b EXTENSION) (word_in image (at_node image l n) EXTENSION) (exts_of l n) k c.0 b ff.exts c.1 h in
      let x = asked_block image w whole (Ext n (suc (suc k))) c.0 EXTENSION (hc, refl, (λ z. let o : b ≡ 0 = sym y ∙ z in omega arith))
      (omega arith) in
      subst (Has w (Ext n (suc (suc k)))) (at_fun (exts_of l n) (suc k) x.0 b (ag (Ext n (suc (suc k))) x.0 x.1) h) x.1

  all_datas : (n k b : ℕ) → At (datas_of l n) k b → Has w (Data n (suc k)) b
  all_datas zero k b h = absurd h
  all_datas (suc i) k b h =
      let n : ℕ = suc i in
      let pl : length l.places ≡ length t.entries = fit.places in
      let lt : i < length l.places = datas_below l.places i k b h in
      let e = entry_some t n (omega arith) (omega arith) in
      let g = no_datas image t l n e.0 e.0.body k b refl (fit.entries n e.0 e.1).body h in
      let fl = has_file n e.0 g.0 e.1 g.1 in
      let fa = file_agrees image t l fit w v ag n (at_node image l n) fl in
      let ff = fit_file image t l fit fa.file in
      let inside : k < data_count image (at_node image l n) = omega (arith, fa.count, ff.datas, at_below (datas_of l n) k b h) in
      let m = table (k / POINTERS) (omega (arith, fa.count, ff.enough)) fl in
      let x = asked_block image w whole (Data n (suc k)) m.0 (table_word k) ((at_node image l n, fl, inside), m.1, refl) (omega arith) in
      at_its_block (Data n (suc k)) (datas_of l n) k x.0 b x.1 (ag (Data n (suc k)) x.0 x.1) h
    where
      table : (m : ℕ) → m ≤ length (exts_of l (suc i)) → FileAt image w (suc i) (at_node image l (suc i)) → (a : ℕ) × MemberAt image w (suc i) m a
      table zero u f = (at_node image l (suc i), f)
      table (suc m) u f = let e = at_some (exts_of l (suc i)) m (omega arith) in (e.0, all_exts (suc i) m e.0 e.1)

  all_map_exts : (j b : ℕ) → At l.map_exts j b → Has w (MapExt j) b
  all_map_exts zero b h =
      let lt = map_exts_low (pages_needed (blocks image)) 0 (omega (arith, at_below l.map_exts 0 b h, fit.map_exts)) in
      let x = asked_block image w whole (MapExt 0) (root_of image) FIRST_MAP_EXT (lt, refl, refl) (omega arith) in
      at_its_block (MapExt 0) l.map_exts 0 x.0 b x.1 (ag (MapExt 0) x.0 x.1) h
  all_map_exts (suc j) b h =
      let lt = map_exts_low (pages_needed (blocks image)) (suc j) (omega (arith, at_below l.map_exts (suc j) b h, fit.map_exts)) in
      let c = at_before l.map_exts j b h in
      let x = asked_block image w whole (MapExt (suc j)) c.0 MAP_EXT_NEXT (lt, all_map_exts j c.0 c.1, refl) (omega arith) in
      at_its_block (MapExt (suc j)) l.map_exts (suc j) x.0 b x.1 (ag (MapExt (suc j)) x.0 x.1) h

  some_map_ext : (j : ℕ) → ROOT_PAGES + MAP_EXT_PAGES * j < pages_needed (blocks image) → (a : ℕ) × Has w (MapExt j) a
  some_map_ext j lt =
      let b = at_some l.map_exts j (omega (arith, fit.map_exts, map_exts_high (pages_needed (blocks image)) j lt)) in
      (b.0, all_map_exts j b.0 b.1)

  -- completeness: each part is in the walk
  pub part_walked : (r : Role) (b : ℕ) → LayoutHasBy letters image t l r b → Has w r b
  part_walked Root b h = subst (Has w Root) h (root_in image (of_walk image v))
  part_walked (Page k) b h =
      let u : k < length l.pages = at_below l.pages k b h in
      let p : length l.pages ≡ pages_needed (blocks image) = fit.pages in
      let m = page_word image w k (omega arith) (λ j y. some_map_ext j (omega arith)) in
      let x = asked_block image w whole (Page k) m.0 m.1 m.2 (omega arith) in
      at_its_block (Page k) l.pages k x.0 b x.1 (ag (Page k) x.0 x.1) h
  part_walked (MapExt j) b h = all_map_exts j b h
  part_walked (Head n p s j) b h =
      let e = entry_at letters t p s j n h.0 in
      let u : n ≤ length t.entries = entry_below t n e.entry e.at in
      let a = all_heads in
      let k = has_node image t l fit w v ag p s j n h.0 (omega arith) in
      subst (Has w (Head n p s j)) (sym (ag (Head n p s j) k.0 k.1).1 ∙ h.1) k.1
  part_walked (Ext n zero) b h = absurd h
  part_walked (Ext n (suc k)) b h = all_exts n k b h
  part_walked (Data n zero) b h = absurd h
  part_walked (Data n (suc k)) b h = all_datas n k b h

  pub heads_walked : length t.entries ≡ heads w
  heads_walked = at_least (heads w) refl
    where
      at_least : (n : ℕ) → heads w ≡ n → length t.entries ≡ heads w
      at_least zero z = let a = all_heads in omega arith
      at_least (suc m) z =
          let a = all_heads in
          let k = numbered image v (suc m) (omega arith) (omega arith) in
          let pt = ag (head_role k.1) k.0 k.1.has in
          let e = entry_at letters t k.1.parent k.1.slot k.1.place (suc m) pt.0 in
          let u : suc m ≤ length t.entries = entry_below t (suc m) e.entry e.at in
          omega arith
