-- The parts of a whole walk are those that its layout owns.
use Rattle.std.proofs.Common.{◌≡◌, ℕ, zero, suc, List, ◌<◌, length, sym, ap, subst, ◌∙◌, arith}
use Rattle.std.proofs.lemmas.Grind.{common_steps}
use Rattle.adf_base.specs.declared.hash.Letters.{Letters}
use Rattle.adf_volume.specs.{Lists.At, Lists.In, Lists.NoBlockTwice, Layout.datas_at, Layout.exts_at, Layout.owned, declared.owner.Owner.Owner, Made.datas_in}
use Rattle.adf_volume.specs.{Made.entries_in, Made.exts_in, Made.layout_in, Made.places_in, Made.tree_in_by, LayoutRoles.LayoutHasBy, LayoutRoles.owner_of}
use Rattle.adf_volume.specs.Walk.{Role, Has, IsWalkBy, IsWhole, Walk, Role.Root, Role.Page, Role.MapExt, Role.Head, Role.Ext, Role.Data}
use Rattle.adf_volume.proofs.{Gathered.root_in, Gathered.root_is, Roles.head_at, LayoutRoles.owned_part, LayoutRoles.part_owned, Owners.once_owned}
use Rattle.adf_volume.proofs.{Owners.blocks_once, MemberFacts.kept, WholeWalks.head_is, Places.exts_below, Places.datas_below}
use Rattle.adf_volume.proofs.Walks.{numbered as numbers, one_role, ext_file, of_walk}
use Rattle.adf_volume.proofs.WalkMembers.{chains, entries_length, places_length, ext_has, has_ext, data_has, has_data, pages, map_exts}

module _ {letters : Letters} (image : List ℕ) (w : Walk) (v : IsWalkBy letters image w) (whole : IsWhole image w) where
  long : length (places_in w w) ≡ length (entries_in image w w)
  long = places_length image w w ∙ sym (entries_length image w w)

  -- what the walk has is a part of its tree and layout
  has_part : (r : Role) (b : ℕ) → Has w r b → LayoutHasBy letters image (tree_in_by letters image w) (layout_in w) r b
  has_part Root b h = root_is image (of_walk image v) b h
  has_part (Page k) b h = (pages image v).to k b h
  has_part (MapExt k) b h = (map_exts image v).to k b h
  has_part (Head n p s j) b h = ((chains letters image w v).to n p s j b h, (head_is image w v whole (head_at n p s j b h)).0)
  has_part (Ext n zero) b h = kept image v (Ext n zero) b h
  has_part (Ext n (suc k)) b h =
      let f = ext_file image v n (suc k) b h in
      subst (λ xs. At xs k b) (sym (head_is image w v whole f.1.header).1) (ext_has image v n k b h)
  has_part (Data n zero) b h = kept image v (Data n zero) b h
  has_part (Data n (suc k)) b h =
      let f = kept image v (Data n (suc k)) b h in
      subst (λ xs. At xs k b) (sym (head_is image w v whole f.file.header).2) (data_has image w v n k b h)

  -- the blocks of a place are those of its file
  place_lists : (i : ℕ) → i < length (places_in w w)
      → (exts_at (places_in w w) i ≡ exts_in w (suc i)) × (datas_at (places_in w w) i ≡ datas_in w (suc i))
  place_lists i u =
      let l = places_length image w w in
      let x = numbers image v (suc i) (omega arith) (omega arith) in
      let y = head_is image w v whole x.1 in
      (y.1, y.2)

  -- each part is in the walk
  part_has : (r : Role) (b : ℕ) → LayoutHasBy letters image (tree_in_by letters image w) (layout_in w) r b → Has w r b
  part_has Root b h = subst (Has w Root) h (root_in image (of_walk image v))
  part_has (Page k) b h = (pages image v).from k b h
  part_has (MapExt k) b h = (map_exts image v).from k b h
  part_has (Head n p s j) b h =
      let x = (chains letters image w v).from n p s j h.0 in
      subst (Has w (Head n p s j)) (sym (head_is image w v whole (head_at n p s j x.0 x.1)).0 ∙ h.1) x.1
  part_has (Ext n zero) b h = absurd h
  part_has (Ext zero (suc k)) b h = absurd h
  part_has (Ext (suc i) (suc k)) b h = grind (arith, common_steps, has_ext, place_lists, exts_below)
  part_has (Data n zero) b h = absurd h
  part_has (Data zero (suc k)) b h = absurd h
  part_has (Data (suc i) (suc k)) b h =
      has_data image w v (suc i) k b (subst (λ xs. At xs k b) (place_lists i (datas_below (places_in w w) i k b h)).1 h)

  -- each member of the walk is owned, and each owned block is a member
  pub is_owned : (r : Role) (b : ℕ) → Has w r b → In (owned image (layout_in w)) (owner_of r, b)
  is_owned r b h = part_owned letters image (tree_in_by letters image w) (layout_in w) long r b (has_part r b h)

  pub owned_has : (o : Owner) (b : ℕ) → In (owned image (layout_in w)) (o, b) → (r : Role) × Has w r b × (o ≡ owner_of r)
  owned_has o b h = let r = owned_part letters image (tree_in_by letters image w) (layout_in w) long o b h in (r.0, part_has r.0 b r.1, r.2)

  pub once : NoBlockTwice (owned image (layout_in w))
  once = blocks_once (owned image (layout_in w)) (once_owned image (layout_in w))
      (λ x y b i j.
      let r = owned_has x b i in
      let s = owned_has y b j in
      r.2 ∙ ap owner_of (one_role image v r.0 s.0 b r.1 s.1) ∙ sym s.2)
