-- Two trees with layouts that fit the same image are equal.
use Rattle.std.proofs.Common.{◌≡◌, ℕ, suc, List, ◌<◌, length, refl, sym, ap, subst, ◌∙◌, arith}
use Rattle.std.proofs.lemmas.Grind.{common_steps}
use Rattle.adf_blocks.specs.declared.layout.TheConstants.{SECONDARY_TYPE, ST_DIR, ST_FILE}
use Rattle.adf_volume.specs.{Lists.At, Image.name_of, Image.word_in, Image.meta_of, Fits.FitsBy, Fits.BodyFits, LayoutRoles.LayoutHasBy}
use Rattle.adf_base.specs.{Hash.slot_by, declared.hash.Letters.Letters}
use Rattle.adf_tree.specs.declared.entry.Body.{Body, TheVariants.Dir, TheVariants.File}
use Rattle.adf_tree.specs.{declared.entry.Entry.Entry, Tree.Tree}
use Rattle.adf_volume.specs.Layout.{EntryAt, Place, Layout, at_node, exts_of, datas_of}
use Rattle.adf_volume.specs.Walk.{Role, heads, IsWalkBy, IsWhole, Walk, Role.Page, Role.MapExt, Role.Head, Role.Ext, Role.Data}
use Rattle.adf_volume.proofs.{Lists.at_below, Lists.at_some, Lists.same_list, Chains.entry_at, Chains.entry_some, Chains.place_at, WalkAgreement.agreement}
use Rattle.adf_volume.proofs.{WalkCompleteness.part_walked, WalkCompleteness.heads_walked, Places.place_parts}

same_entry : (e f : Entry) → e.parent ≡ f.parent → e.name ≡ f.name → e.meta ≡ f.meta → e.body ≡ f.body → e ≡ f
same_entry e f a b c d = λ i. record { parent = a i; name = b i; meta = c i; body = d i }

same_place : (q r : Place) → q.head ≡ r.head → q.exts ≡ r.exts → q.datas ≡ r.datas → q ≡ r
same_place q r a b c = λ i. record { head = a i; exts = b i; datas = c i }

module _ {letters : Letters} (image : List ℕ) (w : Walk) (v : IsWalkBy letters image w) (whole : IsWhole image w)
    (t : Tree) (l : Layout) (fit : FitsBy letters image t l) (u : Tree) (m : Layout) (fit' : FitsBy letters image u m) where
  carry : (r : Role) (b : ℕ) → LayoutHasBy letters image t l r b → LayoutHasBy letters image u m r b
  carry r b h = agreement image u m fit' w r b v (part_walked image t l fit w v whole r b h)

  back : (r : Role) (b : ℕ) → LayoutHasBy letters image u m r b → LayoutHasBy letters image t l r b
  back r b h = agreement image t l fit w r b v (part_walked image u m fit' w v whole r b h)

  same_kind : t.kind ≡ u.kind
  same_kind = fit.kind ∙ sym fit'.kind

  same_exts : (n : ℕ) → exts_of l n ≡ exts_of m n
  same_exts n = same_list (exts_of l n) (exts_of m n) (λ k b h. carry (Ext n (suc k)) b h) (λ k b h. back (Ext n (suc k)) b h)

  same_datas : (n : ℕ) → datas_of l n ≡ datas_of m n
  same_datas n = same_list (datas_of l n) (datas_of m n) (λ k b h. carry (Data n (suc k)) b h) (λ k b h. back (Data n (suc k)) b h)

  pub same_pages : l.pages ≡ m.pages
  same_pages = same_list l.pages m.pages (λ k b h. carry (Page k) b h) (λ k b h. back (Page k) b h)

  pub same_map_exts : l.map_exts ≡ m.map_exts
  same_map_exts = same_list l.map_exts m.map_exts (λ j b h. carry (MapExt j) b h) (λ j b h. back (MapExt j) b h)

  same_body : (n h h' : ℕ) (a b : Body) → h ≡ h' → BodyFits image t.kind l n h a → BodyFits image u.kind m n h' b → a ≡ b
  same_body n h h' Dir Dir z f g = refl
  same_body n h h' Dir (File ys) z f g = absurd (let e : ST_DIR ≡ ST_FILE = sym f.0 ∙ ap (λ h. word_in image h SECONDARY_TYPE) z ∙ g.0 in omega arith)
  same_body n h h' (File xs) Dir z f g = grind (arith, common_steps)
  same_body n h h' (File xs) (File ys) z f g = grind (arith, common_steps, same_kind, same_datas)

  pub same_head_block : (n : ℕ) (e : Entry) → EntryAt t n e → at_node image l n ≡ at_node image m n
  same_head_block n e h =
      let q = place_at letters t n e h in
      sym (carry (Head n e.parent (slot_by letters e.name) q.0) (at_node image l n) (q.1, refl)).1

  pub entry_carried : (n : ℕ) (e : Entry) → EntryAt t n e → EntryAt u n e
  entry_carried n e h =
      let q = place_at letters t n e h in
      let pt = carry (Head n e.parent (slot_by letters e.name) q.0) (at_node image l n) (q.1, refl) in
      let f = entry_at letters u e.parent (slot_by letters e.name) q.0 n pt.0 in
      let ef = fit.entries n e h in
      let ff = fit'.entries n f.entry f.at in
      let z : at_node image l n ≡ at_node image m n = sym pt.1 in
      let same : e ≡ f.entry =
      same_entry e f.entry (sym f.parent) (ef.name ∙ ap (name_of image) z ∙ sym ff.name) (ef.meta ∙ ap (meta_of image) z ∙ sym ff.meta)
      (same_body n (at_node image l n) (at_node image m n) e.body f.entry.body z ef.body ff.body) in
      subst (EntryAt u n) (sym same) f.at

  pub place_carried : (i : ℕ) (q : Place) → At l.places i q → At m.places i q
  place_carried i q h =
      let lt : i < length l.places = at_below l.places i q h in
      let p1 : length l.places ≡ length t.entries = fit.places in
      let p2 : length m.places ≡ length u.entries = fit'.places in
      let h1 : length t.entries ≡ heads w = heads_walked image t l fit w v whole in
      let h2 : length u.entries ≡ heads w = heads_walked image u m fit' w v whole in
      let r = at_some m.places i (omega arith) in
      let e = entry_some t (suc i) (omega arith) (omega arith) in
      let a = place_parts l.places i q h in
      let b = place_parts m.places i r.0 r.1 in
      let same : q ≡ r.0 = same_place q r.0 (sym a.0 ∙ same_head_block (suc i) e.0 e.1 ∙ b.0) (sym a.1 ∙ same_exts (suc i) ∙ b.1)
      (sym a.2 ∙ same_datas (suc i) ∙ b.2) in
      subst (At m.places i) (sym same) r.1

same_tree : (t u : Tree) → t.kind ≡ u.kind → t.letters ≡ u.letters → t.label ≡ u.label → t.stamps ≡ u.stamps → t.entries ≡ u.entries → t ≡ u
same_tree t u a b c d e = λ i. record { kind = a i; letters = b i; label = c i; stamps = d i; entries = e i }

same_layout : (l m : Layout) → l.pages ≡ m.pages → l.map_exts ≡ m.map_exts → l.places ≡ m.places → l ≡ m
same_layout l m a b c = λ i. record { pages = a i; map_exts = b i; places = c i }

-- one image, one tree
pub one_tree : {letters : Letters} (image : List ℕ) (w : Walk) (t u : Tree) (l m : Layout) → IsWalkBy letters image w → IsWhole image w
    → FitsBy letters image t l → FitsBy letters image u m → (t ≡ u) × (l ≡ m)
one_tree image w t u l m v whole f g = (
  same_tree t u (f.kind ∙ sym g.kind) (f.letters ∙ sym g.letters) (f.label ∙ sym g.label) (f.stamps ∙ sym g.stamps)
      (same_list t.entries u.entries (λ i e h. entry_carried image w v whole t l f u m g (suc i) e h)
      (λ i e h. entry_carried image w v whole u m g t l f (suc i) e h)),
  same_layout l m (same_pages image w v whole t l f u m g) (same_map_exts image w v whole t l f u m g)
      (same_list l.places m.places (λ i q h. place_carried image w v whole t l f u m g i q h)
      (λ i q h. place_carried image w v whole u m g t l f i q h)),
)
