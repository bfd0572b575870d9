-- The parts of a volume that a tree and a layout fit.
use Rattle.std.proofs.Common.{◌≡◌, ℕ, zero, suc, List, [], ◌∷◌, ◌++◌, inl, inr, ◌+◌, ◌<◌, ◌≤◌, length, refl, sym, ap, subst, ◌∙◌, arith}
use Rattle.std.proofs.lemmas.Grind.{common_steps}
use Rattle.adf_volume.specs.{Lists.At, Lists.In, Lists.numbered, declared.owner.Owner.Owner, Fits.FitsBy, LayoutRoles.owner_of, LayoutRoles.LayoutHasBy}
use Rattle.adf_blocks.specs.Sizes.{blocks}
use Rattle.adf_base.specs.{Hash.slot_by, declared.hash.Letters.Letters}
use Rattle.adf_tree.specs.Tree.{Tree}
use Rattle.adf_volume.specs.Layout.{Place, Layout, head_at, exts_at, datas_at, owned_from, owned}
use Rattle.adf_volume.specs.declared.owner.Owner.TheVariants.{Root as TheRoot, Page as APage, MapExt as AMapExt, Head as AHead, Ext as AnExt, Data as AData}
use Rattle.adf_volume.specs.Walk.{Role, Role.Root, Role.Page, Role.MapExt, Role.Head, Role.Ext, Role.Data}
use Rattle.adf_volume.proofs.Lists.{in_left, in_right, in_numbered, one_member, in_cases, numbered_at}
use Rattle.adf_volume.proofs.Chains.{entry_at, entry_below, entry_some, place_at, one_place}

-- what a later place owns is owned
owned_later : (n : ℕ) (q : Place) (qs : List Place) (o : ℕ → Owner) (i b : ℕ) → In (owned_from (suc n) qs) (o (suc n + i), b)
    → In (owned_from n (q ∷ qs)) (o (n + suc i), b)
owned_later n q qs o i b h = grind (arith, common_steps, in_right)

-- the blocks behind a header are owned
owned_here : (n : ℕ) (q : Place) (qs : List Place) (o : ℕ → ℕ → Owner) (k b : ℕ)
    → In (numbered (AnExt n) 1 q.exts ++ numbered (AData n) 1 q.datas) (o n (1 + k), b) → In (owned_from n (q ∷ qs)) (o (n + 0) (suc k), b)
owned_here n q qs o k b h = grind (arith, common_steps, in_left)

pub owned_head : (n : ℕ) (qs : List Place) (i : ℕ) → i < length qs → In (owned_from n qs) (AHead (n + i), head_at qs i)
owned_head n [] i h = absurd (omega arith)
owned_head n (q ∷ qs) zero h = grind (arith, common_steps)
owned_head n (q ∷ qs) (suc i) h = owned_later n q qs AHead i (head_at qs i) (owned_head (suc n) qs i (omega arith))

pub owned_ext : (n : ℕ) (qs : List Place) (i k b : ℕ) → At (exts_at qs i) k b → In (owned_from n qs) (AnExt (n + i) (suc k), b)
owned_ext n [] i k b h = absurd h
owned_ext n (q ∷ qs) zero k b h = grind (arith, common_steps, in_numbered (AnExt n) 1 q.exts k b h, owned_here, in_left)
owned_ext n (q ∷ qs) (suc i) k b h = owned_later n q qs (λ m. AnExt m (suc k)) i b (owned_ext (suc n) qs i k b h)

pub owned_data : (n : ℕ) (qs : List Place) (i k b : ℕ) → At (datas_at qs i) k b → In (owned_from n qs) (AData (n + i) (suc k), b)
owned_data n [] i k b h = absurd h
owned_data n (q ∷ qs) zero k b h =
    owned_here n q qs AData k b
    (in_right (numbered (AnExt n) 1 q.exts) (numbered (AData n) 1 q.datas) (AData n (1 + k), b) (in_numbered (AData n) 1 q.datas k b h))
owned_data n (q ∷ qs) (suc i) k b h = owned_later n q qs (λ m. AData m (suc k)) i b (owned_data (suc n) qs i k b h)

-- where a member stands
pub data Stands (n : ℕ) (qs : List Place) (o : Owner) (b : ℕ) : Type 0 where
  in_head : (i : ℕ) → i < length qs → head_at qs i ≡ b → o ≡ AHead (n + i) → Stands n qs o b
  in_ext : (i k : ℕ) → At (exts_at qs i) k b → o ≡ AnExt (n + i) (suc k) → Stands n qs o b
  in_data : (i k : ℕ) → At (datas_at qs i) k b → o ≡ AData (n + i) (suc k) → Stands n qs o b

later : (n : ℕ) (q : Place) (qs : List Place) (o : Owner) (b : ℕ) → Stands (suc n) qs o b → Stands n (q ∷ qs) o b
later n q qs o b (in_head i h e z) = let y : suc n + i ≡ n + suc i = omega arith in in_head (suc i) (omega arith) e (z ∙ ap AHead y)
later n q qs o b (in_ext i k h z) = let y : suc n + i ≡ n + suc i = omega arith in in_ext (suc i) k h (z ∙ ap (λ m. AnExt m (suc k)) y)
later n q qs o b (in_data i k h z) = let y : suc n + i ≡ n + suc i = omega arith in in_data (suc i) k h (z ∙ ap (λ m. AData m (suc k)) y)

pub owned_stands : (n : ℕ) (qs : List Place) (o : Owner) (b : ℕ) → In (owned_from n qs) (o, b) → Stands n qs o b
owned_stands n [] o b h = absurd h
owned_stands n (q ∷ qs) o b (inl e) =
    let z : n ≡ n + 0 = omega arith in in_head 0 (omega arith) (ap (λ p. p.1) e) (sym (ap (λ p. p.0) e) ∙ ap AHead z)
owned_stands n (q ∷ qs) o b (inr h) =
    let z : n ≡ n + 0 = omega arith in
    elim (in_cases (numbered (AnExt n) 1 q.exts ++ numbered (AData n) 1 q.datas) (owned_from (suc n) qs) (o, b) h) [
      | inl g ↦ elim (in_cases (numbered (AnExt n) 1 q.exts) (numbered (AData n) 1 q.datas) (o, b) g) [
        | inl f ↦
            let r = numbered_at (AnExt n) 1 q.exts o b f in
            let y : 1 + r.0 ≡ suc r.0 = omega arith in in_ext 0 r.0 r.1 (r.2 ∙ ap (AnExt n) y ∙ ap (λ m. AnExt m (suc r.0)) z)
        | inr f ↦
            let r = numbered_at (AData n) 1 q.datas o b f in
            let y : 1 + r.0 ≡ suc r.0 = omega arith in in_data 0 r.0 r.1 (r.2 ∙ ap (AData n) y ∙ ap (λ m. AData m (suc r.0)) z)
      ]
      | inr g ↦ later n q qs o b (owned_stands (suc n) qs o b g)
    ]

places_owned : (image : List ℕ) (l : Layout) (o : Owner) (b : ℕ) → In (owned_from 1 l.places) (o, b) → In (owned image l) (o, b)
places_owned image l o b h = grind (arith, common_steps, in_right)

-- each entry has its place
module _ (letters : Letters) (image : List ℕ) (t : Tree) (l : Layout) (long : length l.places ≡ length t.entries) where
  pub part_owned : (r : Role) (b : ℕ) → LayoutHasBy letters image t l r b → In (owned image l) (owner_of r, b)
  part_owned Root b h = inl (λ i. (TheRoot, h i))
  part_owned (Page k) b h =
      let z : 0 + k ≡ k = omega arith in
      inr (in_left (numbered APage 0 l.pages) (numbered AMapExt 0 l.map_exts ++ owned_from 1 l.places) (APage k, b)
      (subst (λ k. In (numbered APage 0 l.pages) (APage k, b)) z (in_numbered APage 0 l.pages k b h)))
  part_owned (MapExt k) b h =
      let z : 0 + k ≡ k = omega arith in
      inr (in_right (numbered APage 0 l.pages) (numbered AMapExt 0 l.map_exts ++ owned_from 1 l.places) (AMapExt k, b)
      (in_left (numbered AMapExt 0 l.map_exts) (owned_from 1 l.places) (AMapExt k, b)
      (subst (λ k. In (numbered AMapExt 0 l.map_exts) (AMapExt k, b)) z (in_numbered AMapExt 0 l.map_exts k b h))))
  part_owned (Head zero p s j) b h = absurd (entry_at letters t p s j 0 h.0).at
  part_owned (Head (suc i) p s j) b h =
      let e = entry_at letters t p s j (suc i) h.0 in
      let k : suc i ≤ length t.entries = entry_below t (suc i) e.entry e.at in
      let z : 1 + i ≡ suc i = omega arith in
      places_owned image l (AHead (suc i)) b (subst (λ b. In (owned_from 1 l.places) (AHead (suc i), b)) h.1
      (subst (λ m. In (owned_from 1 l.places) (AHead m, head_at l.places i)) z (owned_head 1 l.places i (omega arith))))
  part_owned (Ext n zero) b h = absurd h
  part_owned (Ext zero (suc k)) b h = absurd h
  part_owned (Ext (suc i) (suc k)) b h = grind (arith, common_steps, owned_ext 1 l.places i k b h, places_owned)
  part_owned (Data n zero) b h = absurd h
  part_owned (Data zero (suc k)) b h = absurd h
  part_owned (Data (suc i) (suc k)) b h = grind (arith, common_steps, owned_data 1 l.places i k b h, places_owned)

  -- each member is a part
  pub owned_part : (o : Owner) (b : ℕ) → In (owned image l) (o, b) → (r : Role) × LayoutHasBy letters image t l r b × (o ≡ owner_of r)
  owned_part o b (inl e) = (Root, ap (λ p. p.1) e, sym (ap (λ p. p.0) e))
  owned_part o b (inr h) =
      elim (in_cases (numbered APage 0 l.pages) (numbered AMapExt 0 l.map_exts ++ owned_from 1 l.places) (o, b) h) [
        | inl g ↦ let r = numbered_at APage 0 l.pages o b g in let y : 0 + r.0 ≡ r.0 = omega arith in (Page r.0, r.1, r.2 ∙ ap APage y)
        | inr g ↦ elim (in_cases (numbered AMapExt 0 l.map_exts) (owned_from 1 l.places) (o, b) g) [
          | inl f ↦ let r = numbered_at AMapExt 0 l.map_exts o b f in let y : 0 + r.0 ≡ r.0 = omega arith in (MapExt r.0, r.1, r.2 ∙ ap AMapExt y)
          | inr f ↦ stands (owned_stands 1 l.places o b f)
        ]
      ]
    where
      stands : Stands 1 l.places o b → (r : Role) × LayoutHasBy letters image t l r b × (o ≡ owner_of r)
      stands (in_head i u e z) =
          let x = entry_some t (suc i) (omega arith) (omega arith) in
          let q = place_at letters t (suc i) x.0 x.1 in
          let y : 1 + i ≡ suc i = omega arith in
          (Head (suc i) x.0.parent (slot_by letters x.0.name) q.0, (q.1, e), z ∙ ap AHead y)
      stands (in_ext i k e z) = let y : 1 + i ≡ suc i = omega arith in (Ext (suc i) (suc k), e, z ∙ ap (λ m. AnExt m (suc k)) y)
      stands (in_data i k e z) = let y : 1 + i ≡ suc i = omega arith in (Data (suc i) (suc k), e, z ∙ ap (λ m. AData m (suc k)) y)

module _ {letters : Letters} (image : List ℕ) (t : Tree) (l : Layout) (fit : FitsBy letters image t l) where
  pub part_range : (r : Role) (b : ℕ) → LayoutHasBy letters image t l r b → (2 ≤ b) × (b < blocks image)
  part_range r b h = fit.range (owner_of r) b (part_owned letters image t l fit.places r b h)

  pub same_owner : (r q : Role) (b c : ℕ) → owner_of r ≡ owner_of q → LayoutHasBy letters image t l r b → LayoutHasBy letters image t l q c → r ≡ q
  same_owner Root Root b c e h k = refl
  same_owner (Page i) (Page j) b c e h k = cc
  same_owner (MapExt i) (MapExt j) b c e h k = cc
  same_owner (Head n p s j) (Head m q u i) b c e h k = grind (arith, common_steps, one_place letters)
  same_owner (Ext n j) (Ext m i) b c e h k = cc
  same_owner (Data n j) (Data m i) b c e h k = cc
  same_owner _ _ b c e h k = cc

  -- a block is one part
  pub one_part : (r q : Role) (b : ℕ) → LayoutHasBy letters image t l r b → LayoutHasBy letters image t l q b → r ≡ q
  one_part r q b h k = grind (arith, common_steps, same_owner, one_member, part_owned letters)
