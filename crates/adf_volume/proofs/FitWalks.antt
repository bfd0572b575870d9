-- The whole walk of an image that a tree and a layout fit: each step takes what is due, so fewer roles remain.
use Rattle.std.proofs.Common.{◌≡◌, ℕ, zero, suc, List, [], ◌∷◌, ◌⊎◌, inl, inr, ◌<◌, length, refl, sym, ap, subst, ◌∙◌, arith, rules}
use native.Mathlib.Decide.{dec_lt}
use Rattle.adf_base.specs.declared.hash.Letters.{Letters}
use Rattle.adf_tree.specs.Tree.{Tree}
use Rattle.adf_volume.specs.{Fits.FitsBy, Image.letters_of, Image.root_of, Image.word_in, Layout.Layout, Layout.owned, LayoutRoles.LayoutHasBy}
use Rattle.adf_volume.specs.{LayoutRoles.owner_of, Lists.In, declared.owner.Owner.Owner, Parts.renumbered}
use Rattle.adf_volume.specs.Walk.{Role, third, Before, Same, heads, Asks, Lacks, IsDue, IsWalkBy, IsWhole, Walk, Role.Root, IsWalkBy.start, IsWalkBy.step}
use Rattle.adf_volume.proofs.{DecidedAsks.Asked, DecidedAsks.dec_asked, ImageStart.own_letters, Walks.of_walk, LayoutRoles.owned_part, LayoutRoles.part_owned}
use Rattle.adf_volume.proofs.{LayoutRoles.same_owner, OneTree.one_tree, WalkOrder.before_trans, Roles.asks_next_number, Roles.dec_has, Roles.renumbered_same}
use Rattle.adf_volume.proofs.WalkAgreement.{agreement, asked_part, due_is_part}

dec_before : (r q : Role) → Dec (Before r q)
dec_before r q = search (rules, dec_lt)

not_before_self : (r : Role) → Before r r → ⊥
not_before_self r b = let l : third r < third r = b.2 refl refl in omega arith

-- the first of the roles that pass a test
pub least : (P : Role → Type 0) → ((r : Role) → Dec (P r)) → (rs : List Role)
    → ((r : Role) → In rs r → P r → ⊥) ⊎ ((r : Role) × In rs r × P r × ((q : Role) → In rs q → P q → Before q r → ⊥))
least P test [] = inl (λ r i p. i)
least P test (z ∷ rs) =
    elim (test z) [
      | no n ↦ elim (least P test rs) [
        | inl none ↦ inl (λ r i p. elim i [ inl e ↦ n (subst P (sym e) p) | inr j ↦ none r j p ])
        | inr x ↦ inr (x.0, inr x.1, x.2, (λ q i p b. elim i [ inl e ↦ n (subst P (sym e) p) | inr j ↦ x.3 q j p b ]))
      ]
      | yes y ↦ elim (least P test rs) [
        | inl none ↦ inr (z, inl refl, y, (λ q i p b. elim i [ inl e ↦ not_before_self z (subst (λ q. Before q z) (sym e) b) | inr j ↦ none q j p ]))
        | inr x ↦ elim (dec_before z x.0) [
          | yes l ↦ inr (
            z,
            inl refl,
            y,
            (λ q i p b. elim i [
              | inl e ↦ not_before_self z (subst (λ q. Before q z) (sym e) b)
              | inr j ↦ x.3 q j p (before_trans q z x.0 b l)
            ]),
          )
          | no n ↦ inr (x.0, inr x.1, x.2, (λ q i p b. elim i [ inl e ↦ n (subst (λ q. Before q x.0) (sym e) b) | inr j ↦ x.3 q j p b ]))
        ]
      ]
    ]

-- a list without one member
pub without : {X : Type 0} (rs : List X) (r : X) → In rs r
    → (rest : List X) × (length rs ≡ suc (length rest)) × ((q : X) → In rs q → (q ≡ r → ⊥) → In rest q)
without [] r i = absurd i
without (z ∷ rs) r (inl e) = (rs, refl, (λ q i n. elim i [ inl f ↦ absurd (n (sym f ∙ e)) | inr j ↦ j ]))
without (z ∷ rs) r (inr i) =
    let x = without rs r i in
    (z ∷ x.0, ap suc x.1, (λ q j n. elim j [ inl f ↦ inl f | inr k ↦ inr (x.2 q k n) ]))

pub lacks_same : (w : Walk) (r q : Role) → Same q r → Lacks w r → Lacks w q
lacks_same w r q s l y b h k = l y b h (omega arith)

pub dec_lacks : (w : Walk) (r : Role) → Dec (Lacks w r)
dec_lacks w r = elim (dec_has w r) [ inl l ↦ yes l | inr y ↦ no (λ l. l y.role y.block y.has y.same) ]

module _ {letters : Letters} (image : List ℕ) (t : Tree) (l : Layout) (fit : FitsBy letters image t l) where
  -- the roles of what is owned
  abbrev roles : (xs : List (Owner × ℕ)) → ((o : Owner) (b : ℕ) → In xs (o, b) → In (owned image l) (o, b)) → List Role
  roles [] own = []
  roles (x ∷ xs) own = (owned_part letters image t l fit.places x.0 x.1 (own x.0 x.1 (inl refl))).0 ∷ roles xs (λ o b h. own o b (inr h))

  in_roles : (xs : List (Owner × ℕ)) (own : (o : Owner) (b : ℕ) → In xs (o, b) → In (owned image l) (o, b)) (r : Role) (b : ℕ)
      → LayoutHasBy letters image t l r b → In xs (owner_of r, b) → In (roles xs own) r
  in_roles [] own r b h i = absurd i
  in_roles (x ∷ xs) own r b h (inl e) =
      let y = owned_part letters image t l fit.places x.0 x.1 (own x.0 x.1 (inl refl)) in
      inl (same_owner image t l fit y.0 r x.1 b (sym y.2 ∙ ap (λ p. p.0) e) y.1 h)
  in_roles (x ∷ xs) own r b h (inr i) = inr (in_roles xs (λ o b h. own o b (inr h)) r b h i)

  -- each part that the walk lacks is in the list
  abbrev Covers : Walk → List Role → Type 0
  Covers w rs = (q : Role) (b : ℕ) → LayoutHasBy letters image t l q b → Lacks w q → In rs q

  module _ (w : Walk) (v : IsWalkBy letters image w) (rs : List Role) (cover : Covers w rs) where
    abbrev Wanted : Role → Type 0
    Wanted r = Asked image w r × Lacks w r

    dec_wanted : (r : Role) → Dec (Wanted r)
    dec_wanted r = elim (dec_asked image w (of_walk image v) r) [
      | no n ↦ no (λ x. n x.0)
      | yes a ↦ elim (dec_lacks w r) [ yes k ↦ yes (a, k) | no n ↦ no (λ x. n x.1) ]
    ]

    -- what is asked for and lacking is wanted in the list
    in_wanted : (r : Role) (a i : ℕ) → Asks image w r a i → Lacks w r → (q : Role) × In rs q × Wanted q × Same q r
    in_wanted r a i ask lack =
        let x = asked_part image t l fit w v (λ r b h. agreement image t l fit w r b v h) r a i ask in
        let same : Same (renumbered x.0 r) r = renumbered_same x.0 r in
        let lack' : Lacks w (renumbered x.0 r) = lacks_same w r (renumbered x.0 r) same lack in (
          renumbered x.0 r,
          cover (renumbered x.0 r) (word_in image a i) x.1 lack',
          ((a, i, subst (λ z. Asks image w z a i) (asks_next_number image w x.0 r a i ask) ask), lack'),
          same,
        )

    -- the walk is whole, or one of the list is due
    whole_or_due : IsWhole image w ⊎ ((r : Role) × (a i : ℕ) × In rs r × IsDue image w (renumbered (suc (heads w)) r) a i)
    whole_or_due =
        elim (least Wanted dec_wanted rs) [
          | inl none ↦ inl (λ r a i ask lack. let x = in_wanted r a i ask lack in none x.0 x.1 x.2)
          | inr x ↦
              let same : Same (renumbered (suc (heads w)) x.0) x.0 = renumbered_same (suc (heads w)) x.0 in
              inr (
                x.0,
                x.2.0.0,
                x.2.0.1,
                x.1,
                record {
                  asked = x.2.0.2;
                  lacks = lacks_same w x.0 (renumbered (suc (heads w)) x.0) same x.2.1;
                  least =
                      λ q c k ask lack bef.
                      let y = in_wanted q c k ask lack in
                      let s : Same y.0 q = y.3 in
                      x.3 y.0 y.1 y.2 (omega arith, (λ e. omega arith), (λ e f. omega arith));
                },
              )
        ]

  -- a walk grows until it is whole, by one of the list at each step
  grown : (n : ℕ) (rs : List Role) → length rs ≡ n → (w : Walk) → IsWalkBy letters image w → Covers w rs
      → (x : Walk) × IsWalkBy letters image x × IsWhole image x
  grown zero rs long w v cover =
      elim (whole_or_due w v rs cover) [
        | inl whole ↦ (w, v, whole)
        | inr x ↦ let y = without rs x.0 x.3 in let z : length rs ≡ suc (length y.0) = y.1 in absurd (omega arith)
      ]
  grown (suc n) rs long w v cover =
      elim (whole_or_due w v rs cover) [
        | inl whole ↦ (w, v, whole)
        | inr x ↦
            let q : Role = renumbered (suc (heads w)) x.0 in
            let b : ℕ = word_in image x.1 x.2 in
            let same : Same q x.0 = renumbered_same (suc (heads w)) x.0 in
            let y = without rs x.0 x.3 in
            let z : length rs ≡ suc (length y.0) = y.1 in
            grown n y.0 (omega arith) ((q, b) ∷ w) (step v x.4 refl (due_is_part image t l fit w q x.1 x.2 v x.4).1)
            (λ r c h lack. y.2 r (cover r c h (λ p d k s. lack p d (inr k) s)) (λ e. lack q b (inl (refl, refl)) (subst (Same q) (sym e) same)))
      ]

  -- where a tree and a layout fit, there is a whole walk
  pub whole_walk : (w : Walk) × IsWalkBy letters image w × IsWhole image w
  whole_walk =
      let rs : List Role = roles (owned image l) (λ o b h. h) in
      grown (length rs) rs refl ((Root, root_of image) ∷ []) start
      (λ q b h lack. in_roles (owned image l) (λ o b h. h) q b h (part_owned letters image t l fit.places q b h))

-- what fits by some letters fits by those of the image
pub own_fit : {letters : Letters} {image : List ℕ} {t : Tree} {l : Layout} → FitsBy letters image t l → FitsBy (letters_of image) image t l
own_fit {letters = letters} {image = image} {t = t} {l = l} f = subst (λ x. FitsBy x image t l) (sym (own_letters letters image f.boots)) f

-- one image, one tree and one layout
pub one_fit : {letters others : Letters} (image : List ℕ) (t u : Tree) (l m : Layout) → FitsBy letters image t l → FitsBy others image u m
    → (t ≡ u) × (l ≡ m)
one_fit {letters = letters} {others = others} image t u l m f g =
    let w = whole_walk image t l f in
    let same : others ≡ letters = sym (own_letters others image g.boots) ∙ own_letters letters image f.boots in
    one_tree image w.0 t u l m w.1 w.2 f (subst (λ letters. FitsBy letters image u m) same g)
