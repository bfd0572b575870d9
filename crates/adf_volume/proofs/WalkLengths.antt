-- A walk is as long as the list of blocks that its layout owns; no list of its blocks is longer.
use Rattle.std.proofs.Common.{◌≡◌, ℕ, List, [], ◌∷◌, inl, inr, ◌≤◌, length, refl, sym, ap, subst, ◌∙◌, arith}
use Rattle.std.proofs.lemmas.Grind.{common_steps}
use Rattle.adf_base.specs.declared.hash.Letters.{Letters}
use Rattle.adf_volume.specs.{Layout.owned, LayoutRoles.owner_of, Lists.In, Lists.NoBlockTwice, Made.layout_in}
use Rattle.adf_volume.specs.Walk.{Role, Has, heads, IsWalkBy, IsWhole, Walk, IsWalkBy.start, IsWalkBy.step}
use Rattle.adf_volume.proofs.{FitWalks.without, PartDemands.part_holds_by, WalkOwners.is_owned, WalkOwners.once, WalkOwners.owned_has}

-- a list in which no block stands twice is no longer than one that has its blocks
pub no_longer : {X Y : Type 0} (block : Y → ℕ) (xs : List (X × ℕ)) (ys : List Y) → NoBlockTwice xs
    → ((x : X) (b : ℕ) → In xs (x, b) → (y : Y) × In ys y × (block y ≡ b)) → length xs ≤ length ys
no_longer block [] ys once h = omega arith
no_longer block (x ∷ xs) ys once h =
    let y = h x.0 x.1 (inl refl) in
    let r = without ys y.0 y.1 in
    let ih = no_longer block xs r.0 once.1 (λ z b i.
    let u = h z b (inr i) in
    (u.0, r.2 u.0 u.1 (λ e. once.0 (z, b) i (sym y.2 ∙ (sym (ap block e) ∙ u.2))), u.2)) in
    omega (arith, r.1)

walk_in : (w : Walk) (r : Role) (b : ℕ) → Has w r b → In w (r, b)
walk_in [] r b h = h
walk_in (x ∷ w) r b (inl e) = inl (λ i. (e.0 i, e.1 i))
walk_in (x ∷ w) r b (inr h) = inr (walk_in w r b h)

in_walk : (w : Walk) (r : Role) (b : ℕ) → In w (r, b) → Has w r b
in_walk [] r b h = h
in_walk (x ∷ w) r b (inl e) = inl (ap (λ p. p.0) e, ap (λ p. p.1) e)
in_walk (x ∷ w) r b (inr h) = inr (in_walk w r b h)

pub walked_once : {letters : Letters} {image : List ℕ} {w : Walk} → IsWalkBy letters image w → NoBlockTwice w
walked_once start = (λ y i e. i, tt)
walked_once {letters} {image} (step {w = w} {r = r} {b = b} {a = a} v d e n) =
    let part = part_holds_by letters image w r a b n in (λ y i z. part.unowned y.0 (subst (Has w y.0) (sym z) (in_walk w y.0 y.1 i)), walked_once v)

pub walk_length : {letters : Letters} (image : List ℕ) (w : Walk) → IsWalkBy letters image w → IsWhole image w → length (owned image (layout_in w)) ≡ length w
walk_length image w v whole =
    let all = no_longer (λ p. p.1) w (owned image (layout_in w)) (walked_once v)
    (λ r b i. ((owner_of r, b), is_owned image w v whole r b (in_walk w r b i), refl)) in
    let only = no_longer (λ p. p.1) (owned image (layout_in w)) w (once image w v whole)
    (λ o b i. let x = owned_has image w v whole o b i in ((x.0, b), walk_in w x.0 b x.1, refl)) in
    omega arith

-- a walk has no more headers than members
pub heads_within : (w : Walk) → heads w ≤ length w
heads_within [] = omega arith
heads_within (x ∷ w) = grind (arith, common_steps, heads_within w)
