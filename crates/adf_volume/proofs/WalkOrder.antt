-- A walk ascends: what is due comes after everything in it.
use Rattle.std.proofs.Common.{◌≡◌, ℕ, suc, List, [], ◌∷◌, inl, inr, ◌<◌, refl, ap, subst, arith}
use Rattle.std.proofs.lemmas.Grind.{common_steps}
use Rattle.adf_base.specs.declared.hash.Letters.{Letters}
use Rattle.adf_volume.specs.{Image.root_of, Walk.IsWalkBy.start, Walk.IsWalkBy.step}
use Rattle.adf_volume.specs.Walk.{Role, Before, Same, Has, head_count, heads, HeadAt, Asks, Lacks, IsDue, IsWalkBy, Walk, Role.Root}
use Rattle.adf_volume.proofs.{AsksSplit.gathered_split, Roles.head_in, Roles.head_role, Roles.new_number, Roles.no_head, Walks.number_of, Walks.of_walk}

pub before_trans : (x y z : Role) → Before x y → Before y z → Before x z
before_trans x y z h k = (omega arith, (λ e. omega arith), (λ e f. omega arith))

pub before_same : (x y z : Role) → Before x y → Same y z → Before x z
before_same x y z h s = grind (arith, common_steps)

pub before_total : (x y : Role) → (Before y x → ⊥) → (Same x y → ⊥) → Before x y
before_total x y nb ns = grind (arith, common_steps)

last : (w : Walk) (z : Role) (c : ℕ) (q : Role) (b : ℕ) (r : Role) → Has ((z, c) ∷ w) q b → Before z r → (Has w q b → Before q r)
    → Before q r
last w z c q b r (inl y) n o = subst (λ q. Before q r) y.0 n
last w z c q b r (inr y) n o = o y

module _ (image : List ℕ) where
  root_before : (w : Walk) (r : Role) (a i : ℕ) → Asks image w r a i → Before Root r
  root_before w r a i h = grind (arith, common_steps)

  pub rises : {letters : Letters} {w : Walk} → IsWalkBy letters image w → (r : Role) (a i : ℕ) → IsDue image w r a i → (q : Role) (b : ℕ)
      → Has w q b → Before q r
  rises start r a i d q b (inl e) = subst (λ q. Before q r) e.0 (root_before ((Root, root_of image) ∷ []) r a i d.asked)
  rises start r a i d q b (inr f) = absurd f
  rises (step {w = w} {r = z} {b = c} {a = a0} {i = i0} v e g n) r a i d q b h =
      last w z c q b r h newest (λ y. before_trans q z r (rises v z a0 i0 e q b y) newest)
    where
      newest : Before z r
      newest =
          elim (gathered_split image (of_walk image v) z a0 i0 c e.asked r a i d.asked) [
            | inr bef ↦ bef
            | inl x ↦
                let lack : Lacks w x.0 = (λ y k has s. let s' : Same x.0 r = x.2 in d.lacks y k (inr has) (omega arith)) in
                let nb : Before x.0 z → ⊥ = e.least x.0 a i x.1 lack in
                let ns : Same z x.0 → ⊥ = (λ s. let s' : Same x.0 r = x.2 in d.lacks z c (inl (refl, refl)) (omega arith)) in
                before_same z x.0 r (before_total z x.0 nb ns) x.2
          ]

  -- headers stand in the order of their numbers
  pub in_order : {letters : Letters} {w : Walk} {n m b c : ℕ} → IsWalkBy letters image w → (h : HeadAt w n b) (k : HeadAt w m c) → n < m
      → Before (head_role h) (head_role k)
  in_order start h k l = absurd (no_head h)
  in_order {n = n} {m = m} {b = b} (step {w = w} {r = r} {a = a} {i = i} v d e g) h k l = elim h.has [
    | inl x ↦
        let high : head_count r (heads w) ≡ suc (heads w) = ap (λ r. head_count r (heads w)) x.0 in
        absurd (omega (arith, new_number image w h a i x.0 d.asked, number_of image (step v d e g) k))
    | inr x ↦ elim k.has [
      | inl y ↦ subst (λ r. Before (head_role h) r) y.0 (rises v r a i d (head_role h) b x)
      | inr y ↦ in_order v (head_in h x) (head_in k y) l
    ]
  ]
