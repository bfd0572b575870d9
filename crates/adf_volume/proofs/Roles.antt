-- Roles, and lists of them with blocks, for any content of the blocks.
use Rattle.std.proofs.Common.{◌≡◌, ℕ, zero, suc, List, [], ◌∷◌, ◌⊎◌, inl, inr, ◌<◌, ◌≤◌, refl, sym, ap, subst, arith, rules, eq-eqb}
use Rattle.std.proofs.lemmas.Grind.{common_steps}
use Rattle.adf_volume.specs.Walk.{Role, first, second, third, Same, Has, head_count, heads, HeadAt, TypedAt, NodeAt, DirAt, MemberAt, Asks, Lacks, Walk}
use Rattle.adf_volume.specs.{Walk.ext_count_of, Parts.renumbered, Walk.Role.Root, Walk.Role.Head, Walk.Role.Ext}

-- two roles of one key, of which headers have one number, are one role
pub same_role : (r q : Role) → Same r q → ((n m p s j : ℕ) → r ≡ Head n p s j → q ≡ Head m p s j → n ≡ m) → r ≡ q
same_role r q h k = grind (arith, common_steps)

pub same_refl : (r : Role) → Same r r
same_refl r = (refl, refl, refl)

pub same_of : (r q : Role) → r ≡ q → Same r q
same_of r q e = (ap first e, ap second e, ap third e)

pub renumbered_same : (m : ℕ) (r : Role) → Same (renumbered m r) r
renumbered_same m (Head n p s j) = (refl, refl, refl)
renumbered_same m _ = (refl, refl, refl)

pub heads_up : (r : Role) (m : ℕ) → m ≤ head_count r m
heads_up Root m = omega arith
heads_up _ m = omega arith

pub asks_number : (image : List ℕ) (w : Walk) (n p s j a i : ℕ) → Asks image w (Head n p s j) a i → n ≡ suc (heads w)
asks_number image w n p s zero a i h = h.0
asks_number image w n p s (suc j) a i h = h.0

-- what is asked for has the next number
pub asks_next_number : (image : List ℕ) (w : Walk) (m : ℕ) (r : Role) (a i : ℕ) → Asks image w r a i
    → r ≡ renumbered (suc (heads w)) (renumbered m r)
asks_next_number image w m (Head n p s j) a i h = ap (λ n. Head n p s j) (asks_number image w n p s j a i h)
asks_next_number image w m _ a i h = refl

-- a directory of a walk is a node of it
pub dir_is_node : (image : List ℕ) (w : Walk) (p a : ℕ) → DirAt image w p a → NodeAt w p a
dir_is_node image w zero a h = h
dir_is_node image w (suc i) a h = h.header

-- extension blocks are counted
pub count_up : (n : ℕ) (r : Role) (c : ℕ) → c ≤ ext_count_of n r c
count_up n (Ext m k) c = grind (arith, common_steps)
count_up n _ c = omega arith

pub count_own : (n k c : ℕ) → ext_count_of n (Ext n k) c ≡ suc c
count_own n k c = rw (eq-eqb n n refl)

-- whether two roles have one key
pub dec_same : (r q : Role) → Dec (Same r q)
dec_same r q = search rules

-- whether a walk has a role
pub dec_has : (w : Walk) (r : Role) → Lacks w r ⊎ record { role : Role; block : ℕ; has : Has w role block; same : Same role r }
dec_has [] r = inl (λ q b h s. h)
dec_has (x ∷ w) r =
    elim (dec_same x.0 r) [
      | yes s ↦ inr (record { role = x.0; block = x.1; has = inl (refl, refl); same = s })
      | no s ↦ elim (dec_has w r) [
        | inl l ↦ inl (λ q b h k. elim h [ inl e ↦ s (subst (λ z. Same z r) (sym e.0) k) | inr g ↦ l q b g k ])
        | inr h ↦ inr (record { role = h.role; block = h.block; has = inr h.has; same = h.same })
      ]
    ]

pub has_role : (w : Walk) (r : Role) → ((n p s j : ℕ) → r ≡ Head n p s j → ⊥) → (q : Role) (b : ℕ) → Has w q b → Same q r
    → Has w r b
has_role w r nohead q b h s = subst (λ z. Has w z b) (same_role q r s (λ n m p t j e f. absurd (nohead m p t j f))) h

-- whether a walk has a role that is no header's
pub has_low : (w : Walk) (r : Role) → second r < 2 → Lacks w r ⊎ ((b : ℕ) × Has w r b)
has_low w r low = grind (arith, common_steps, dec_has w r, has_role)

-- only a header has a header's key
pub head_key : (n p s j : ℕ) (q : Role) → Same q (Head n p s j) → (m : ℕ) × (q ≡ Head m p s j)
head_key n p s j q h = grind (arith, common_steps)

-- the role of a header
abbrev pub head_role : {w : Walk} {n a : ℕ} → HeadAt w n a → Role
head_role {n = n} h = Head n h.parent h.slot h.place

abbrev pub head_at : {w : Walk} (n p s j a : ℕ) → Has w (Head n p s j) a → HeadAt w n a
head_at n p s j a h = record { parent = p; slot = s; place = j; has = h }

-- the header as one of another list that has it
abbrev pub head_in : {w v : Walk} {n a : ℕ} (h : HeadAt w n a) → Has v (head_role h) a → HeadAt v n a
head_in {n = n} {a = a} h k = head_at n h.parent h.slot h.place a k

-- a header that is new has the next number
pub new_number : (image : List ℕ) (w : Walk) {v : Walk} {n b : ℕ} (h : HeadAt v n b) {r : Role} (a i : ℕ) → r ≡ head_role h
    → Asks image w r a i → n ≡ suc (heads w)
new_number image w {n = n} h a i e d = asks_number image w n h.parent h.slot h.place a i (subst (λ r. Asks image w r a i) e d)

-- the root alone has none
pub no_head : {c n a : ℕ} → HeadAt ((Root, c) ∷ []) n a → ⊥
no_head h = elim h.has [ inl e ↦ let x : second Root ≡ second (head_role h) = ap second e.0 in omega arith | inr f ↦ f ]

pub typed_in : {image : List ℕ} {w v : Walk} {t n a : ℕ} (h : TypedAt image w t n a) → Has v (head_role h.header) a → TypedAt image v t n a
typed_in h k = record { header = head_in h.header k; type = h.type }

-- a node of a list with one part more is that part, or was there
pub typed_cases : {image : List ℕ} {w : Walk} {x : Role × ℕ} {t n a : ℕ} (h : TypedAt image (x ∷ w) t n a)
    → ((x.0 ≡ head_role h.header) × (x.1 ≡ a)) ⊎ TypedAt image w t n a
typed_cases h = elim h.header.has [ inl e ↦ inl e | inr k ↦ inr (typed_in h k) ]

-- a list with one part more has what it had
pub typed_up : {image : List ℕ} {w : Walk} {t n a : ℕ} (x : Role × ℕ) → TypedAt image w t n a → TypedAt image (x ∷ w) t n a
typed_up x h = typed_in h (inr h.header.has)

module _ (image : List ℕ) where
  pub dir_up : (w : Walk) (x : Role × ℕ) (p a : ℕ) → DirAt image w p a → DirAt image (x ∷ w) p a
  dir_up w x zero a h = inr h
  dir_up w x (suc i) a h = typed_up x h

  pub member_up : (w : Walk) (x : Role × ℕ) (n m a : ℕ) → MemberAt image w n m a → MemberAt image (x ∷ w) n m a
  member_up w x n zero a h = typed_up x h
  member_up w x n (suc m) a h = inr h
