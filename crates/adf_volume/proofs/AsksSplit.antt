-- The parts that a walk asks for after another part is taken: those from before, and those after that part.
use Rattle.std.proofs.Common.{◌≡◌, ◌≢◌, ℕ, zero, suc, List, ◌∷◌, ◌⊎◌, inl, inr, ◌+◌, ◌/◌, ◌<◌, refl, sym, subst, arith}
use Rattle.std.proofs.lemmas.Grind.{common_steps}
use Rattle.adf_blocks.specs.declared.layout.TheConstants.{FIRST_SLOT, POINTERS, SLOTS}
use Rattle.adf_blocks.specs.Sizes.{blocks, pages_needed}
use Rattle.adf_volume.specs.{Image.word_in, Image.table_word, Parts.renumbered}
use Rattle.adf_volume.specs.Walk.{Role, Before, Same, HeadAt, DirAt, FileAt, MemberAt, NamesPage, Asks, data_count, first, heads, Walk}
use Rattle.adf_volume.specs.Walk.Role.{Root, Page, MapExt, Head, Ext, Data}
use Rattle.adf_volume.proofs.Gathered.{IsGathered, parent_asked}
use Rattle.adf_volume.proofs.Roles.{dir_up, head_role, member_up, same_refl, typed_cases, typed_up}

module _ (image : List ℕ) (w : Walk) (r : Role) (b : ℕ) where
  -- what was asked for is asked for still
  pub asks_more : (q : Role) (a i : ℕ) → Asks image w (renumbered (suc (heads w)) q) a i
      → Asks image ((r, b) ∷ w) (renumbered (suc (heads ((r, b) ∷ w))) q) a i
  asks_more q a i h = grind (arith, common_steps, dir_up, typed_up, member_up)

  -- what was asked for before, or comes after the part
  abbrev Either : Role → ℕ → ℕ → Type 0
  Either q a i = ((z : Role) × Asks image w z a i × Same z q) ⊎ Before r q

  old : (z q : Role) (a i : ℕ) → Asks image w z a i → Same z q → Either q a i
  old z q a i h same = inl (z, h, same)

  new : (z q : Role) (a i : ℕ) → r ≡ z → Before z q → Either q a i
  new z q a i e bef = inr (subst (λ r. Before r q) (sym e) bef)

  module _ (other : r ≡ Root → ⊥) (above : (n p s j : ℕ) → r ≡ Head n p s j → p < n) where
    new_head : {v : Walk} {n c : ℕ} (q : Role) (a i : ℕ) (h : HeadAt v n c) → r ≡ head_role h → suc n ≡ first q → Either q a i
    new_head {n = n} q a i h e f = let lt : h.parent < n = above n h.parent h.slot h.place e in new (head_role h) q a i e (omega arith)

    split_page : (k a i : ℕ) → k < pages_needed (blocks image) → NamesPage image ((r, b) ∷ w) k a i → Either (Page k) a i
    split_page k a i lt (inl h) = old (Page k) (Page k) a i (lt, inl h) (same_refl (Page k))
    split_page k a i lt (inr (j, inl e, li, ke)) = new (MapExt j) (Page k) a i e.0 (omega arith)
    split_page k a i lt (inr (j, inr h, li, ke)) = old (Page k) (Page k) a i (lt, inr (j, h, li, ke)) (same_refl (Page k))

    split_slot : (n p s a i : ℕ) → s < SLOTS → DirAt image ((r, b) ∷ w) p a → i ≡ FIRST_SLOT + s → word_in image a i ≢ 0
        → Either (Head n p s zero) a i
    split_slot n zero s a i ls (inl e) ie ne = absurd (other e.0)
    split_slot n zero s a i ls (inr h) ie ne = old (Head (suc (heads w)) zero s zero) (Head n zero s zero) a i (refl, ls, h, ie, ne) (omega arith)
    split_slot n (suc p) s a i ls d ie ne = elim (typed_cases d) [
      | inl e ↦ new_head (Head n (suc p) s zero) a i d.header e.0 refl
      | inr h ↦ old (Head (suc (heads w)) (suc p) s zero) (Head n (suc p) s zero) a i (refl, ls, h, ie, ne) (omega arith)
    ]

    split_member : (n k h a i m : ℕ) → FileAt image w n h → k < data_count image h → k / POINTERS ≡ m → MemberAt image ((r, b) ∷ w) n m a
        → i ≡ table_word k → Either (Data n (suc k)) a i
    split_member n k h a i zero f lt e m ie = elim (typed_cases m) [
      | inl y ↦ new_head (Data n (suc k)) a i m.header y.0 refl
      | inr y ↦ old (Data n (suc k)) (Data n (suc k)) a i ((h, f, lt), subst (λ m. MemberAt image w n m a) (sym e) y, ie) (same_refl (Data n (suc k)))
    ]
    split_member n k h a i (suc m) f lt e (inl y) ie = new (Ext n (suc m)) (Data n (suc k)) a i y.0 (omega arith)
    split_member n k h a i (suc m) f lt e (inr y) ie =
        old (Data n (suc k)) (Data n (suc k)) a i ((h, f, lt), subst (λ m. MemberAt image w n m a) (sym e) y, ie) (same_refl (Data n (suc k)))

    pub asks_split : (q : Role) (a i : ℕ) → Asks image ((r, b) ∷ w) q a i → Either q a i
    asks_split Root a i h = absurd h
    asks_split (Page k) a i (lt, names) = split_page k a i lt names
    asks_split (MapExt zero) a i h = old (MapExt zero) (MapExt zero) a i h (same_refl (MapExt zero))
    asks_split (MapExt (suc j)) a i (lt, inl e, ie) = new (MapExt j) (MapExt (suc j)) a i e.0 (omega arith)
    asks_split (MapExt (suc j)) a i (lt, inr h, ie) = old (MapExt (suc j)) (MapExt (suc j)) a i (lt, h, ie) (same_refl (MapExt (suc j)))
    asks_split (Head n p s zero) a i (x, ls, d, ie, ne) = split_slot n p s a i ls d ie ne
    asks_split (Head n p s (suc j)) a i (x, (m, inl e), ie, ne) = new (Head m p s j) (Head n p s (suc j)) a i e.0 (omega arith)
    asks_split (Head n p s (suc j)) a i (x, (m, inr h), ie, ne) =
        old (Head (suc (heads w)) p s (suc j)) (Head n p s (suc j)) a i (refl, (m, h), ie, ne) (omega arith)
    asks_split (Ext n zero) a i h = absurd h
    asks_split (Ext n (suc zero)) a i (f, ie, ne) = elim (typed_cases f) [
      | inl e ↦ new_head (Ext n 1) a i f.header e.0 refl
      | inr g ↦ old (Ext n 1) (Ext n 1) a i (g, ie, ne) (same_refl (Ext n 1))
    ]
    asks_split (Ext n (suc (suc k))) a i (inl e, ie, ne) = new (Ext n (suc k)) (Ext n (suc (suc k))) a i e.0 (omega arith)
    asks_split (Ext n (suc (suc k))) a i (inr h, ie, ne) =
        old (Ext n (suc (suc k))) (Ext n (suc (suc k))) a i (h, ie, ne) (same_refl (Ext n (suc (suc k))))
    asks_split (Data n zero) a i h = absurd h
    asks_split (Data n (suc k)) a i ((h, f, lt), m, ie) = elim (typed_cases f) [
      | inl e ↦ new_head (Data n (suc k)) a i f.header e.0 refl
      | inr g ↦ split_member n k h a i (k / POINTERS) g lt refl m ie
    ]

-- the same of a list that was gathered
pub gathered_split : (image : List ℕ) {w : Walk} → IsGathered image w → (r : Role) (a i b : ℕ) → Asks image w r a i → (q : Role) (c k : ℕ)
    → Asks image ((r, b) ∷ w) q c k → ((z : Role) × Asks image w z c k × Same z q) ⊎ Before r q
gathered_split image {w = w} v r a i b h =
    asks_split image w r b (λ e. subst (λ r. Asks image w r a i) e h)
    (λ n p s j e. parent_asked image v n p s j a i (subst (λ r. Asks image w r a i) e h))
