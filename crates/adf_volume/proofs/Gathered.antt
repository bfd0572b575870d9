-- Facts of every list of parts that were each asked for and missing when added, for any content of their blocks.
use Rattle.std.proofs.lemmas.Bool.{eqb-true, Decides.eqb_tells}
use Rattle.std.proofs.Common.{Bool, true, cond, eq-eqb, ◌≡◌, ℕ, zero, suc, List, [], ◌∷◌, inl, inr, ◌/◌, ◌<◌, ◌≤◌, ◌≢◌, refl, sym, ap, subst, ◌∙◌, arith, rules}
use native.Mathlib.Decide.{dec_le, dec_lt}
use Rattle.adf_blocks.specs.declared.layout.TheConstants.{POINTERS}
use Rattle.adf_volume.specs.{Image.root_of, Walk.Role.Root, Walk.Role.Page, Walk.Role.MapExt, Walk.Role.Head, Walk.Role.Ext, Walk.Role.Data}
use Rattle.std.proofs.lemmas.Grind.{common_steps}
use Rattle.adf_volume.specs.Walk.{first, ext_block_in, ext_block_of, ext_count, ext_count_of, member_block, node_block, node_block_of, Walk, Role, second, Same}
use Rattle.adf_volume.specs.Walk.{Has, head_count, heads, HeadAt, NodeAt, DirAt, FileAt, MemberAt, NamesPage, Asks, Lacks}
use Rattle.adf_volume.proofs.Roles.{asks_number, count_own, count_up, dir_is_node, dir_up, head_at, head_in, head_role, heads_up, new_number, no_head, same_of}
use Rattle.adf_volume.proofs.Roles.{typed_up}

pub data IsGathered (image : List ℕ) : Walk → Type 0 where
  start : IsGathered image ((Root, root_of image) ∷ [])
  step : {w : Walk} {r : Role} (a i b : ℕ) → IsGathered image w → Asks image w r a i → Lacks w r → IsGathered image ((r, b) ∷ w)

module _ (image : List ℕ) where
  pub root_is : {w : Walk} → IsGathered image w → (b : ℕ) → Has w Root b → root_of image ≡ b
  root_is start b (inl e) = e.1
  root_is start b (inr f) = absurd f
  root_is (step {w = w} {r = r} a i b' v d l) b (inl e) = absurd (subst (λ r. Asks image w r a i) e.0 d)
  root_is (step a i b' v d l) b (inr h) = root_is v b h

  pub root_in : {w : Walk} → IsGathered image w → Has w Root (root_of image)
  root_in start = inl (refl, refl)
  root_in (step a i b v d l) = inr (root_in v)

  -- headers are numbered from 1
  pub number_of : {w : Walk} {n b : ℕ} → IsGathered image w → HeadAt w n b → (1 ≤ n) × (n ≤ heads w)
  number_of start h = absurd (no_head h)
  number_of {n = n} (step {w = w} {r = r} a i b v d l) h = elim h.has [
    | inl e ↦
        subst (λ q. (1 ≤ n) × (n ≤ head_count q (heads w))) (sym e.0) (omega (arith, new_number image w h a i e.0 d))
    | inr k ↦ omega (arith, number_of v (head_in h k), heads_up r (heads w))
  ]

  -- each number up to the count is a header's
  pub numbered : {w : Walk} → IsGathered image w → (n : ℕ) → 1 ≤ n → n ≤ heads w → (b : ℕ) × HeadAt w n b
  numbered start n l u = absurd (omega arith)
  numbered (step {w = w} {r = r} a i b v d e) n l u = numbered_step r refl (numbered v n l)
    where
      older : ((b : ℕ) × HeadAt w n b) → (b' : ℕ) × HeadAt ((r, b) ∷ w) n b'
      older h = (h.0, head_in h.1 (inr h.1.has))

      numbered_step : (q : Role) → r ≡ q → (n ≤ heads w → (b : ℕ) × HeadAt w n b) → (b' : ℕ) × HeadAt ((r, b) ∷ w) n b'
      numbered_step (Head m p s j) z ih =
          let u' : n ≤ suc (heads w) = subst (λ q. n ≤ head_count q (heads w)) z u in
          let e : m ≡ suc (heads w) = asks_number image w m p s j a i (subst (λ r. Asks image w r a i) z d) in
          elim (dec_le n (heads w)) [
            | yes k ↦ older (ih k)
            | no k ↦ let y : m ≡ n = omega arith in (b, head_at n p s j b (inl (z ∙ ap (λ m. Head m p s j) y, refl)))
          ]
      numbered_step _ z ih = older (ih (subst (λ q. n ≤ head_count q (heads w)) z u))

  -- a role has one block
  pub one_block : {w : Walk} → IsGathered image w → (r q : Role) (b c : ℕ) → Has w r b → Has w q c → Same r q → (r ≡ q) × (b ≡ c)
  one_block start r q b c (inl e) (inl f) s = (sym e.0 ∙ f.0, sym e.1 ∙ f.1)
  one_block start r q b c (inl e) (inr f) s = absurd f
  one_block start r q b c (inr e) f s = absurd e
  one_block (step a i b' v d l) r q b c (inl e) (inl f) s = (sym e.0 ∙ f.0, sym e.1 ∙ f.1)
  one_block (step {r = z} a i b' v d l) r q b c (inl e) (inr f) s = let t : Same r z = same_of r z (sym e.0) in absurd (l q c f (omega arith))
  one_block (step {r = z} a i b' v d l) r q b c (inr e) (inl f) s = let t : Same q z = same_of q z (sym f.0) in absurd (l r b e (omega arith))
  one_block (step a i b' v d l) r q b c (inr e) (inr f) s = one_block v r q b c e f s

  -- no header has the next number yet
  pub none_next : {w : Walk} {n b : ℕ} → IsGathered image w → HeadAt w n b → n ≢ suc (heads w)
  none_next v h e = omega (arith, number_of v h)

  -- a directory is there before what is in it
  pub dir_number : {w : Walk} → IsGathered image w → (p a : ℕ) → DirAt image w p a → p ≤ heads w
  dir_number v zero a h = omega arith
  dir_number v (suc i) a h = (number_of v h.header).1

  asked_after : {w : Walk} → IsGathered image w → ((m b : ℕ) (h : HeadAt w m b) → h.parent < m) → (n p s j a i : ℕ)
      → Asks image w (Head n p s j) a i → p < n
  asked_after v older n p s zero a i h = omega (arith, dir_number v p a h.2, h.0)
  asked_after {w = w} v older n p s (suc j) a i h =
      let k : HeadAt w h.1.0 a = head_at h.1.0 p s j a h.1.1 in
      omega (arith, older h.1.0 a k, number_of v k, h.0)

  -- a parent has a smaller number
  pub parent_below : {w : Walk} {n b : ℕ} → IsGathered image w → (h : HeadAt w n b) → h.parent < n
  parent_below start h = absurd (no_head h)
  parent_below {n = n} (step {w = w} a i c v d l) h = elim h.has [
    | inl e ↦ asked_after v (λ m b k. parent_below v k) n h.parent h.slot h.place a i (subst (λ r. Asks image w r a i) e.0 d)
    | inr k ↦ parent_below v (head_in h k)
  ]

  pub parent_asked : {w : Walk} → IsGathered image w → (n p s j a i : ℕ) → Asks image w (Head n p s j) a i → p < n
  parent_asked v = asked_after v (λ m b k. parent_below v k)

  -- a number has one header
  pub one_head : {w : Walk} {n b c : ℕ} → IsGathered image w → (h : HeadAt w n b) (k : HeadAt w n c)
      → (head_role h ≡ head_role k) × (b ≡ c)
  one_head start h k = absurd (no_head h)
  one_head (step {w = w} a i x v d l) h k = elim h.has [
    | inl e ↦ elim k.has [
      | inl f ↦ (sym e.0 ∙ f.0, sym e.1 ∙ f.1)
      | inr g ↦ absurd (none_next v (head_in k g) (new_number image w h a i e.0 d))
    ]
    | inr g ↦ elim k.has [
      | inl f ↦ absurd (none_next v (head_in h g) (new_number image w k a i f.0 d))
      | inr f ↦ one_head v (head_in h g) (head_in k f)
    ]
  ]

  module _ {w : Walk} (v : IsGathered image w) where
    pub node_one : (p a b : ℕ) → NodeAt w p a → NodeAt w p b → a ≡ b
    node_one zero a b h k = sym (root_is v a h) ∙ root_is v b k
    node_one (suc i) a b h k = (one_head v h k).1

    pub dir_one : (p a b : ℕ) → DirAt image w p a → DirAt image w p b → a ≡ b
    dir_one p a b h k = node_one p a b (dir_is_node image w p a h) (dir_is_node image w p b k)

    pub file_one : (n a b : ℕ) → FileAt image w n a → FileAt image w n b → a ≡ b
    file_one n a b f g = (one_head v f.header g.header).1

    pub member_one : (n m a b : ℕ) → MemberAt image w n m a → MemberAt image w n m b → a ≡ b
    member_one n zero a b h k = file_one n a b h k
    member_one n (suc m) a b h k = (one_block v (Ext n (suc m)) (Ext n (suc m)) a b h k (refl, refl, refl)).1

    names_one : (n a i b j : ℕ) → NamesPage image w n a i → NamesPage image w n b j → (a ≡ b) × (i ≡ j)
    names_one n a i b j h k = grind (arith, common_steps, one_block)

    -- a role is asked for by one word
    pub asks_one : (r : Role) (a i b j : ℕ) → Asks image w r a i → Asks image w r b j → (a ≡ b) × (i ≡ j)
    asks_one Root a i b j h k = absurd h
    asks_one (Page n) a i b j h k = names_one n a i b j h.1 k.1
    asks_one (MapExt zero) a i b j h k = (h.1 ∙ sym k.1, h.2 ∙ sym k.2)
    asks_one (MapExt (suc x)) a i b j h k = ((one_block v (MapExt x) (MapExt x) a b h.1 k.1 (refl, refl, refl)).1, h.2 ∙ sym k.2)
    asks_one (Head n p s zero) a i b j h k = (dir_one p a b h.2 k.2, h.3 ∙ sym k.3)
    asks_one (Head n p s (suc x)) a i b j h k = grind (arith, common_steps, one_block)
    asks_one (Ext n zero) a i b j h k = absurd h
    asks_one (Ext n (suc zero)) a i b j h k = (file_one n a b h.0 k.0, h.1 ∙ sym k.1)
    asks_one (Ext n (suc (suc x))) a i b j h k = ((one_block v (Ext n (suc x)) (Ext n (suc x)) a b h.0 k.0 (refl, refl, refl)).1, h.1 ∙ sym k.1)
    asks_one (Data n zero) a i b j h k = absurd h
    asks_one (Data n (suc x)) a i b j h k = (member_one n (x / POINTERS) a b h.1 k.1, h.2 ∙ sym k.2)

  pub ext_below : {w : Walk} → IsGathered image w → (n k b : ℕ) → Has w (Ext n (suc k)) b → k < ext_count w n
  ext_below start n k b (inl e) = let h : first Root ≡ first (Ext n (suc k)) = ap first e.0 in absurd (omega arith)
  ext_below start n k b (inr f) = absurd f
  ext_below (step {w = w} {r = r} a i c v d l) n zero b (inl h) = grind (arith, common_steps, step, count_own)
  ext_below (step {w = w} {r = r} a i c v d l) n (suc k) b (inl h) = search (rules, count_own, ext_below v n k a)
  ext_below (step {w = w} {r = r} a i c v d l) n k b (inr h) = search (rules, count_up, ext_below v n k b h)

  -- an extension block that comes is the next one
  pub next_ext : (w : Walk) → IsGathered image w → (n k a i : ℕ) → Asks image w (Ext n k) a i → Lacks w (Ext n k)
      → ((k : ℕ) → k < ext_count w n → (b : ℕ) × Has w (Ext n (suc k)) b) → k ≡ suc (ext_count w n)
  next_ext w v n zero a i d l ih = absurd d
  next_ext w v n (suc zero) a i d l ih =
      let none : 0 < ext_count w n → ⊥ = (λ k. let x = ih 0 k in l (Ext n 1) x.0 x.1 (refl, refl, refl)) in
      omega arith
  next_ext w v n (suc (suc k)) a i d l ih =
      let lo = ext_below v n k a d.0 in
      let none : suc k < ext_count w n → ⊥ = (λ u. let x = ih (suc k) u in l (Ext n (suc (suc k))) x.0 x.1 (refl, refl, refl)) in
      omega arith

  counted_step : {w : Walk} (r : Role) (a i b : ℕ) → IsGathered image w → Asks image w r a i → Lacks w r → (n k : ℕ)
      → ((k : ℕ) → k < ext_count w n → (b : ℕ) × Has w (Ext n (suc k)) b) → k < ext_count_of n r (ext_count w n)
      → (c : ℕ) × Has ((r, b) ∷ w) (Ext n (suc k)) c
  counted_step {w = w} (Ext m j) a i b v d l n k ih h =
      elim (eqb_tells n m) [
        | inl y ↦
            elim (dec_lt k (ext_count w n)) [
              | yes u ↦ let x = ih k u in (x.0, inr x.1)
              | no u ↦
                  let e : Ext m j ≡ Ext n j = ap (λ m. Ext m j) (sym y.1) in
                  let z = next_ext w v n j a i (subst (λ r. Asks image w r a i) e d) (subst (Lacks w) e l) ih in
                  let h' : k < suc (ext_count w n) = rw y.0 at h in
                  let same : j ≡ suc k = omega arith in
                  (b, inl (e ∙ ap (Ext n) same, refl))
            ]
        | inr y ↦ let h' : k < ext_count w n = rw y.0 at h in let x = ih k h' in (x.0, inr x.1)
      ]
  counted_step r a i b v d l n k ih h = let x = ih k h in (x.0, inr x.1)

  -- extension blocks are numbered from 1
  pub ext_counted : {w : Walk} → IsGathered image w → (n k : ℕ) → k < ext_count w n → (b : ℕ) × Has w (Ext n (suc k)) b
  ext_counted start n k h = absurd (omega arith)
  ext_counted (step {r = r} a i b v d l) n k h = counted_step r a i b v d l n k (ext_counted v n) h

  -- the block of a node, as a function, is not changed by what is no header of that number
  other_node : (w : Walk) (n : ℕ) (r : Role) (a i b c : ℕ) → Asks image w r a i → n ≤ heads w → node_block_of n r b c ≡ c
  other_node w n r a i b c h k = grind (arith, common_steps, asks_number, eqb_tells)

  pub head_block : {w : Walk} {n b : ℕ} → IsGathered image w → HeadAt w n b → node_block w n ≡ b
  head_block start h = absurd (no_head h)
  head_block {n = n} {b = b} (step {w = w} {r = r} a i c v d l) h = elim h.has [
    | inl e ↦ subst (λ r. node_block_of n r c (node_block w n) ≡ b) (sym e.0) (rw (eq-eqb n n refl) e.1)
    | inr k ↦ other_node w n r a i c (node_block w n) d (omega (arith, number_of v (head_in h k))) ∙ head_block v (head_in h k)
  ]

  root_block : {w : Walk} → IsGathered image w → node_block w 0 ≡ root_of image
  root_block start = refl
  root_block (step {w = w} {r = r} a i c v d l) = other_node w 0 r a i c (node_block w 0) d (omega arith) ∙ root_block v

  pub node_is : {w : Walk} → IsGathered image w → (n b : ℕ) → NodeAt w n b → node_block w n ≡ b
  node_is v zero b h = root_block v ∙ root_is v b h
  node_is v (suc n) b h = head_block v h

  -- each number up to the count is that of a node, with its block
  pub node_there : {w : Walk} → IsGathered image w → (n : ℕ) → n ≤ heads w → NodeAt w n (node_block w n)
  node_there {w = w} v zero le = subst (Has w Root) (sym (root_block v)) (root_in v)
  node_there {w = w} v (suc n) le = let x = numbered v (suc n) (omega arith) le in subst (HeadAt w (suc n)) (sym (head_block v x.1)) x.1

  -- extension block k of a file, as a function
  ext_block_new : (n k : ℕ) (r : Role) (b c : ℕ) → r ≡ Ext n k → ext_block_of n k r b c ≡ b
  ext_block_new n k r b c e = grind (arith, common_steps, eq-eqb)

  cond_both : (t u : Bool) (b c a : ℕ) → (t ≡ true → u ≡ true → ⊥) → c ≡ a → cond t (cond u b c) c ≡ a
  cond_both t u b c a h k = grind (arith, common_steps)

  ext_block_old : (n k : ℕ) (r : Role) (b c a : ℕ) → (r ≡ Ext n k → ⊥) → c ≡ a → ext_block_of n k r b c ≡ a
  ext_block_old n k (Ext m i) b c a h z = grind (arith, common_steps, cond_both, eqb-true)
  ext_block_old n k _ b c a h z = z

  ext_is_block : {w : Walk} → IsGathered image w → (n k b : ℕ) → Has w (Ext n k) b → ext_block_in w n k ≡ b
  ext_is_block start n k b (inl e) = grind (arith, common_steps, start)
  ext_is_block start n k b (inr f) = absurd f
  ext_is_block (step {w = w} {r = r} a i b' v d l) n k b (inl e) = ext_block_new n k r b' (ext_block_in w n k) e.0 ∙ e.1
  ext_is_block (step {w = w} {r = r} a i b' v d l) n k b (inr h) = grind (arith, common_steps, ext_block_old, same_of, ext_is_block v n k b h)

  pub member_is : {w : Walk} → IsGathered image w → (n m a : ℕ) → MemberAt image w n m a → member_block w n m ≡ a
  member_is v n zero a h = head_block v h.header
  member_is v n (suc m) a h = ext_is_block v n (suc m) a h

  -- a header stands in a directory that came before
  head_dir_of : (w : Walk) (n p s j a i : ℕ) → Asks image w (Head n p s j) a i
      → ((m k b : ℕ) → Has w (Head m p s k) b → (d : ℕ) × DirAt image w p d) → (d : ℕ) × DirAt image w p d
  head_dir_of w n p s zero a i h f = (a, h.2)
  head_dir_of w n p s (suc j) a i h f = f h.1.0 j a h.1.1

  head_dir : {w : Walk} → IsGathered image w → (n p s j b : ℕ) → Has w (Head n p s j) b → (d : ℕ) × DirAt image w p d
  head_dir start n p s j b (inl e) = let h : second Root ≡ second (Head n p s j) = ap second e.0 in absurd (omega arith)
  head_dir start n p s j b (inr f) = absurd f
  head_dir (step {w = w} {r = r} a i c v d l) n p s j b (inl e) =
      let x = head_dir_of w n p s j a i (subst (λ r. Asks image w r a i) e.0 d) (λ m k b h. head_dir v m p s k b h) in
      (x.0, dir_up image w (r, c) p x.0 x.1)
  head_dir (step {w = w} {r = r} a i c v d l) n p s j b (inr h) = let x = head_dir v n p s j b h in (x.0, dir_up image w (r, c) p x.0 x.1)

  pub asked_dir : {w : Walk} → IsGathered image w → (n p s j a i : ℕ) → Asks image w (Head n p s j) a i → (d : ℕ) × DirAt image w p d
  asked_dir {w = w} v n p s j a i h = head_dir_of w n p s j a i h (λ m k b h. head_dir v m p s k b h)

  -- an extension block is one of a file that came before
  ext_file_of : (w : Walk) (n k a i : ℕ) → Asks image w (Ext n k) a i → ((j b : ℕ) → Has w (Ext n j) b → (h : ℕ) × FileAt image w n h)
      → (h : ℕ) × FileAt image w n h
  ext_file_of w n k a i l m = grind (arith, common_steps)

  pub ext_file : {w : Walk} → IsGathered image w → (n k b : ℕ) → Has w (Ext n k) b → (h : ℕ) × FileAt image w n h
  ext_file start n k b (inl e) = let h : first Root ≡ first (Ext n k) = ap first e.0 in absurd (omega arith)
  ext_file start n k b (inr f) = absurd f
  ext_file (step {w = w} {r = r} a i c v d l) n k b (inl e) = grind (arith, common_steps, ext_file_of, typed_up, ext_file v n)
  ext_file (step {w = w} {r = r} a i c v d l) n k b (inr h) = let x = ext_file v n k b h in (x.0, typed_up (r, c) x.1)

  pub asked_file : {w : Walk} → IsGathered image w → (n k a i : ℕ) → Asks image w (Ext n k) a i → (h : ℕ) × FileAt image w n h
  asked_file {w = w} v n k a i h = ext_file_of w n k a i h (ext_file v n)
