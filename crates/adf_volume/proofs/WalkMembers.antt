-- The tree and the layout of a walk list its members.
use Rattle.std.proofs.Common.{◌≡◌, ℕ, zero, suc, List, [], ◌∷◌, ◌++◌, inl, inr, ◌+◌, ◌*◌, ◌/◌, ◌<◌, ◌≤◌, length, refl, sym, ap, subst, ◌∙◌, arith, Bool, true}
use Rattle.std.proofs.Common.{false, cond, eq-eqb, append-nil, rules, ◌==◌, ◌&&◌}
use Rattle.std.proofs.{lemmas.Bool.eqb-true, lemmas.Grind.common_steps}
use Rattle.adf_blocks.specs.declared.layout.TheConstants.{MAP_EXT_PAGES, POINTERS, ROOT_PAGES}
use Rattle.adf_volume.specs.{Lists.At, Image.kind_of, Image.table_word, Image.name_of, Image.root_of, Layout.nodes_from_by, Walk.IsWalkBy, Walk.IsWalkBy.start}
use Rattle.adf_volume.specs.{Walk.IsWalkBy.step, Made.push_head, Made.of_heads, Made.entries_in, Made.places_in}
use Rattle.adf_blocks.specs.Sizes.{blocks, pages_needed}
use Rattle.adf_base.specs.{Hash.slot_by, declared.hash.Letters.Letters}
use Rattle.adf_volume.specs.Walk.{Role, Has, HeadAt, head_count, heads, data_count, NamesPage, Asks, IsDue, Lacks, ext_count_of, Walk, ext_count, NoCauseBy}
use Rattle.adf_volume.specs.Walk.Role.{Root, Page, MapExt, Head, Ext, Data}
use Rattle.adf_volume.specs.Made.{picked, is_page, pages_in, is_map_ext, map_exts_in, is_ext_of, exts_in, push_ext, is_data_of, datas_in, entry_in, place_in}
use Rattle.adf_volume.proofs.{Gathered.ext_counted, Gathered.next_ext, FormDemands.head_slot_is, Lists.at_below, Lists.at_some, Lists.at_old, Lists.at_new}
use Rattle.adf_volume.proofs.{Lists.at_snoc, Lists.snoc_length, Chains.chain_snoc, Roles.asks_number, Roles.head_at, Roles.head_in, Roles.head_role}
use Rattle.adf_volume.proofs.{Roles.new_number, Roles.no_head, Walks.page_word, Walks.is_there, Walks.of_walk, MemberFacts.kept, MemberFacts.there}
use Rattle.adf_volume.proofs.{MemberFacts.enough, MemberFacts.map_ext_down, PartDemands.part_holds_by, Comparisons.both_equal, Comparisons.equal_both}

-- the blocks that a test picks are those of one kind of role, by their numbers
pub record Lists (f : Role → Bool) (role : ℕ → Role) (w : Walk) : Type 0 where
  pub to : (k b : ℕ) → Has w (role k) b → At (picked f w) k b
  pub from : (k b : ℕ) → At (picked f w) k b → Has w (role k) b

-- a role that is lacked has no place yet
-- a test picks at most all members
pub picked_within : (f : Role → Bool) (w : Walk) → length (picked f w) ≤ length w
picked_within f [] = omega arith
picked_within f (x ∷ w) = grind (arith, common_steps, picked_within f w, snoc_length (picked f w) x.1)

not_yet : {f : Role → Bool} {role : ℕ → Role} {w : Walk} → Lists f role w → (k : ℕ) → Lacks w (role k) → length (picked f w) ≤ k
not_yet {f = f} {role = role} {w = w} old k lacks =
    let low : k < length (picked f w) → ⊥ = (λ u. let x = at_some (picked f w) k u in lacks (role k) x.0 (old.from k x.0 x.1) (refl, refl, refl)) in
    omega arith

module _ (f : Role → Bool) (role : ℕ → Role) (own : (k : ℕ) → f (role k) ≡ true) where
  -- the root alone has none
  pub none_listed : (c : ℕ) → f Root ≡ false → Lists f role ((Root, c) ∷ [])
  none_listed c z = search rules

  -- one member more, which is the next one where the test picks it
  pub one_more : (w : Walk) (q : Role) (c : ℕ) → ((k m : ℕ) → role k ≡ role m → k ≡ m) → Lists f role w
      → (f q ≡ true → q ≡ role (length (picked f w))) → Lists f role ((q, c) ∷ w)
  one_more w q c apart old next = grind (arith, common_steps, old, at_old, at_new, at_snoc)

-- what is made of each header
module _ {X : Type 0} (f : ℕ → ℕ → ℕ → X) where
  head_up : (q : Role) (b : ℕ) (xs : List X) (i : ℕ) (x : X) → At xs i x → At (push_head f q b xs) i x
  head_up (Head n p s j) b xs i x h = at_old xs (f n p b ∷ []) i x h
  head_up _ b xs i x h = h

  head_length : (r : Role) (b m : ℕ) (xs : List X) → length xs ≡ m → length (push_head f r b xs) ≡ head_count r m
  head_length (Head n p s j) b m xs h = snoc_length xs (f n p b) ∙ ap suc h
  head_length _ b m xs h = h

  heads_length : (w : Walk) → length (of_heads f w) ≡ heads w
  heads_length [] = refl
  heads_length (x ∷ w) = head_length x.0 x.1 (heads w) (of_heads f w) (heads_length w)

  head_has : {letters : Letters} (image : List ℕ) {w : Walk} {i b : ℕ} → IsWalkBy letters image w → (h : HeadAt w (suc i) b)
      → At (of_heads f w) i (f (suc i) h.parent b)
  head_has image start h = absurd (no_head h)
  head_has image {i = i} {b = b} (step {w = w} {r = q} {b = c} {a = a} {i = k} v d e g) h =
      let made : X = f (suc i) h.parent b in
      elim h.has [
        | inl x ↦
            let last = at_new (of_heads f w) made i (omega (arith, new_number image w h a k x.0 d.asked, heads_length w)) in
            subst (λ q. At (push_head f q c (of_heads f w)) i made) (sym x.0)
            (subst (λ c. At (of_heads f w ++ f (suc i) h.parent c ∷ []) i made) (sym x.1) last)
        | inr x ↦ head_up q c (of_heads f w) i made (head_has image v (head_in h x))
      ]

module _ (image : List ℕ) (full : Walk) where
  pub entries_length : (w : Walk) → length (entries_in image full w) ≡ heads w
  entries_length w = heads_length (entry_in image full) w

  pub places_length : (w : Walk) → length (places_in full w) ≡ heads w
  places_length w = heads_length (λ n p b. place_in full n b) w

  pub entry_has : {letters : Letters} {w : Walk} {i b : ℕ} → IsWalkBy letters image w → (h : HeadAt w (suc i) b)
      → At (entries_in image full w) i (entry_in image full (suc i) h.parent b)
  entry_has v h = head_has (entry_in image full) image v h

  pub place_has : {letters : Letters} {w : Walk} {i b : ℕ} → IsWalkBy letters image w → HeadAt w (suc i) b
      → At (places_in full w) i (place_in full (suc i) b)
  place_has v h = head_has (λ n p b. place_in full n b) image v h

ext_length : (n : ℕ) (r : Role) (b m : ℕ) (xs : List ℕ) → length xs ≡ m → length (push_ext n r b xs) ≡ ext_count_of n r m
ext_length n (Ext i k) b m xs h = grind (arith, common_steps, snoc_length)
ext_length n _ b m xs h = h

-- the extension blocks of a file are as many as are counted
pub exts_length : (w : Walk) (n : ℕ) → length (exts_in w n) ≡ ext_count w n
exts_length [] n = refl
exts_length (x ∷ w) n = ext_length n x.0 x.1 (ext_count w n) (exts_in w n) (exts_length w n)

ext_only : (n : ℕ) (q : Role) → is_ext_of n q ≡ true → (k : ℕ) × (q ≡ Ext n k)
ext_only n (Ext m k) t = (k, ap (λ m. Ext m k) (sym (eqb-true n m t)))
ext_only n _ t = cc

pub data_only : (n : ℕ) (q : Role) → is_data_of n q ≡ true → (k : ℕ) × (q ≡ Data n k)
data_only n (Data m k) t = (k, ap (λ m. Data m k) (sym (eqb-true n m t)))
data_only n _ t = cc

page_only : (q : Role) → is_page q ≡ true → (k : ℕ) × (q ≡ Page k)
page_only (Page k) t = (k, refl)
page_only _ t = cc

map_ext_only : (q : Role) → is_map_ext q ≡ true → (k : ℕ) × (q ≡ MapExt k)
map_ext_only (MapExt k) t = (k, refl)
map_ext_only _ t = cc

module _ {letters : Letters} (image : List ℕ) where
  -- the extension blocks, in order
  exts : (n : ℕ) {w : Walk} → IsWalkBy letters image w → Lists (is_ext_of n) (λ k. Ext n (suc k)) w
  exts n start = none_listed (is_ext_of n) (λ k. Ext n (suc k)) (λ k. eq-eqb n n refl) (root_of image) refl
  exts n (step {w = w} {r = q} {b = c} {a = a} {i = i} v d e g) =
      one_more (is_ext_of n) (λ k. Ext n (suc k)) (λ k. eq-eqb n n refl) w q c (λ k m z. cc) (exts n v)
      (λ t. let x = ext_only n q t in
      let o = of_walk image v in
      let z : x.0 ≡ suc (ext_count w n) =
      next_ext image w o n x.0 a i (subst (λ r. Asks image w r a i) x.1 d.asked) (subst (Lacks w) x.1 d.lacks) (ext_counted image o n) in
      x.1 ∙ ap (Ext n) (z ∙ ap suc (sym (exts_length w n))))

  pub ext_has : {w : Walk} → IsWalkBy letters image w → (n k b : ℕ) → Has w (Ext n (suc k)) b → At (exts_in w n) k b
  ext_has v n k b h = (exts n v).to k b h

  pub has_ext : (w : Walk) → IsWalkBy letters image w → (n k b : ℕ) → At (exts_in w n) k b → Has w (Ext n (suc k)) b
  has_ext w v n k b h = (exts n v).from k b h

  -- the data blocks
  next_data_block : (w : Walk) → (n : ℕ) → IsWalkBy letters image w → Lists (is_data_of n) (λ k. Data n (suc k)) w → (k a i b : ℕ)
      → IsDue image w (Data n (suc k)) a i → NoCauseBy letters image w (Data n (suc k)) a b → k ≡ length (datas_in w n)
  next_data_block w n v ih k a i b d g =
      let low = not_yet ih k d.lacks in
      let m : ℕ = length (datas_in w n) in
      let f = d.asked.0 in
      let high : m < k → ⊥ = (λ l.
      let f2 : k < data_count image f.0 = f.2 in
      let en = enough image w v (λ r b h. kept image v r b h) n k a i b f.0 d (part_holds_by letters image w (Data n (suc k)) a b g) f.1 f.2 in
      let t = there image w v (λ r b h. kept image v r b h) n (m / POINTERS) f.0 f.1 (omega arith) in
      let x = is_there image w (Data n (suc m)) (Data n (suc k)) a i t.0 (table_word m) d ((f.0, f.1, omega arith), t.1, refl)
      (omega arith, (λ z. omega arith), (λ z y. omega arith)) (omega arith) in
      omega (arith, at_below (datas_in w n) m x.0 (ih.to m x.0 x.1))) in
      omega arith

  datas : (n : ℕ) {w : Walk} → IsWalkBy letters image w → Lists (is_data_of n) (λ k. Data n (suc k)) w
  datas n start = none_listed (is_data_of n) (λ k. Data n (suc k)) (λ k. eq-eqb n n refl) (root_of image) refl
  datas n (step {w = w} {r = q} {b = c} {a = a} {i = i} v d e g) =
      one_more (is_data_of n) (λ k. Data n (suc k)) (λ k. eq-eqb n n refl) w q c (λ k m z. cc) (datas n v)
      (λ t. let x = data_only n q t in
      x.1 ∙ ap (Data n) (number x.0 (datas n v) (subst (λ r. IsDue image w r a i) x.1 d) (subst (λ r. NoCauseBy letters image w r a c) x.1 g)))
    where
      number : (m : ℕ) → Lists (is_data_of n) (λ k. Data n (suc k)) w → IsDue image w (Data n m) a i → NoCauseBy letters image w (Data n m) a c
          → m ≡ suc (length (datas_in w n))
      number zero old d g = absurd d.asked
      number (suc k) old d g = ap suc (next_data_block w n v old k a i c d g)

  pub data_has : (w : Walk) → IsWalkBy letters image w → (n k b : ℕ) → Has w (Data n (suc k)) b → At (datas_in w n) k b
  data_has w v n k b h = (datas n v).to k b h

  pub has_data : (w : Walk) → IsWalkBy letters image w → (n k b : ℕ) → At (datas_in w n) k b → Has w (Data n (suc k)) b
  has_data w v n k b h = (datas n v).from k b h

  -- what names a page has the extension blocks of the pages before it
  earlier_map_ext : (w : Walk) → IsWalkBy letters image w → (k m j a i : ℕ) → m < k → ROOT_PAGES + MAP_EXT_PAGES * j ≤ m → NamesPage image w k a i
      → (b : ℕ) × Has w (MapExt j) b
  earlier_map_ext w v k m j a i l u (inl x) = absurd (omega arith)
  earlier_map_ext w v k m j a i l u (inr x) = map_ext_down image w v x.0 j a x.1 (omega arith)

  next_page : (w : Walk) → IsWalkBy letters image w → Lists is_page Page w → (k a i : ℕ) → IsDue image w (Page k) a i → k ≡ length (pages_in w)
  next_page w v ih k a i d =
      let low = not_yet ih k d.lacks in
      let m : ℕ = length (pages_in w) in
      let f : k < pages_needed (blocks image) = d.asked.0 in
      let high : m < k → ⊥ = (λ l.
      let p = page_word image w m (omega arith) (λ j u. earlier_map_ext w v k m j a i l u d.asked.1) in
      let x = is_there image w (Page m) (Page k) a i p.0 p.1 d p.2 (omega arith, (λ z. omega arith), (λ z y. omega arith)) (omega arith) in
      omega (arith, at_below (pages_in w) m x.0 (ih.to m x.0 x.1))) in
      omega arith

  pub pages : {w : Walk} → IsWalkBy letters image w → Lists is_page Page w
  pages start = none_listed is_page Page (λ k. refl) (root_of image) refl
  pages (step {w = w} {r = q} {b = c} {a = a} {i = i} v d e g) =
      one_more is_page Page (λ k. refl) w q c (λ k m z. cc) (pages v)
      (λ t. let x = page_only q t in x.1 ∙ ap Page (next_page w v (pages v) x.0 a i (subst (λ r. IsDue image w r a i) x.1 d)))

  -- the bitmap extension blocks
  next_map_ext : (w : Walk) → IsWalkBy letters image w → Lists is_map_ext MapExt w → (j a i : ℕ) → IsDue image w (MapExt j) a i
      → j ≡ length (map_exts_in w)
  next_map_ext w v ih zero a i d = let low = not_yet ih 0 d.lacks in omega arith
  next_map_ext w v ih (suc j) a i d = grind (arith, common_steps, not_yet ih (suc j) d.lacks, at_below (map_exts_in w) j a (ih.to j a d.asked.1))

  pub map_exts : {w : Walk} → IsWalkBy letters image w → Lists is_map_ext MapExt w
  map_exts start = none_listed is_map_ext MapExt (λ k. refl) (root_of image) refl
  map_exts (step {w = w} {r = q} {b = c} {a = a} {i = i} v d e g) = search (rules, one_more, map_ext_only, next_map_ext, map_exts v)

  -- the slot of a header's name
  pub slot_is : {w : Walk} {n b : ℕ} → IsWalkBy letters image w → (h : HeadAt w n b) → slot_by letters (name_of image b) ≡ h.slot
  slot_is {b = b} v h = let k = (kept image v (head_role h) b h.has).2 in head_slot_is letters image (kind_of image) b k.0 h.slot k.2

module _ (letters : Letters) (image : List ℕ) (full : Walk) where
  -- the chains, in order
  abbrev chain_in : Walk → ℕ → ℕ → List ℕ
  chain_in w p s = nodes_from_by letters 1 (entries_in image full w) p s

  pub record Chains (w : Walk) : Type 0 where
    pub to : (n p s j b : ℕ) → Has w (Head n p s j) b → At (chain_in w p s) j n
    pub from : (n p s j : ℕ) → At (chain_in w p s) j n → (b : ℕ) × Has w (Head n p s j) b

  none_yet : (w : Walk) → Chains w → (n p s j : ℕ) → Lacks w (Head n p s j) → length (chain_in w p s) ≤ j
  none_yet w ih n p s j lacks =
      let low : j < length (chain_in w p s) → ⊥ = (λ u. let x = at_some (chain_in w p s) j u in let y = ih.from x.0 p s j x.1 in
      lacks (Head x.0 p s j) y.0 y.1 (refl, refl, refl)) in
      omega arith

  next_place : (w : Walk) → Chains w → (n p s j a i : ℕ) → IsDue image w (Head n p s j) a i → j ≡ length (chain_in w p s)
  next_place w ih n p s zero a i d = let low = none_yet w ih n p s 0 d.lacks in omega arith
  next_place w ih n p s (suc j) a i d =
      let h = d.asked.1 in
      let low = none_yet w ih n p s (suc j) d.lacks in
      let before = at_below (chain_in w p s) j h.0 (ih.to h.0 p s j a h.1) in
      omega arith

  -- the chains with one more header
  chain_head : (w : Walk) (n p s j c q u : ℕ) → n ≡ suc (heads w) →
      nodes_from_by letters 1 (push_head (entry_in image full) (Head n p s j) c (entries_in image full w)) q u
      ≡ chain_in w q u ++ cond ((p == q) && (slot_by letters (name_of image c) == u)) (n ∷ []) []
  chain_head w n p s j c q u z = grind (arith, common_steps, entries_length, chain_snoc letters, chain_in)

  chain_old : (w : Walk) (r : Role) (c n p s j : ℕ) → ((m q u k : ℕ) → r ≡ Head m q u k → m ≡ suc (heads w)) → At (chain_in w p s) j n
      → At (nodes_from_by letters 1 (push_head (entry_in image full) r c (entries_in image full w)) p s) j n
  chain_old w (Head m q u k) c n p s j num h =
      subst (λ xs. At xs j n) (sym (chain_head w m q u k c p s (num m q u k refl)))
      (at_old (chain_in w p s) (cond ((q == p) && (slot_by letters (name_of image c) == s)) (m ∷ []) []) j n h)
  chain_old w _ c n p s j num h = h

  chain_split : (w : Walk) (r : Role) (c n p s j : ℕ)
      → ((m q u k : ℕ) → r ≡ Head m q u k → (m ≡ suc (heads w)) × (slot_by letters (name_of image c) ≡ u) × (k ≡ length (chain_in w q u))) →
      ((n p s j : ℕ) → At (chain_in w p s) j n → (b : ℕ) × Has w (Head n p s j) b) →
      At (nodes_from_by letters 1 (push_head (entry_in image full) r c (entries_in image full w)) p s) j n
      → (b : ℕ) × Has ((r, c) ∷ w) (Head n p s j) b
  chain_split w (Head m q u k) c n p s j num ih h =
      let nm = num m q u k refl in
      go ((q == p) && (slot_by letters (name_of image c) == s)) refl (subst (λ xs. At xs j n) (chain_head w m q u k c p s nm.0) h)
    where
      old : At (chain_in w p s) j n → (b : ℕ) × Has ((Head m q u k, c) ∷ w) (Head n p s j) b
      old y = let x = ih n p s j y in (x.0, inr x.1)

      go : (t : Bool) → ((q == p) && (slot_by letters (name_of image c) == s)) ≡ t → At (chain_in w p s ++ cond t (m ∷ []) []) j n
          → (b : ℕ) × Has ((Head m q u k, c) ∷ w) (Head n p s j) b
      go true z y =
          let nm = num m q u k refl in
          let e = both_equal q p (slot_by letters (name_of image c)) s z in
          let e0 : q ≡ p = e.0 in
          let e1 : u ≡ s = sym nm.1 ∙ e.1 in
          elim (at_snoc (chain_in w p s) m j n y) [
            | inl o ↦ old o
            | inr o ↦
                let o0 : j ≡ length (chain_in w p s) = o.0 in
                let o1 : m ≡ n = o.1 in
                let k0 : k ≡ j = nm.2 ∙ ap (λ q. length (chain_in w q u)) e0 ∙ ap (λ u. length (chain_in w p u)) e1 ∙ sym o0 in
                let f : Head m q u k ≡ Head n p s j = cc in
                (c, inl (f, refl))
          ]
      go false z y = old (subst (λ xs. At xs j n) (append-nil (chain_in w p s)) y)
  chain_split w _ c n p s j num ih h = let x = ih n p s j h in (x.0, inr x.1)

  pub chains : {w : Walk} → IsWalkBy letters image w → Chains w
  chains start = grind (arith, common_steps)
  chains (step {w = w} {r = r} {b = c} {a = a} {i = i} v d e g) =
      let ih = chains v in
      let num : (m q u k : ℕ) → r ≡ Head m q u k → (m ≡ suc (heads w)) × (slot_by letters (name_of image c) ≡ u) × (k ≡ length (chain_in w q u)) =
      (λ m q u k z.
      let d' = subst (λ r. IsDue image w r a i) z d in (
        asks_number image w m q u k a i d'.asked,
        slot_is image (step v d e g) (head_at m q u k c (inl (z, refl))),
        next_place w ih m q u k a i d',
      )) in
      record {
        to = (λ n p s j b h. elim h [
          | inl y ↦
              let nm = num n p s j y.0 in
              let t : ((p == p) && (slot_by letters (name_of image c) == s)) ≡ true =
              equal_both p p (slot_by letters (name_of image c)) s refl nm.1 in
              subst (λ r. At (nodes_from_by letters 1 (push_head (entry_in image full) r c (entries_in image full w)) p s) j n) (sym y.0)
              (subst (λ xs. At xs j n) (sym (chain_head w n p s j c p s nm.0 ∙ ap (λ t. chain_in w p s ++ cond t (n ∷ []) []) t))
              (at_new (chain_in w p s) n j nm.2))
          | inr y ↦ chain_old w r c n p s j (λ m q u k z. (num m q u k z).0) (ih.to n p s j b y)
        ]);
        from = (λ n p s j h. chain_split w r c n p s j num ih.from h);
      }
