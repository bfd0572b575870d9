-- The facts of each member of a walk when it was added, stated of the walk as it is now.
use Rattle.std.proofs.Common.{◌≡◌, ℕ, zero, suc, List, [], ◌∷◌, inl, inr, ◌+◌, ◌*◌, ◌/◌, ◌<◌, ◌≤◌, ◌≢◌, refl, sym, ap, subst, ◌∙◌, arith, true, nat_lt, rules}
use native.Mathlib.Decide.{dec_le}
use Rattle.adf_blocks.specs.declared.layout.TheConstants.{EXTENSION, FIRST_MAP_EXT, FIRST_POINTER, FIRST_SLOT, MAP_EXT_NEXT, MAP_EXT_PAGES, NEXT_IN_CHAIN}
use Rattle.adf_blocks.specs.declared.layout.TheConstants.{POINTERS, ROOT_PAGES, SIZE, SLOTS}
use Rattle.adf_volume.specs.{Image.word_in, Image.root_of, Image.kind_of, Image.held, Image.table_word, Image.name_of, Demands.AllHold, Demands.page_demands}
use Rattle.adf_volume.specs.{Demands.head_demands_by, Demands.ext_demands, Demands.data_demands, Walk.next_data, Walk.IsWalkBy, Walk.Role.Root, Walk.Role.Page}
use Rattle.adf_volume.specs.{Walk.Role.MapExt, Walk.Role.Head, Walk.Role.Ext, Walk.Role.Data, Walk.IsWalkBy.start, Walk.IsWalkBy.step}
use Rattle.adf_blocks.specs.Sizes.{blocks, pages_needed}
use Rattle.adf_base.specs.declared.hash.Letters.{Letters}
use Rattle.adf_names.specs.Texts.{uppers_by}
use Rattle.adf_volume.specs.Walk.{Role, second, Has, DirAt, FileAt, MemberAt, NamesPage, data_count, Asks, IsDue, ext_count, node_block, Walk, member_block}
use Rattle.adf_volume.proofs.Gathered.{asked_file, ext_counted, member_is, node_is}
use Rattle.adf_volume.proofs.{PartDemands.PartHoldsBy, PartDemands.part_holds_by, Walks.file_is, Walks.is_there, Walks.of_walk}
use Rattle.adf_volume.proofs.Roles.{count_up, dir_is_node, dir_up, member_up, typed_up}
use Rattle.std.proofs.{lemmas.Bool.cond-true, lemmas.Bool.cond-false, lemmas.Bool.le-ltb, lemmas.Bool.lt-ltb, lemmas.Grind.common_steps}

-- the word that names a header
abbrev pub HeadNamed : List ℕ → Walk → ℕ → ℕ → ℕ → ℕ → Type 0
HeadNamed image w p s zero b = (a : ℕ) × DirAt image w p a × (word_in image a (FIRST_SLOT + s) ≡ b)
HeadNamed image w p s (suc j) b = (m a : ℕ) × Has w (Head m p s j) a × (word_in image a NEXT_IN_CHAIN ≡ b)

abbrev pub ExtNamed : List ℕ → Walk → ℕ → ℕ → ℕ → Type 0
ExtNamed image w n zero b = (a : ℕ) × FileAt image w n a × (word_in image a EXTENSION ≡ b)
ExtNamed image w n (suc k) b = (a : ℕ) × Has w (Ext n (suc k)) a × (word_in image a EXTENSION ≡ b)

-- x is the word that names data block k + 1 of the file with header h, or 0 where it has no such block
pub record IsNext (image : List ℕ) (w : Walk) (n k h x : ℕ) : Type 0 where
  pub inner : k < data_count image h → (c : ℕ) × MemberAt image w n (k / POINTERS) c × (x ≡ word_in image c (table_word k))
  pub last : data_count image h ≤ k → x ≡ 0

-- what holds of a member of a walk with these letters
abbrev pub Kept : Letters → List ℕ → Walk → Role → ℕ → Type 0
Kept letters image w Root b = Unit {0}
Kept letters image w (Page k) b =
    (k < pages_needed (blocks image)) × ((a i : ℕ) × NamesPage image w k a i × (word_in image a i ≡ b)) × AllHold (page_demands image b)
Kept letters image w (MapExt zero) b = (ROOT_PAGES < pages_needed (blocks image)) × (word_in image (root_of image) FIRST_MAP_EXT ≡ b)
Kept letters image w (MapExt (suc j)) b =
    (ROOT_PAGES + MAP_EXT_PAGES * suc j < pages_needed (blocks image)) × ((a : ℕ) × Has w (MapExt j) a × (word_in image a MAP_EXT_NEXT ≡ b))
Kept letters image w (Head n p s j) b =
    (s < SLOTS) × HeadNamed image w p s j b × ((c : ℕ) × DirAt image w p c × AllHold (head_demands_by letters image (kind_of image) b c s))
Kept letters image w (Ext n zero) b = ⊥
Kept letters image w (Ext n (suc k)) b = ExtNamed image w n k b × ((h : ℕ) × FileAt image w n h × AllHold (ext_demands image b h))
Kept letters image w (Data n zero) b = ⊥
Kept letters image w (Data n (suc k)) b = record {
  head : ℕ;
  file : FileAt image w n head;
  asked : k < data_count image head;
  enough : data_count image head ≤ POINTERS * suc (ext_count w n);
  named : (c : ℕ) × MemberAt image w n (k / POINTERS) c × (word_in image c (table_word k) ≡ b);
  form :
      (next : ℕ) × IsNext image w n (suc k) head next
      × AllHold (data_demands image (kind_of image) b head (suc k) (held (kind_of image) (word_in image head SIZE) (suc k)) next);
}

same_number : (n m p s i j : ℕ) → Head n p s i ≡ Head m p s j → n ≡ m
same_number n m p s i j h = cc

module _ (image : List ℕ) where
  pub names_up : (w : Walk) (x : Role × ℕ) (k a i : ℕ) → NamesPage image w k a i → NamesPage image (x ∷ w) k a i
  names_up w x k a i (inl h) = inl h
  names_up w x k a i (inr h) = inr (h.0, inr h.1, h.2, h.3)

  next_up : (w : Walk) (x : Role × ℕ) (n k h y : ℕ) → IsNext image w n k h y → IsNext image (x ∷ w) n k h y
  next_up w x n k h y z = record { inner = (λ u. let r = z.inner u in (r.0, member_up image w x n (k / POINTERS) r.0 r.1, r.2)); last = z.last }

module _ (letters : Letters) (image : List ℕ) where
  kept_up : (w : Walk) (x : Role × ℕ) (r : Role) (b : ℕ) → Kept letters image w r b → Kept letters image (x ∷ w) r b
  kept_up w x Root b h = tt
  kept_up w x (Page k) b h = (h.0, (h.1.0, h.1.1, names_up image w x k h.1.0 h.1.1 h.1.2, h.1.3), h.2)
  kept_up w x (MapExt zero) b h = h
  kept_up w x (MapExt (suc j)) b h = (h.0, (h.1.0, inr h.1.1, h.1.2))
  kept_up w x (Head n p s zero) b h = (h.0, (h.1.0, dir_up image w x p h.1.0 h.1.1, h.1.2), (h.2.0, dir_up image w x p h.2.0 h.2.1, h.2.2))
  kept_up w x (Head n p s (suc j)) b h = (h.0, (h.1.0, h.1.1, inr h.1.2, h.1.3), (h.2.0, dir_up image w x p h.2.0 h.2.1, h.2.2))
  kept_up w x (Ext n zero) b h = absurd h
  kept_up w x (Ext n (suc zero)) b h = ((h.0.0, typed_up x h.0.1, h.0.2), (h.1.0, typed_up x h.1.1, h.1.2))
  kept_up w x (Ext n (suc (suc k))) b h = ((h.0.0, inr h.0.1, h.0.2), (h.1.0, typed_up x h.1.1, h.1.2))
  kept_up w x (Data n zero) b h = absurd h
  kept_up w x (Data n (suc k)) b h = search (rules, typed_up, count_up, member_up, next_up)

  -- a header that is asked for has its directory
  asks_dir : {w : Walk} → ((r : Role) (b : ℕ) → Has w r b → Kept letters image w r b) → (n p s j a i : ℕ) → Asks image w (Head n p s j) a i
      → (s < SLOTS) × ((c : ℕ) × DirAt image w p c)
  asks_dir old n p s zero a i h = (h.1, (a, h.2))
  asks_dir old n p s (suc j) a i h = let k = old (Head h.1.0 p s j) a h.1.1 in (k.0, (k.2.0, k.2.1))

module _ {letters : Letters} (image : List ℕ) where
  module _ (w : Walk) (v : IsWalkBy letters image w) (old : (r : Role) (b : ℕ) → Has w r b → Kept letters image w r b) where
    pub there : (n m a : ℕ) → FileAt image w n a → m ≤ ext_count w n → (c : ℕ) × MemberAt image w n m c
    there n zero a f u = (a, f)
    there n (suc m) a f u = ext_counted image (of_walk image v) n m (omega arith)

    -- a file whose data block is due has enough extension blocks
    pub enough : (n k a i b h : ℕ) → IsDue image w (Data n (suc k)) a i → PartHoldsBy letters image w (Data n (suc k)) b → FileAt image w n h
        → k < data_count image h → data_count image h ≤ POINTERS * suc (ext_count w n)
    enough n zero a i b h d g f u = g.enough refl h f
    enough n (suc k) a i b h d g f u =
        let x = is_there image w (Data n 1) (Data n (suc (suc k))) a i h FIRST_POINTER d ((h, f, omega arith), f, refl)
        (omega arith, (λ z. omega arith), (λ z z'. omega arith)) (omega arith) in
        let kp = old (Data n 1) x.0 x.1 in
        let e : node_block w n ≡ h = file_is image w n h v f in
        let e' : node_block w n ≡ kp.head = file_is image w n kp.head v kp.file in
        subst (λ h. data_count image h ≤ POINTERS * suc (ext_count w n)) (sym e' ∙ e) kp.enough

    head_named : (n p s j a i b : ℕ) → Asks image w (Head n p s j) a i → word_in image a i ≡ b → HeadNamed image w p s j b
    head_named n p s zero a i b h e = (a, h.2, ap (word_in image a) (sym h.3) ∙ e)
    head_named n p s (suc j) a i b h e = (h.1.0, a, h.1.1, ap (word_in image a) (sym h.2) ∙ e)

    ext_named : (n k a i b : ℕ) → Asks image w (Ext n (suc k)) a i → word_in image a i ≡ b → ExtNamed image w n k b
    ext_named n zero a i b h e = (a, h.0, ap (word_in image a) (sym h.1) ∙ e)
    ext_named n (suc k) a i b h e = (a, h.0, ap (word_in image a) (sym h.1) ∙ e)

    next_is : (n k h : ℕ) → FileAt image w n h → node_block w n ≡ h → data_count image h ≤ POINTERS * suc (ext_count w n)
        → IsNext image w n k h (next_data image w n k)
    next_is n k h f z en =
        record {
          inner = (λ u.
              let m = there n (k / POINTERS) h f (omega arith) in
              let u' : nat_lt k (data_count image (node_block w n)) ≡ true =
              lt-ltb k (data_count image (node_block w n)) (subst (λ h. k < data_count image h) (sym z) u) in (
                m.0,
                m.1,
                cond-true (nat_lt k (data_count image (node_block w n))) (word_in image (member_block w n (k / POINTERS)) (table_word k)) 0 u'
                    ∙ ap (λ b. word_in image b (table_word k)) (member_is image (of_walk image v) n (k / POINTERS) m.0 m.1),
              ));
          last = (λ u.
              cond-false (nat_lt k (data_count image (node_block w n))) (word_in image (member_block w n (k / POINTERS)) (table_word k)) 0
              (le-ltb k (data_count image (node_block w n)) (subst (λ h. data_count image h ≤ k) (sym z) u)));
        }

    kept_new : (r : Role) (a i b : ℕ) → IsDue image w r a i → word_in image a i ≡ b → PartHoldsBy letters image w r b → Kept letters image w r b
    kept_new Root a i b d e g = tt
    kept_new (Page k) a i b d e g = (d.asked.0, (a, i, d.asked.1, e), g.form)
    kept_new (MapExt zero) a i b d e g = search rules
    kept_new (MapExt (suc j)) a i b d e g = (d.asked.0, (a, d.asked.1, ap (word_in image a) (sym d.asked.2) ∙ e))
    kept_new (Head n p s j) a i b d e g =
        let ad = asks_dir letters image old n p s j a i d.asked in
        let c = ad.1 in
        let z : node_block w p ≡ c.0 = node_is image (of_walk image v) p c.0 (dir_is_node image w p c.0 c.1) in
        let form = subst (λ c. AllHold (head_demands_by letters image (kind_of image) b c s)) z g.form in
        (ad.0, head_named n p s j a i b d.asked e, (c.0, c.1, form))
    kept_new (Ext n zero) a i b d e g = absurd d.asked
    kept_new (Ext n (suc k)) a i b d e g =
        let f = asked_file image (of_walk image v) n (suc k) a i d.asked in
        let z : node_block w n ≡ f.0 = file_is image w n f.0 v f.1 in
        (ext_named n k a i b d.asked e, (f.0, f.1, subst (λ h. AllHold (ext_demands image b h)) z g.form))
    kept_new (Data n zero) a i b d e g = absurd d.asked
    kept_new (Data n (suc k)) a i b d e g =
        let f = d.asked.0 in
        let z : node_block w n ≡ f.0 = file_is image w n f.0 v f.1 in
        let en = enough n k a i b f.0 d g f.1 f.2 in
        let form = subst (λ h. AllHold (data_demands image (kind_of image) b h (suc k) (held (kind_of image) (word_in image h SIZE) (suc k))
        (next_data image w n (suc k)))) z g.form in
        record {
          head = f.0;
          file = f.1;
          asked = f.2;
          enough = en;
          named = (a, d.asked.1, ap (word_in image a) (sym d.asked.2) ∙ e);
          form = (next_data image w n (suc k), next_is n (suc k) f.0 f.1 z en, form);
        }

  pub kept : {w : Walk} → IsWalkBy letters image w → (r : Role) (b : ℕ) → Has w r b → Kept letters image w r b
  kept start r b (inl e) = subst (λ r. Kept letters image ((Root, root_of image) ∷ []) r b) e.0 tt
  kept start r b (inr h) = absurd h
  kept (step {w = w} {r = q} {b = c} {a = a} {i = i} v d e g) r b (inl h) =
      search (rules, kept_new, part_holds_by letters, kept_up letters image, kept v)
  kept (step {w = w} {r = q} {b = c} v d e g) r b (inr h) = kept_up letters image w (q, c) r b (kept v r b h)

  -- a bitmap extension block has all before it
  pub map_ext_down : (w : Walk) → IsWalkBy letters image w → (j i b : ℕ) → Has w (MapExt j) b → i ≤ j → (c : ℕ) × Has w (MapExt i) c
  map_ext_down w v zero i b h l = let e : 0 ≡ i = omega arith in (b, subst (λ i. Has w (MapExt i) b) e h)
  map_ext_down w v (suc j) i b h l =
      elim (dec_le i j) [
        | yes u ↦ let k = (kept v (MapExt (suc j)) b h).1 in map_ext_down w v j i k.0 k.1 u
        | no u ↦ let e : suc j ≡ i = omega arith in (b, subst (λ i. Has w (MapExt i) b) e h)
      ]

  pub map_ext_low : (w : Walk) (j b : ℕ) → IsWalkBy letters image w → Has w (MapExt j) b
      → ROOT_PAGES + MAP_EXT_PAGES * j < pages_needed (blocks image)
  map_ext_low w zero b v h = (kept v (MapExt 0) b h).0
  map_ext_low w (suc j) b v h = (kept v (MapExt (suc j)) b h).0

  -- equal names do not stand in one chain
  pub new_names : {w : Walk} → IsWalkBy letters image w → (n m p s i j b c : ℕ) → Has w (Head n p s i) b → Has w (Head m p s j) c → n ≢ m
      → uppers_by letters (name_of image b) ≢ uppers_by letters (name_of image c)
  new_names start n m p s i j b c (inl e) h ne z = let x : second Root ≡ second (Head n p s i) = ap second e.0 in absurd (omega arith)
  new_names start n m p s i j b c (inr e) h ne z = e
  new_names (step {w = w} {r = q} {b = b'} {a = a} v d e g) n m p s i j b c (inl h) (inl k) ne z = grind (arith, common_steps, same_number)
  new_names (step {w = w} {r = q} {b = b'} {a = a} v d e g) n m p s i j b c (inl h) (inr k) ne z = grind (arith, common_steps, part_holds_by letters)
  new_names (step {w = w} {r = q} {b = b'} {a = a} v d e g) n m p s i j b c (inr h) (inl k) ne z = grind (arith, common_steps, part_holds_by letters)
  new_names (step v d e g) n m p s i j b c (inr h) (inr k) ne z = new_names v n m p s i j b c h k ne z

  pub in_range : {w : Walk} → IsWalkBy letters image w → 4 ≤ blocks image → (r : Role) (b : ℕ) → Has w r b → (2 ≤ b) × (b < blocks image)
  in_range start four r b (inl e) = let z : root_of image ≡ b = e.1 in omega arith
  in_range start four r b (inr h) = absurd h
  in_range (step {w = w} {r = q} {b = c} {a = a} v d e g) four r b (inl h) = grind (arith, common_steps, part_holds_by letters)
  in_range (step v d e g) four r b (inr h) = in_range v four r b h
