-- A walk comes from one position to the next: past a part, and past parts that are not asked for.
-- Letters as in specs/Positions; u says that the walk has come to a position, v that its parts were asked for.
use Rattle.std.proofs.Common.{◌≡◌, ◌≢◌, ℕ, zero, suc, List, [], ◌∷◌, inl, inr, ◌<◌, ◌≤◌, refl, ap, subst, arith}
use Rattle.std.proofs.lemmas.Grind.{common_steps}
use native.Mathlib.Decide.{ℕ_discrete}
use Rattle.adf_blocks.specs.declared.layout.TheConstants.{SECONDARY_TYPE, ST_DIR, ST_FILE}
use Rattle.adf_blocks.specs.Sizes.{blocks, pages_needed}
use Rattle.adf_volume.specs.{Image.root_of, Image.word_in, Walk.Role.Root, Walk.Role.Page, Walk.Role.MapExt, Walk.Role.Head, Walk.Role.Ext, Walk.Role.Data}
use Rattle.adf_volume.specs.Walk.{Role, first, second, third, Before, Same, TypedAt, NodeAt, DirAt, FileAt, Asks, Lacks, heads, ext_count, Walk}
use Rattle.adf_volume.specs.Positions.{Position, IsBelow, IsNoLater, IsUpTo, before_node, before_page, behind, in_map, position_of}
use Rattle.adf_volume.proofs.{AsksSplit.gathered_split, FormDemands.dir_not_file}
use Rattle.adf_volume.proofs.Gathered.{IsGathered, asked_dir, asked_file, dir_number, ext_counted, number_of, one_head}

-- roles of one place have one position
pub same_position : (r q : Role) → Same r q → position_of r ≡ position_of q
same_position r q e = λ i. record { first = e.0 i; second = e.1 i; third = e.2 i }

pub same_behind : (r q : Role) → Same r q → behind r ≡ behind q
same_behind r q e = λ i. record { first = e.0 i; second = e.1 i; third = suc (e.2 i) }

-- what comes before the first position of a chain is in an earlier one
low_second : (q : Role) (x : Position) → IsBelow q x → x.third ≡ 0 → first q ≡ x.first → second q < x.second
low_second q x u e f = grind (arith, common_steps)

-- what comes before the first position of a node is of an earlier one
pub low_first : (q : Role) (x : Position) → IsBelow q x → x.second ≡ 0 → x.third ≡ 0 → first q < x.first
low_first q x u d e = grind (arith, common_steps, low_second)

-- nothing comes before what comes before it
clash : (r q : Role) → Before r q → IsBelow q (position_of r) → ⊥
clash r q before below = grind arith

module _ (image : List ℕ) {w : Walk} (v : IsGathered image w) where
  -- no node is both a directory and a file
  pub dir_or_file : (n a b : ℕ) → DirAt image w n a → FileAt image w n b → ⊥
  dir_or_file zero a b d f = let x = number_of image v f.header in omega arith
  dir_or_file (suc n) a b d f =
      dir_not_file image b (subst (λ a. word_in image a SECONDARY_TYPE ≡ ST_DIR) (one_head image v d.header f.header).1 d.type) f.type

  -- the file of a data block that is asked for
  data_file : (n k a i : ℕ) → Asks image w (Data n k) a i → (h : ℕ) × FileAt image w n h
  data_file n zero a i h = absurd h
  data_file n (suc k) a i h = (h.0.0, h.0.1)

  -- a walk asks for nothing of the nodes that it lacks
  asked_low : (q : Role) (a i : ℕ) → Asks image w q a i → first q ≤ suc (heads w)
  asked_low Root a i h = absurd h
  asked_low (Page k) a i h = omega arith
  asked_low (MapExt k) a i h = omega arith
  asked_low (Head m p t j) a i h = let x = asked_dir image v m p t j a i h in let y = dir_number image v p x.0 x.1 in omega arith
  asked_low (Ext m k) a i h = let x = asked_file image v m k a i h in let y = number_of image v x.1.header in omega arith
  asked_low (Data m k) a i h = let x = data_file m k a i h in let y = number_of image v x.1.header in omega arith

module _ (image : List ℕ) {w over : Walk} where
  -- the walk has come to a later position, where it asks for nothing between
  moved : {x y : Position} → IsUpTo image w over x → IsNoLater x y → ((q : Role) (a i : ℕ) → Asks image w q a i → IsBelow q y → IsBelow q x)
      → IsUpTo image w over y
  moved u le none = grind (arith, common_steps)

  module _ (r : Role) (u : IsUpTo image w over (position_of r)) where
    -- the part at the position is neither taken nor skipped
    pub not_taken : Lacks w r
    not_taken q b h e = let x = u.taken q b h in omega arith

    pub not_skipped : Lacks over r
    not_skipped q b h e = let x = u.skipped q b h in omega arith

    below_behind : (q : Role) → IsBelow q (behind r) → (Same q r → ⊥) → IsBelow q (position_of r)
    below_behind q x other = grind (arith, common_steps, other)

    own_below : (q : Role) → r ≡ q → IsBelow q (behind r)
    own_below q e = subst (λ q. IsBelow q (behind r)) e (omega arith)

    later : (q : Role) → IsBelow q (position_of r) → IsBelow q (behind r)
    later q x = omega arith

    -- past a part that is skipped
    pub past_skipped : (b : ℕ) → IsUpTo image w ((r, b) ∷ over) (behind r)
    past_skipped b = record {
      taken = (λ q c h. later q (u.taken q c h));
      skipped = (λ q c h. elim h [ inl e ↦ own_below q e.0 | inr k ↦ later q (u.skipped q c k) ]);
      gone = (λ q a i h l m x.
          u.gone q a i h l (λ z c k. m z c (inr k)) (below_behind q x (λ e. m r b (inl (refl, refl)) (omega arith))));
    }

    -- past a part that is taken
    pub past_taken : IsGathered image w → (a i b : ℕ) → Asks image w r a i → IsUpTo image ((r, b) ∷ w) over (behind r)
    past_taken v a i b asked = record {
      taken = (λ q c h. elim h [ inl e ↦ own_below q e.0 | inr k ↦ later q (u.taken q c k) ]);
      skipped = (λ q c h. later q (u.skipped q c h));
      gone = gone;
    }
      where
        gone : (q : Role) (c k : ℕ) → Asks image ((r, b) ∷ w) q c k → Lacks ((r, b) ∷ w) q → Lacks over q → IsBelow q (behind r) → ⊥
        gone q c k h l m x =
            let below : IsBelow q (position_of r) = below_behind q x (λ e. l r b (inl (refl, refl)) (omega arith)) in
            elim (gathered_split image v r a i b asked q c k h) [
              | inl y ↦
                  let same : Same y.0 q = y.2 in
                  u.gone y.0 c k y.1 (λ z d n e. l z d (inr n) (omega arith)) (λ z d n e. m z d n (omega arith)) (omega arith)
              | inr before ↦ clash r q before below
            ]

  -- behind a header that the walk lacks, nothing of its chain is asked for
  pub chain_broken : {p s j : ℕ} → IsUpTo image w over (position_of (Head 0 p s j)) → (n a i : ℕ) → Asks image w (Head n p s (suc j)) a i → ⊥
  chain_broken {p} {s} {j} u n a i h = let lt : j < j = (u.taken (Head h.1.0 p s j) a h.1.1).2 refl refl in omega arith

  -- nor an extension block behind one that it lacks
  pub exts_broken : {n k : ℕ} → IsUpTo image w over (position_of (Ext n (suc k))) → (a i : ℕ) → Asks image w (Ext n (suc (suc k))) a i → ⊥
  exts_broken {n} {k} u a i h = let lt : suc k < suc k = (u.taken (Ext n (suc k)) a h.0).2 refl refl in omega arith

  -- nor a page or a bitmap extension block behind a bitmap extension block that it lacks
  pub map_broken : (j : ℕ) → IsUpTo image w over (position_of (MapExt j)) → (q : Role) (a i : ℕ) → Asks image w q a i → first q ≡ 0
      → third q < suc (third (MapExt j))
  map_broken j h q a i k l = grind (arith, common_steps)

  -- a node ends where all that is asked for in it comes before the position
  end_at : {x : Position} → IsUpTo image w over x → ((q : Role) (a i : ℕ) → Asks image w q a i → first q ≡ x.first → IsBelow q x)
      → IsUpTo image w over (before_node x.first)
  end_at {x} u low = grind (arith, common_steps, low, moved, low_first)

  -- behind the bitmap come the nodes
  pub end_map : {z : ℕ} → IsUpTo image w over (in_map z) → ((q : Role) (a i : ℕ) → Asks image w q a i → first q ≡ 0 → third q < z)
      → IsUpTo image w over (before_node 0)
  end_map {z} u few = grind (arith, common_steps, few, end_at)

  pub end_pages : (k : ℕ) → pages_needed (blocks image) ≤ k → IsUpTo image w over (before_page k) → IsUpTo image w over (before_node 0)
  end_pages k le u = grind (arith, common_steps, end_map)

  -- a file's blocks begin with extension block 1
  pub enter_file : (n : ℕ) → IsUpTo image w over (before_node n) → IsUpTo image w over (position_of (Ext n 1))
  enter_file n u = grind (arith, common_steps, moved)

  -- the chain of slot s of directory p ends where no header is asked for
  pub end_chain : (p s j : ℕ) → IsUpTo image w over (position_of (Head 0 p s j)) → ((n a i : ℕ) → Asks image w (Head n p s j) a i → ⊥)
      → IsUpTo image w over (position_of (Head 0 p (suc s) 0))
  end_chain p s j u ends = moved u (omega arith) none
    where
      low : (n m a i : ℕ) → Asks image w (Head n p s m) a i → (m ≡ j → ⊥) → m < j
      low n zero a i h ne = omega arith
      low n (suc m) a i h ne = let x = u.taken (Head h.1.0 p s m) a h.1.1 in omega arith

      none : (q : Role) (a i : ℕ) → Asks image w q a i → IsBelow q (position_of (Head 0 p (suc s) 0)) → IsBelow q (position_of (Head 0 p s j))
      none (Head n q t m) a i h y = elim (ℕ_discrete q p) [
        | no ne ↦ omega arith
        | yes e ↦ elim (ℕ_discrete t s) [
          | no ne ↦ (let x = low_second (Head n q t m) (position_of (Head 0 p (suc s) 0)) y refl (ap suc e) in omega arith)
          | yes f ↦
              let here : Asks image w (Head n p s m) a i =
              subst (λ q. Asks image w (Head n q s m) a i) e (subst (λ t. Asks image w (Head n q t m) a i) f h) in
              let lt : m < j = low n m a i here (λ g. ends n a i (subst (λ m. Asks image w (Head n p s m) a i) g here)) in
              omega arith
        ]
      ]
      none _ a i h y = omega arith

  -- the extension blocks of file n end where the next is not asked for
  pub end_exts : (n k : ℕ) → IsUpTo image w over (position_of (Ext n (suc k))) → ((a i : ℕ) → Asks image w (Ext n (suc k)) a i → ⊥)
      → IsUpTo image w over (position_of (Data n 1))
  end_exts n k u ends = grind (arith, common_steps, moved)

  module _ (v : IsGathered image w) where
    -- a file that is next has no extension block yet
    pub no_exts : (n : ℕ) → IsUpTo image w over (before_node n) → ext_count w n ≡ 0
    no_exts n u = grind (arith, common_steps, ext_counted)

    -- a directory has no file's blocks
    pub enter_dir : (p a : ℕ) → DirAt image w p a → IsUpTo image w over (before_node p) → IsUpTo image w over (position_of (Head 0 p 0 0))
    enter_dir p b d u = moved u (omega arith) none
      where
        other : (n : ℕ) → (h : ℕ) × FileAt image w n h → n ≡ p → ⊥
        other n f e = dir_or_file image v p b f.0 d (subst (λ n. FileAt image w n f.0) e f.1)

        none : (q : Role) (a i : ℕ) → Asks image w q a i → IsBelow q (position_of (Head 0 p 0 0)) → IsBelow q (before_node p)
        none (Ext n k) a i h y = let ne = other n (asked_file image v n k a i h) in omega (arith, ne)
        none (Data n k) a i h y = let ne = other n (data_file image v n k a i h) in omega (arith, ne)
        none (Head n q s j) a i h y = let x = low_second (Head n q s j) (position_of (Head 0 p 0 0)) y refl in omega arith
        none _ a i h y = omega arith

    -- a node that is no directory and no file asks for nothing
    pub end_node : (n b : ℕ) → (n ≡ 0 → ⊥) → NodeAt w n b → word_in image b SECONDARY_TYPE ≢ ST_DIR → word_in image b SECONDARY_TYPE ≢ ST_FILE
        → IsUpTo image w over (before_node n) → IsUpTo image w over (before_node (suc n))
    end_node zero b other k no_dir no_file u = absurd (other refl)
    end_node (suc n) b other k no_dir no_file u = end_at u low
      where
        typed : (t : ℕ) → (word_in image b SECONDARY_TYPE ≡ t → ⊥) → (c : ℕ) → TypedAt image w t (suc n) c → ⊥
        typed t other_type c d = other_type (subst (λ c. word_in image c SECONDARY_TYPE ≡ t) (one_head image v d.header k).1 d.type)

        no_part : (m : ℕ) → (c : ℕ) × FileAt image w m c → m ≡ suc n → ⊥
        no_part m f e = typed ST_FILE no_file f.0 (subst (λ m. FileAt image w m f.0) e f.1)

        low : (q : Role) (a i : ℕ) → Asks image w q a i → first q ≡ suc (suc n) → IsBelow q (before_node (suc n))
        low (Head m p t j) a i h e =
            let x = asked_dir image v m p t j a i h in
            let is : p ≡ suc n = omega arith in absurd (typed ST_DIR no_dir x.0 (subst (λ p. DirAt image w p x.0) is x.1))
        low (Ext m k) a i h e = absurd (no_part m (asked_file image v m k a i h) (omega arith))
        low (Data m k) a i h e = absurd (no_part m (data_file image v m k a i h) (omega arith))
        low _ a i h e = omega arith

    -- behind the last data block that is asked for comes the next node
    pub end_datas : (n k b : ℕ) → FileAt image w n b → ((j a i : ℕ) → Asks image w (Data n (suc j)) a i → j < k)
        → IsUpTo image w over (position_of (Data n (suc k))) → IsUpTo image w over (before_node (suc n))
    end_datas n k b f few u = end_at u low
      where
        low : (q : Role) (a i : ℕ) → Asks image w q a i → first q ≡ suc n → IsBelow q (position_of (Data n (suc k)))
        low (Head m p t j) a i h e =
            let x = asked_dir image v m p t j a i h in
            let is : p ≡ n = omega arith in absurd (dir_or_file image v n x.0 b (subst (λ p. DirAt image w p x.0) is x.1) f)
        low (Data m zero) a i h e = absurd h
        low (Data m (suc j)) a i h e =
            let is : m ≡ n = omega arith in
            let lt = few j a i (subst (λ m. Asks image w (Data m (suc j)) a i) is h) in omega arith
        low _ a i h e = omega arith

    -- behind the last node nothing is asked for
    pub end_nodes : (n : ℕ) → heads w < n → IsUpTo image w over (before_node n) → (q : Role) (a i : ℕ) → Asks image w q a i → Lacks w q → Lacks over q
        → ⊥
    end_nodes n lt u q a i h l m = u.gone q a i h l m (let x = asked_low image v q a i h in omega arith)

-- the root alone comes before the first page
pub with_root : (image : List ℕ) → IsUpTo image ((Root, root_of image) ∷ []) [] (before_page 0)
with_root image = grind (arith, common_steps)
