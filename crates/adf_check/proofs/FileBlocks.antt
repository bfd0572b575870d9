-- The blocks of each file are adjacent in the flat lists of a walk.
use Rattle.std.proofs.Common.{◌≡◌, ℕ, suc, List, [], ◌∷◌, ◌++◌, inl, inr, ◌+◌, ◌<◌, ◌≤◌, length, length-append, refl, ap, ◌∙◌, arith, Bool, true, false, cond}
use Rattle.std.proofs.Common.{take, drop, append_assoc, Option, Some, None, ◌==◌, ◌||◌, is_some, nat_lt, not}
use Rattle.std.proofs.lemmas.Bool.{eqb-true, false_from_ne_true, le-ltb, lt-ltb, ltb-false, ltb-true, not-true, Decides.nat_tests, Decides.nat_tests}
use Rattle.std.proofs.{lemmas.List.append-nil, Math.Seq.drop-append_seam, Math.Seq.take-append_seam, lemmas.Grind.common_steps}
use Rattle.adf_volume.specs.{Image.root_of, Made.picked, Made.is_ext_of, Made.exts_in, Made.is_data_of, Made.datas_in}
use Rattle.adf_volume.specs.Walk.{Role, first, Has, Walk, Role.Root, Role.Ext, Role.Data, IsWalkBy.start, IsWalkBy.step}
use Rattle.adf_volume.proofs.{Lists.snoc_length, WalkOrder.rises}
use Rattle.adf_check.specs.{Store.ext_file, Store.data_file, Store.file_blocks, Store.is_below, Store.blocks_before, Own.IsOwnWalk}

-- a test that passes whatever another one passes picks no fewer blocks
picked_fewer : (f g : Role → Bool) (w : Walk) → ((r : Role) → f r ≡ true → g r ≡ true) → length (picked f w) ≤ length (picked g w)
picked_fewer f g [] h = omega arith
picked_fewer f g (x ∷ w) h = grind (arith, common_steps, snoc_length, picked_fewer f g w h)

-- two tests that agree on the members of a walk pick the same blocks
picked_same : (f g : Role → Bool) (w : Walk) → ((r : Role) (b : ℕ) → Has w r b → f r ≡ g r) → picked f w ≡ picked g w
picked_same f g [] h = refl
picked_same f g (x ∷ w) h =
    let same = h x.0 x.1 (inl (refl, refl)) in
    let ih = picked_same f g w (λ r b y. h r b (inr y)) in
    λ i. cond (same i) (ih i ++ x.1 ∷ []) (ih i)

picked_none : (f : Role → Bool) (w : Walk) → ((r : Role) (b : ℕ) → Has w r b → f r ≡ false) → picked f w ≡ []
picked_none f w h = picked_same f (λ _. false) w h ∙ none w
  where
    none : (w : Walk) → picked (λ _. false) w ≡ []
    none [] = refl
    none (x ∷ w) = none w

abbrev is_file : ℕ → Option ℕ → Bool
is_file n None = false
is_file n (Some m) = n == m

abbrev is_later : ℕ → Option ℕ → Bool
is_later n None = false
is_later n (Some m) = not (nat_lt m n)

abbrev ComesAt : Role → Option ℕ → Type 0
ComesAt r None = Unit {0}
ComesAt r (Some n) = first r ≡ suc n

-- a role that is told to be of a file comes at the file's node
abbrev pub TellsFile : (Role → Option ℕ) → Type 0
TellsFile file = (r : Role) → ComesAt r (file r)

pub ext_tells : TellsFile ext_file
ext_tells (Ext n k) = refl
ext_tells _ = tt

pub data_tells : TellsFile data_file
data_tells (Data n k) = refl
data_tells _ = tt

module _ (image : List ℕ) (file : Role → Option ℕ) (tells : TellsFile file) where
  -- a role of a later node is of no file below m
  pub not_below : (m : ℕ) (r : Role) → m < first r → is_below m (file r) ≡ false
  not_below m r h = grind (arith, common_steps, le-ltb)

  -- where no role is of a later node, all files are below n
  pub all_before : (w : Walk) (n : ℕ) → ((r : Role) (b : ℕ) → Has w r b → first r ≤ n)
      → length (file_blocks file w) ≡ blocks_before file w n
  all_before w n h = grind (arith, common_steps, picked_same, lt-ltb)

  -- no file's node is below the root's
  none_before : (w : Walk) → blocks_before file w 0 ≡ 0
  none_before w = grind (arith, common_steps, picked_none, le-ltb)

  -- what `all` picks is what is of files below n, and then what `rest` picks, which is of later nodes
  module _ (n : ℕ) (all rest : Role → Bool) (parts : (r : Role) → all r ≡ (is_below n (file r) || rest r))
      (from : (r : Role) → rest r ≡ true → n < first r) where
    abbrev low : Walk → List ℕ
    low w = picked (λ r. is_below n (file r)) w

    one_more : (r : Role) (b : ℕ) (w : Walk) → picked all w ≡ low w ++ picked rest w → (is_below n (file r) ≡ true → picked rest w ≡ [])
        → picked all ((r, b) ∷ w) ≡ low ((r, b) ∷ w) ++ picked rest ((r, b) ∷ w)
    one_more r b w ih none = grind (arith, common_steps, none, not_below, low, append-nil, append_assoc)

    split : {w : Walk} → IsOwnWalk image w → picked all w ≡ low w ++ picked rest w
    split start = one_more Root (root_of image) [] refl (λ _. refl)
    split (step {w = w} {r = r} {b = b} {a = a} {i = i} v d e c) = one_more r b w (split v) (λ y. picked_none rest w (λ q s has.
        false_from_ne_true (rest q) (λ x.
        let le : first q ≤ first r = (rises image v r a i d q s has).0 in
        let no : is_below n (file r) ≡ false = not_below n r (omega (arith, from q x)) in
        cc)))

  -- `of` tells the blocks of file n: they stand in the list of all, behind those of the files below
  module _ (n : ℕ) (of : Role → Bool) (is_of : (r : Role) → of r ≡ is_file n (file r)) {w : Walk} (v : IsOwnWalk image w) where
    at_file : (o : Option ℕ) → is_below (suc n) o ≡ (is_below n o || is_file n o)
    at_file None = refl
    at_file (Some m) = grind (arith, nat_tests)

    at_all : (o : Option ℕ) → is_some o ≡ (is_below (suc n) o || is_later (suc n) o)
    at_all None = refl
    at_all (Some m) = grind (arith, common_steps)

    from_file : (r : Role) (o : Option ℕ) → ComesAt r o → is_file n o ≡ true → n < first r
    from_file r None t e = cc
    from_file r (Some m) t e = let z : n ≡ m = eqb-true n m e in omega arith

    from_later : (r : Role) (o : Option ℕ) → ComesAt r o → is_later (suc n) o ≡ true → suc n < first r
    from_later r None t e = cc
    from_later r (Some m) t e = omega (arith, ltb-false m (suc n) (not-true (nat_lt m (suc n)) e))

    below_next : picked (λ r. is_below (suc n) (file r)) w ≡ picked (λ r. is_below n (file r)) w ++ picked of w
    below_next = grind (arith, split, at_file, from_file)

    -- they end where those of a later file begin, or before
    file_apart : (m : ℕ) → n < m → blocks_before file w n + length (picked of w) ≤ blocks_before file w m
    file_apart m lt =
        omega (
          arith,
          ap length below_next,
          length-append (picked (λ r. is_below n (file r)) w) (picked of w),
          picked_fewer (λ r. is_below (suc n) (file r)) (λ r. is_below m (file r)) w (λ r. up (file r)),
        )
      where
        up : (o : Option ℕ) → is_below (suc n) o ≡ true → is_below m o ≡ true
        up None e = e
        up (Some k) e = lt-ltb k m (omega (arith, ltb-true k (suc n) e))

    file_stored : take (length (picked of w)) (drop (blocks_before file w n) (file_blocks file w)) ≡ picked of w
    file_stored =
        let below = picked (λ r. is_below n (file r)) w in
        let later = picked (λ r. is_later (suc n) (file r)) w in
        let all : file_blocks file w ≡ below ++ (picked of w ++ later) =
        split (suc n) (λ r. is_some (file r)) (λ r. is_later (suc n) (file r)) (λ r. at_all (file r)) (λ r. from_later r (file r) (tells r)) v
        ∙ ap (λ xs. xs ++ later) below_next ∙ append_assoc below (picked of w) later in
        ap (λ xs. take (length (picked of w)) (drop (length below) xs)) all
        ∙ ap (take (length (picked of w))) (drop-append_seam below (picked of w ++ later))
        ∙ take-append_seam (picked of w) later

-- extension blocks and data blocks
is_ext : (n : ℕ) (r : Role) → is_ext_of n r ≡ is_file n (ext_file r)
is_ext n (Ext m k) = refl
is_ext n _ = refl

is_data : (n : ℕ) (r : Role) → is_data_of n r ≡ is_file n (data_file r)
is_data n (Data m k) = refl
is_data n _ = refl

module _ (image : List ℕ) (n : ℕ) {w : Walk} (v : IsOwnWalk image w) where
  pub exts_stored : take (length (exts_in w n)) (drop (blocks_before ext_file w n) (file_blocks ext_file w)) ≡ exts_in w n
  exts_stored = file_stored image ext_file ext_tells n (is_ext_of n) (is_ext n) v

  pub datas_stored : take (length (datas_in w n)) (drop (blocks_before data_file w n) (file_blocks data_file w)) ≡ datas_in w n
  datas_stored = file_stored image data_file data_tells n (is_data_of n) (is_data n) v

  pub exts_apart : (m : ℕ) → n < m → blocks_before ext_file w n + length (exts_in w n) ≤ blocks_before ext_file w m
  exts_apart = file_apart image ext_file ext_tells n (is_ext_of n) (is_ext n) v

  pub datas_apart : (m : ℕ) → n < m → blocks_before data_file w n + length (datas_in w n) ≤ blocks_before data_file w m
  datas_apart = file_apart image data_file data_tells n (is_data_of n) (is_data n) v

-- nothing stands before the blocks of the root
pub no_exts_before : (image : List ℕ) (w : Walk) → blocks_before ext_file w 0 ≡ 0
no_exts_before image w = none_before image ext_file ext_tells w

pub no_datas_before : (image : List ℕ) (w : Walk) → blocks_before data_file w 0 ≡ 0
no_datas_before image w = none_before image data_file data_tells w
