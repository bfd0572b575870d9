-- The steps along the data blocks of a file.
use Rattle.adf_check.specs.{Claims.InRange, Datas.AreDatas, Datas.IsDataLink, Datas.data_asked, declared.claims.Link.Link, declared.datas.Datas.Datas}
use Rattle.adf_check.specs.{declared.file.File.File, Reading.HasRead, Reading.IsAtNode, Reading.IsInDatas, Store.StoreValue, Own.IsOwnWalk, Own.IsOwnFault}
use Rattle.std.proofs.Common.{◌≡◌, ℕ, zero, suc, List, [], ◌∷◌, ◌+◌, ◌*◌, ◌/◌, ◌<◌, ◌≤◌, length, Bool, true, false, cond, refl, sym, ap, subst, arith, nat_lt}
use Rattle.std.proofs.{Common.slice_index, lemmas.Bool.ltb-true, lemmas.Grind.common_steps}
use Rattle.adf_blocks.specs.{declared.layout.TheConstants.POINTERS, declared.cause.Cause.Cause, declared.cause.Cause.TheVariants.ShortFile, Sizes.blocks}
use Rattle.adf_volume.specs.{Demands.AllHold, Demands.FirstFails, Image.table_word, Image.word_in, Image.letters_of, Lists.At, Walk.Role.Data, Walk.Role.Ext}
use Rattle.adf_volume.specs.{Positions.IsUpTo, Positions.behind, Positions.position_of, Fault.fault, Start.IsOwnBegun}
use Rattle.adf_volume.specs.Walk.{Asks, Enough, FileAt, MemberAt, Role, data_count, ext_count, member_block, node_block, Walk, form_demands_by}
use Rattle.adf_volume.proofs.{Lists.at_some, MemberFacts.in_range, Gathered.file_one, Gathered.member_is, PositionSteps.end_datas, Walks.file_is}
use Rattle.adf_volume.proofs.Roles.{head_role, member_up, typed_up}
use Rattle.adf_volume.specs.KeptOwner.{kept_at, no_owner}
use Rattle.adf_check.proofs.{NodeSteps.at_or, NumberBounds.many_blocks}
use Rattle.adf_check.proofs.ClaimSteps.{IsNextAt, IsStored, form_fault, gathered, read_one, read_to, short_fault}

member_inside : (image : List ℕ) (w : Walk) → IsOwnBegun image → IsOwnWalk image w → (n m c : ℕ) → MemberAt image w n m c → c < blocks image
member_inside image w begun v n zero c h = (in_range image v (many_blocks image begun) (head_role h.header) c h.header.has).1
member_inside image w begun v n (suc m) c h = (in_range image v (many_blocks image begun) (Ext n (suc m)) c h).1

-- the blocks of the table are those of the image
pub table_inside : {image : List ℕ} {store : StoreValue} {file : File} {table : List ℕ} {k : ℕ} → IsInDatas image store file table k
    → (i : ℕ) → i < length table → slice_index table i < blocks image
table_inside {image = image} {file = file} {table = table} st i lt = grind (arith, member_inside, at_or table i 0 lt)

-- behind the last data block
pub datas_end : (image : List ℕ) (store : StoreValue) (file : File) (table : List ℕ) (k : ℕ) → IsInDatas image store file table k
    → data_count image file.head ≤ k → IsAtNode image store (suc file.node)
datas_end image store file table k st le = record {
  walk = st.walk;
  read = read_to st.read (end_datas image (gathered st.read) file.node k file.head st.holds.head few st.read.up_to);
}
  where
    few : (j a i : ℕ) → Asks image st.walk (Data file.node (suc j)) a i → j < k
    few j a i x =
        let lt : j < data_count image file.head =
        subst (λ x. j < data_count image x) (file_one image (gathered st.read) file.node x.0.0 file.head x.0.1 st.holds.head) x.0.2 in
        omega arith

module _ {image : List ℕ} {store : StoreValue} {file : File} {table : List ℕ} {k : ℕ}
    (st : IsInDatas image store file table k) where
  one_file : (a : ℕ) → FileAt image st.walk file.node a → file.head ≡ a
  one_file a f = file_one image (gathered st.read) file.node file.head a st.holds.head f

  named_by : k < data_count image file.head → (c b : ℕ) → At table (k / POINTERS) c → b ≡ word_in image c (table_word k)
      → IsNextAt image store st.walk (Data file.node (suc k)) c b
  named_by lt c b x e = grind (arith, common_steps)

  -- the table names too few data blocks
  pub too_short : k ≡ 0 → POINTERS * length table < data_count image file.head → IsOwnFault image (fault file.head ShortFile)
  too_short z lt =
      let e = at_some table 0 (omega arith) in
      let here : At table (k / POINTERS) e.0 = subst (λ k. At table (k / POINTERS) e.0) (sym z) e.1 in
      let lacks : Enough image st.walk (Data file.node (suc k)) → ⊥ =
      λ en. let x : data_count image file.head ≤ POINTERS * suc (ext_count st.walk file.node) = en (ap suc z) file.head st.holds.head in omega arith in
      subst (λ a. IsOwnFault image (fault a ShortFile)) (sym (one_file e.0 (st.holds.members 0 e.0 e.1)))
      (short_fault (named_by (omega arith) e.0 (word_in image e.0 (table_word k)) here refl) lacks)

-- the table names enough, and a link of it is next
module _ {image : List ℕ} {store : StoreValue} {datas : Datas} {k : ℕ} {link : Link}
    (st : IsInDatas image store datas.file datas.table.now k) (are : AreDatas image datas) (lt : k < datas.count)
    (named : IsDataLink image datas.table.now k link) where
  pub data_named : IsNextAt image store st.walk (Data datas.file.node (suc k)) link.holder link.block
  data_named = grind (arith, common_steps, named_by, at_or)

  pub data_enough : Enough image st.walk (Data datas.file.node (suc k))
  data_enough _ a f =
      let x : data_count image a ≤ POINTERS * length datas.table.now =
      subst (λ a. data_count image a ≤ POINTERS * length datas.table.now) (one_file st a f) (omega arith) in
      omega arith

  next_here : (t : Bool) → nat_lt (suc k) (data_count image datas.file.head) ≡ t
      → cond t (word_in image (member_block st.walk datas.file.node (suc k / POINTERS)) (table_word (suc k))) 0
      ≡ cond t (word_in image (slice_index datas.table.now (suc k / POINTERS)) (table_word (suc k))) 0
  next_here false z = refl
  next_here true z =
      let more : suc k < data_count image datas.file.head = ltb-true (suc k) (data_count image datas.file.head) z in
      let x = at_or datas.table.now (suc k / POINTERS) 0 (omega arith) in
      ap (λ c. word_in image c (table_word (suc k))) (member_is image (gathered st.read) datas.file.node (suc k / POINTERS)
      (slice_index datas.table.now (suc k / POINTERS)) (st.holds.members (suc k / POINTERS) (slice_index datas.table.now (suc k / POINTERS)) x))

  form_is : data_asked image datas link.block k ≡ form_demands_by (letters_of image) image st.walk (Data datas.file.node (suc k)) link.block
  form_is =
      let one : k + 1 ≡ suc k = omega arith in
      let head : node_block st.walk datas.file.node ≡ datas.file.head = file_is image st.walk datas.file.node datas.file.head st.read.is_walk st.holds.head in
      rw (are.count, st.holds.size, one, head, next_here (nat_lt (suc k) (data_count image datas.file.head)) refl) refl

  module _ (range : InRange (length store.owners) link.block) (free : kept_at store.owners link.block ≡ no_owner) where
    pub data_fault : (c : Cause) → FirstFails (data_asked image datas link.block k) link.block c → IsOwnFault image (fault link.block c)
    data_fault c f = form_fault data_named data_enough range free c (subst (λ ds. FirstFails ds link.block c) form_is f)

    pub data_done : AllHold (data_asked image datas link.block k) → {new : StoreValue} → IsStored image store new (Data datas.file.node (k + 1)) link.block
        → IsInDatas image new datas.file datas.table.now (k + 1)
    data_done f {new = new} stored =
        let r : Role = Data datas.file.node (suc k) in
        let one : k + 1 ≡ suc k = omega arith in
        let read_it : HasRead image new ((r, link.block) ∷ st.walk) (suc datas.file.node) (behind r) =
        read_one data_named data_enough range free (subst AllHold form_is f) tt
        (subst (λ m. IsStored image store new (Data datas.file.node m) link.block) one stored) in
        record {
          walk = (r, link.block) ∷ st.walk;
          read = read_to read_it
              (subst (λ m. IsUpTo image ((r, link.block) ∷ st.walk) [] (position_of (Data datas.file.node (suc m)))) (sym one) read_it.up_to);
          holds = record {
            head = typed_up (r, link.block) st.holds.head;
            size = st.holds.size;
            members = (λ m c x. member_up image st.walk (r, link.block) datas.file.node m c (st.holds.members m c x));
            counted = st.holds.counted;
          };
        }
