-- The steps along the nodes: each is begun, then the parts that its header points to are read.
use Rattle.std.proofs.Common.{◌≡◌, ◌≢◌, ℕ, suc, ◌-◌, List, [], ◌∷◌, ◌<◌, ◌≤◌, length, get_or, refl, sym, ap, subst, arith}
use Rattle.std.proofs.lemmas.Grind.{common_steps}
use Rattle.adf_blocks.specs.declared.layout.TheConstants.{EXTENSION, SECONDARY_TYPE, SIZE, ST_DIR}
use Rattle.adf_blocks.specs.Sizes.{blocks}
use Rattle.adf_volume.specs.{Image.root_of, Image.word_in, Lists.At, Walk.Has, Walk.first, Walk.HeadAt, Walk.DirAt, Walk.FileAt, Walk.Role, Walk.Walk}
use Rattle.adf_volume.proofs.{Gathered.root_in, FormDemands.head_type, MemberFacts.in_range, MemberFacts.kept, Roles.head_role, Walks.numbered}
use Rattle.adf_volume.proofs.Lists.{at_below, at_fun, at_index_or, at_snoc, at_some, snoc_length}
use Rattle.adf_volume.proofs.PositionSteps.{end_nodes, enter_dir, low_first}
use Rattle.adf_volume.specs.declared.kept_header.KeptHeader.{KeptHeader}
use Rattle.adf_check.specs.Reading.{IsAtNode, IsAtSlot, IsInExts, IsInNode, IsRead}
use Rattle.adf_check.specs.{Datas.ext_link, declared.file.File.File, Store.StoreValue, Store.StoreMatches, Store.entered, Own.IsOwnWalk}
use Rattle.adf_check.proofs.{NumberBounds.many_blocks, ClaimSteps.gathered, ClaimSteps.read_to, ExtSteps.enter_exts}
use Rattle.adf_check.proofs.FileBlocks.{all_before, data_tells, ext_tells}

-- the member at a place
pub at_or : {X : Type 0} (xs : List X) (i : ℕ) (d : X) → i < length xs → At xs i (get_or xs i d)
at_or xs i d lt = let x = at_some xs i lt in subst (At xs i) (sym (at_index_or xs i x.0 d x.1)) x.1

-- the row at a place of a list that is the rows
pub header_here : (headers : List KeptHeader) (i : ℕ) (r : KeptHeader) {xs : List KeptHeader} → xs ≡ headers → i < length xs
    → r ≡ get_or xs i r → At headers i r
header_here headers i r {xs = xs} e lt is = subst (λ xs. At xs i r) e (subst (At xs i) (sym is) (at_or xs i r lt))

-- the next node is begun
enter_store : (image : List ℕ) (store : StoreValue) (w : Walk) (n : ℕ) → StoreMatches image store w → length store.starts ≡ n
    → ((r : Role) (b : ℕ) → Has w r b → first r ≤ n) → StoreMatches image (entered store) w
enter_store image store w n tells started le = grind (arith, common_steps, at_snoc, all_before, ext_tells, data_tells)

pub enter_node : (image : List ℕ) (store : StoreValue) (n : ℕ) → n ≤ length store.headers → IsAtNode image store n → IsInNode image (entered store) n
enter_node image store n le st = grind (arith, enter_store, low_first, snoc_length)

-- the node of a row
module _ (image : List ℕ) (store : StoreValue) (w : Walk) (t : StoreMatches image store w) (v : IsOwnWalk image w) where
  pub node_here : (i : ℕ) (r : KeptHeader) → At store.headers i r → HeadAt w (suc i) r.head
  node_here i r h =
      let u : i < length store.headers = at_below store.headers i r h in
      let x = numbered image v (suc i) (omega arith) (omega arith) in
      let k = x.1 in
      let z : r ≡ record { parent = k.parent; head = x.0 } =
      at_fun store.headers i r (record { parent = k.parent; head = x.0 }) h (t.headers.header i k.parent k.slot k.place x.0 k.has) in
      subst (HeadAt w (suc i)) (ap (λ (x : KeptHeader). x.head) (sym z)) k

  pub file_here : (i : ℕ) (r : KeptHeader) → At store.headers i r → word_in image r.head SECONDARY_TYPE ≢ ST_DIR → FileAt image w (suc i) r.head
  file_here i r h d = grind (arith, node_here, kept, head_role, head_type)

-- a directory's slots are next
pub enter_directory : (image : List ℕ) (store : StoreValue) (n a : ℕ) (st : IsInNode image store n) → DirAt image st.walk n a
    → IsAtSlot image store n a 0
enter_directory image store n a st dir = search (arith, read_to, enter_dir, gathered)

pub root_begins : (image : List ℕ) (store : StoreValue) (n a : ℕ) → n ≡ 0 → a ≡ root_of image → IsInNode image store n → IsAtSlot image store n a 0
root_begins image store n a z e st = grind (arith, enter_directory, root_in image (gathered st.read), gathered st.read)

-- the next node is n, and its row is known
module _ {image : List ℕ} {store : StoreValue} {m n : ℕ} {header : KeptHeader} (view : m ≡ n) (ne : m ≢ 0)
    (header_is : header ≡ get_or store.headers (m - 1) header) (st : IsInNode image store n) where
  here : At store.headers (m - 1) header
  here = header_here store.headers (m - 1) header refl (omega (arith, st.read.within)) header_is

  node : suc (m - 1) ≡ n
  node = omega arith

  pub head_inside : header.head < blocks image
  head_inside = grind (arith, node_here, here, in_range, many_blocks, head_role)

  pub directory_begins : word_in image header.head SECONDARY_TYPE ≡ ST_DIR → IsAtSlot image store n header.head 0
  directory_begins e =
      enter_directory image store n header.head st (subst (λ n. DirAt image st.walk n header.head) node
      (record { header = node_here image store st.walk st.read.tells st.read.is_walk (m - 1) header here; type = e }))

  pub file_begins : word_in image header.head SECONDARY_TYPE ≢ ST_DIR → (size ext : ℕ) → size ≡ word_in image header.head SIZE
      → ext ≡ word_in image header.head EXTENSION
      → let file : File = record { node = n; head = header.head; size = size; ext = ext } in
      IsInExts image store file (header.head ∷ []) (ext_link file)
  file_begins e size ext size_is ext_is =
      enter_exts image store (record { node = n; head = header.head; size = size; ext = ext }) st
      (subst (λ n. FileAt image st.walk n header.head) node
      (file_here image store st.walk st.read.tells st.read.is_walk (m - 1) header here e)) size_is ext_is

-- behind the last node all is read
pub all_read : (image : List ℕ) (store : StoreValue) (n : ℕ) → n ≡ suc (length store.headers) → IsAtNode image store n → IsRead image store
all_read image store n e st = grind (arith, common_steps, end_nodes, gathered st.read)
