-- The pieces of a file, joined, are its bytes.
use Rattle.std.proofs.Common.{◌≡◌, ◌≢◌, ℕ, zero, suc, List, [], ◌∷◌, length-append, ◌+◌, ◌*◌, ◌^◌, ◌<◌, ◌≤◌, length, take, drop, get_or, refl, sym, ap, subst}
use Rattle.std.proofs.Common.{◌∙◌, ◌-◌, arith, Option, Some, None, length-take, length-drop}
use Rattle.std.specs.List.{All, concat}
use Rattle.std.proofs.{lemmas.Bool.ne_eqb, lemmas.Grind.common_steps, lemmas.Option.slice_get_past}
use Rattle.adf_blocks.specs.declared.layout.TheConstants.{SECONDARY_TYPE, SIZE, ST_DIR}
use Rattle.adf_base.specs.{Words.block, declared.hash.Letters.Letters}
use Rattle.adf_tree.specs.declared.entry.Body.{Body, TheVariants.Dir, TheVariants.File}
use Rattle.adf_tree.specs.{declared.entry.Entry.Entry, Tree.Tree, Tree.entry}
use Rattle.adf_names.specs.declared.kind.Kind.{Kind}
use Rattle.adf_blocks.specs.Sizes.{blocks, count}
use Rattle.adf_volume.specs.{Walk.Role.Data, Image.area, Image.held, Image.kind_of, Image.piece, Image.pieces, Image.word_in, Layout.EntryAt, Layout.Layout}
use Rattle.adf_volume.specs.{Layout.Place, Layout.at_node, Layout.datas_at, Layout.datas_of, Lists.At, Pieces.AreInside, Fits.BodyFits, Fits.FitsBy}
use Rattle.adf_volume.proofs.{Images.area_length, Images.count_small, Lists.at_index_or, LayoutRoles.part_range, Chains.entry_is_at, Chains.entry_some}
use Rattle.adf_volume.proofs.PieceBytes.{held_some, piece_at, pieces_joined, pieces_length}
use Rattle.adf_volume.specs.declared.node_start.NodeStart.{NodeStart}
use Rattle.adf_check.specs.{Store.StoreValue, Reading.StoreFits, Volumes.OnVolume}
use Rattle.adf_check.proofs.{ChainLookups.body_dir, NodeSteps.at_or, StoreStands.StoreStandsForBy, StoreStands.keeps, StoreStands.stands}
use Rattle.adf_check.specs.Pieces.{body_bytes, bytes_of, pieces_at, pieces_in, pieces_of}

-- pieces of which none is empty are none where they join to nothing
pub no_pieces : (ps : List (List ℕ)) → All (λ p. 0 < length p) ps → concat ps ≡ [] → ps ≡ []
no_pieces [] some e = refl
no_pieces (p ∷ ps) some e = absurd (omega (arith, some 0 [] (omega arith), ap length e, length-append p (concat ps)))

body_other : (image : List ℕ) (kind : Kind) (l : Layout) (n h : ℕ) (body : Body) → BodyFits image kind l n h body
    → word_in image h SECONDARY_TYPE ≢ ST_DIR → (bytes : List ℕ) × (body ≡ File bytes)
body_other image kind l n h Dir f w = absurd (w f.0)
body_other image kind l n h (File bytes) f w = (bytes, refl)

module _ {image : List ℕ} {store : StoreValue} {letters : Letters} {t : Tree} {l : Layout} (k : StoreStandsForBy letters image store t l) where
  data_range : (n i b : ℕ) → At (datas_of l n) i b → b < blocks image
  data_range n i b h = (part_range image t l k.fits (Data n (suc i)) b h).1

  whole : length image ≡ 512 * blocks image
  whole = k.fits.boots.0.0

  -- the data blocks of a node stand in the list of all, from its start on, by their count
  module _ (size : ℕ) {n m c : ℕ} {kind : Kind} {x : NodeStart} (within : n ≤ length store.headers) (view : m ≡ n)
      (start : x ≡ get_or store.starts m x)
      (long : length (datas_of l n) ≡ count (kind_of image) size) (is_kind : kind ≡ kind_of image) (is_count : c ≡ count kind size) where
    many : length (datas_of l n) ≡ c
    many = long ∙ ap (λ k. count k size) (sym is_kind) ∙ sym is_count

    pub part_is : take c (drop x.datas store.datas) ≡ datas_of l n
    part_is = grind (arith, common_steps, at_or, many)

    pub part_inside : c ≢ 0 → x.datas + c ≤ length store.datas
    part_inside ne = omega (arith, many, length-take c (drop x.datas store.datas), ap length part_is, length-drop x.datas store.datas)

-- node n is a file, or a directory, with its header at block h
pub record IsEntry (image : List ℕ) (store : StoreValue) (n h : ℕ) : Type 0 where
  pub some : n ≢ 0
  pub within : n ≤ length store.headers
  pub block : OnVolume image (λ _ l. h ≡ at_node image l n)

-- the node is an entry, by its number and the number of rows
pub is_entry : {image : List ℕ} {store : StoreValue} {n m h : ℕ} → OnVolume image (λ _ l. h ≡ at_node image l n) → m ≡ n → m ≢ 0 → n ≤ length store.headers → IsEntry image store n h
is_entry block view ne le = record { some = (λ z. ne (view ∙ z)); within = le; block = block }

past : (qs : List Place) (i : ℕ) → length qs ≤ i → ◌≡◌ {A = List ℕ} [] (datas_at qs i)
past [] i h = refl
past (q ∷ qs) zero h = absurd (omega arith)
past (q ∷ qs) (suc i) h = past qs i (omega arith)

-- nothing is past the last entry
pub past_entry : (es : List Entry) (n : ℕ) → length es < n → entry es n ≡ None
past_entry es n h = rw (ne_eqb n 0 (omega arith)) (slice_get_past es (n - 1) (omega arith))

-- the root has no data blocks, and nothing past the last entry has
pub root_datas : (l : Layout) (n m : ℕ) → m ≡ n → m ≡ 0 → ◌≡◌ {A = List ℕ} [] (datas_of l n)
root_datas l zero m view e = refl
root_datas l (suc i) m view e = absurd (omega arith)

pub past_datas : {image : List ℕ} {store : StoreValue} {letters : Letters} {t : Tree} {l : Layout} → StoreStandsForBy letters image store t l
    → (n : ℕ) → length store.headers < n → ◌≡◌ {A = List ℕ} [] (datas_of l n)
past_datas k zero lt = absurd (omega arith)
past_datas {l = l} k (suc i) lt = past l.places i (omega (arith, k.headers.count, k.fits.places))

module _ {image : List ℕ} {store : StoreValue} {n h : ℕ} (is : IsEntry image store n h) where
  module _ (letters : Letters) (t : Tree) (l : Layout) (k : StoreStandsForBy letters image store t l) where
    here : (x : Entry) × EntryAt t n x
    here = grind (arith, common_steps, entry_some)

    body_fits : BodyFits image t.kind l n h here.0.body
    body_fits = subst (λ b. BodyFits image t.kind l n b here.0.body) (sym (is.block letters t l k.fits)) (k.fits.entries n here.0 here.1).body

    told : bytes_of (entry t.entries n) ≡ body_bytes here.0.body
    told = ap bytes_of ((entry_is_at t n here.0).0 here.1)

    laid : pieces_at image t l n ≡ pieces_in image t.kind (datas_of l n) here.0.body
    laid = ap (pieces_of image t.kind (datas_of l n)) ((entry_is_at t n here.0).0 here.1)

    pub dir_pieces : word_in image h SECONDARY_TYPE ≡ ST_DIR → ◌≡◌ {A = Option (List (List ℕ))} None (pieces_at image t l n)
    dir_pieces w = sym (laid ∙ ap (pieces_in image t.kind (datas_of l n)) (body_dir k n h here.0.body body_fits w))

    pub dir_bytes : word_in image h SECONDARY_TYPE ≡ ST_DIR → ◌≡◌ {A = Option (List ℕ)} None (bytes_of (entry t.entries n))
    dir_bytes w = sym (told ∙ ap body_bytes (body_dir k n h here.0.body body_fits w))

    pub dir_datas : word_in image h SECONDARY_TYPE ≡ ST_DIR → ◌≡◌ {A = List ℕ} [] (datas_of l n)
    dir_datas w = sym (subst (BodyFits image t.kind l n h) (body_dir k n h here.0.body body_fits w) body_fits).2

    module _ (w : word_in image h SECONDARY_TYPE ≢ ST_DIR) where
      file : (bytes : List ℕ) × (here.0.body ≡ File bytes)
      file = body_other image t.kind l n h here.0.body body_fits w

      file_fits : BodyFits image t.kind l n h (File file.0)
      file_fits = subst (BodyFits image t.kind l n h) file.1 body_fits

      pub data_count_is : length (datas_of l n) ≡ count (kind_of image) (word_in image h SIZE)
      data_count_is = (k.fits.files n here.0 file.0 here.1 file.1).datas ∙ ap (count t.kind) file_fits.2
          ∙ ap (λ kind. count kind (word_in image h SIZE)) k.fits.kind

      file_bytes : Some (concat (pieces image (kind_of image) (word_in image h SIZE) 1 (datas_of l n))) ≡ bytes_of (entry t.entries n)
      file_bytes = grind (arith, common_steps, pieces_joined, whole, data_range, file_fits, told, file)

      file_inside : word_in image h SIZE < 2 ^ 32 → AreInside image (datas_of l n) 1
      file_inside small =
          let c = data_count_is in
          let s = count_small (kind_of image) (word_in image h SIZE) small in
          record {
            inside = (λ i d lt. let b : get_or (datas_of l n) i d < blocks image =
                data_range k n i (get_or (datas_of l n) i d) (at_or (datas_of l n) i d lt) in omega arith);
            from = omega arith;
            few = omega arith;
          }

      file_pieces : Some (pieces image (kind_of image) (word_in image h SIZE) 1 (datas_of l n)) ≡ pieces_at image t l n
      file_pieces = grind (arith, common_steps, file_fits, laid, file)

      -- no piece is empty
      file_some : All (λ p. 0 < length p) (pieces image (kind_of image) (word_in image h SIZE) 1 (datas_of l n))
      file_some i d lt =
          let ds = datas_of l n in
          let size : ℕ = word_in image h SIZE in
          let many = data_count_is in
          let long = pieces_length image (kind_of image) size 1 ds in
          let b : ℕ = get_or ds i 0 in
          let at : At ds i b = at_or ds i 0 (omega arith) in
          let one : 1 + i ≡ suc i = omega arith in
          let piece_is : get_or (pieces image (kind_of image) size 1 ds) i d ≡ piece (kind_of image) size (suc i) (block image b) =
          at_index_or (pieces image (kind_of image) size 1 ds) i (piece (kind_of image) size (1 + i) (block image b)) d
          (piece_at image (kind_of image) size 1 ds i b at) ∙ ap (λ j. piece (kind_of image) size j (block image b)) one in
          let held_here = held_some (kind_of image) size i (omega arith) in
          let area_is = area_length image (kind_of image) b (whole k) (data_range k n i b at) in
          let taken = length-take (held (kind_of image) size (suc i)) (area (kind_of image) (block image b)) in
          subst (λ p. 0 < length p) (sym piece_is) (omega (arith, held_here.0, held_here.1, area_is, taken))

  -- what is made of the data blocks of a file
  module _ (tells : StoreFits image store) (w : word_in image h SECONDARY_TYPE ≢ ST_DIR) {xs ds : List ℕ} {kind : Kind} {size : ℕ}
      (is_image : xs ≡ image) (is_kind : kind ≡ kind_of image) (is_size : size ≡ word_in image h SIZE)
      (are : OnVolume image (λ _ l. ds ≡ datas_of l n)) where
    pieces_are : (letters : Letters) (t : Tree) (l : Layout) → FitsBy letters image t l
        → pieces xs kind size 1 ds ≡ pieces image (kind_of image) (word_in image h SIZE) 1 (datas_of l n)
    pieces_are letters t l fits = λ i. pieces (is_image i) (is_kind i) (is_size i) 1 (are letters t l fits i)

    pub made_inside : size < 2 ^ 32 → AreInside xs ds 1
    made_inside small =
        let k = keeps image store tells in
        let inside = file_inside _ _ _ k w (subst (λ s. s < 2 ^ 32) is_size small) in
        subst (λ xs. AreInside xs ds 1) (sym is_image) (subst (λ ds. AreInside image ds 1) (sym (are _ _ _ k.fits)) inside)

    pub made_exact : {ps : List (List ℕ)} → ps ≡ pieces xs kind size 1 ds → OnVolume image (λ t l. Some ps ≡ pieces_at image t l n)
    made_exact made = λ letters t l fits. ap Some (made ∙ pieces_are letters t l fits) ∙ file_pieces t.letters t l (stands tells fits) w

    pub made_joined : {ps : List (List ℕ)} → ps ≡ pieces xs kind size 1 ds → OnVolume image (λ t _. Some (concat ps) ≡ bytes_of (entry t.entries n))
    made_joined made = λ letters t l fits.
        ap (λ ps. Some (concat ps)) (made ∙ pieces_are letters t l fits) ∙ file_bytes t.letters t l (stands tells fits) w

    pub made_some : {ps : List (List ℕ)} → ps ≡ pieces xs kind size 1 ds → All (λ p. 0 < length p) ps
    made_some made =
        let k = keeps image store tells in
        subst (All (λ p. 0 < length p)) (sym (made ∙ pieces_are _ _ _ k.fits)) (file_some _ _ _ k w)
