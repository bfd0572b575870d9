-- The bytes of files, by the tables.
use Rattle.std.specs.Prelude.{◌≡◌, ◌+◌, ◌-◌, ◌*◌, ◌/◌, ◌%◌, ◌≤◌, ◌<◌, ℕ, List, [], ◌∷◌, ◌++◌, Some, None, get_or, length, take, drop}
use Rattle.std.proofs.Common.{zero, suc, refl, sym, ap, subst, ◌∙◌, arith, inl, inr, append_assoc, length-append, length-take, Option}
use Rattle.std.proofs.{Math.ListN.drop_of_length-le, lemmas.Bool.cases_lt, lemmas.Option.slice_get-get_or, lemmas.Option.slice_get_cases}
use Rattle.std.proofs.Math.Seq.{drop-append-add, drop-nil, take-append_seam}
use Rattle.std.proofs.lemmas.List.{drop-take, take-append-drop, take-append-le}
use Rattle.adf_base.specs.{Words.block, declared.hash.Letters.Letters}
use Rattle.adf_tree.specs.declared.entry.Body.{Body, TheVariants.Dir, TheVariants.File}
use Rattle.adf_tree.specs.{declared.entry.Entry.Entry, Tree.Tree, Tree.entry}
use Rattle.adf_names.specs.declared.kind.Kind.{Kind}
use Rattle.adf_blocks.specs.Sizes.{blocks, chunk}
use Rattle.adf_volume.specs.{Walk.Role.Data, Fits.BodyFits, Fits.FitsBy, Image.area, Image.content, Image.joined, Image.kind_of, Lists.At}
use Rattle.adf_volume.specs.Layout.{EntryAt, Layout, Place, at_node, datas_at, datas_of, head_at}
use Rattle.adf_volume.proofs.{Chains.entry_is_at, LayoutRoles.part_range, Lists.at_below, Lists.at_index_or, Lists.at_some}
use Rattle.adf_volume.proofs.Images.{AreIn, enough_bytes, joined_length}
use Rattle.adf_memory.specs.declared.tables.TableEntry.{TableEntry}
use Rattle.adf_memory.specs.Areas.{AreBlocksOf, AreDatasOf, bytes_from, bytes_in_blocks, entry_from, file_bytes_from, front_blocks, node_from}
use Rattle.adf_memory.specs.Tables.{all_datas, block_table, bytes_at, bytes_of_body, bytes_told, entry_table, table_entry}
use Rattle.adf_memory.proofs.{Filled.drop_zero, Filled.take_zero, TableLaws.told_here, TableLaws.told_length}
use Rattle.adf_memory.proofs.TableBytes.{front_more, further, place_of}

-- the image has these blocks
pub are_in : {image table ds : List ℕ} → AreBlocksOf image table ds → AreIn image ds
are_in {image = image} {ds = ds} is i b at = subst (λ x. x < blocks image) (at_index_or ds i b 0 at) (is.inside i (at_below ds i b at))

-- data areas of blocks that the image has come first, and then those of the blocks behind them
front_joined : (image : List ℕ) (kind : Kind) (ds bs : List ℕ) → AreIn image ds
    → joined image kind (front_blocks image (ds ++ bs)) ≡ joined image kind ds ++ joined image kind (front_blocks image bs)
front_joined image kind [] bs inside = refl
front_joined image kind (d ∷ ds) bs inside =
    ap (joined image kind) (front_more image d (ds ++ bs) (inside 0 d refl))
    ∙ ap (λ xs. area kind (block image d) ++ xs) (front_joined image kind ds bs (λ i b at. inside (suc i) b at))
    ∙ sym (append_assoc (area kind (block image d)) (joined image kind ds) (joined image kind (front_blocks image bs)))

-- from a place in a file on, the table of its blocks has the bytes of the file
pub file_read : (image : List ℕ) (x : TableEntry) (table ds : List ℕ) (at : ℕ) → AreDatasOf image x table ds
    → file_bytes_from image x table at ≡ drop at (bytes_in_blocks image x ds)
file_read image x table ds at is = elim (cases_lt at x.size) [
  | inl lt ↦
      let kind : Kind = kind_of image in
      let here : List ℕ = drop x.first table in
      let behind : List ℕ = joined image kind (front_blocks image (drop (length ds) here)) in
      let all : List ℕ = joined image kind ds in
      let long : length all ≡ chunk kind * length ds = joined_length image kind ds is.listed.whole (are_in is.listed) in
      let whole : joined image kind (front_blocks image here) ≡ all ++ behind =
      ap (λ bs. joined image kind (front_blocks image bs))
      (sym (take-append-drop (length ds) here) ∙ ap (λ bs. bs ++ drop (length ds) here) is.listed.front)
      ∙ front_joined image kind ds (drop (length ds) here) (are_in is.listed) in
      let place = place_of kind at in
      let enough : chunk kind * (at / chunk kind) ≤ length (joined image kind (front_blocks image here)) =
      omega (arith, ap length whole, length-append all behind, is.enough, place.0) in
      let size : at + (x.size - at) ≡ x.size = omega arith in
      ap (take (x.size - at))
      (sym (further image kind (at / chunk kind) (at % chunk kind) here enough)
      ∙ ap (λ n. drop n (joined image kind (front_blocks image here))) place.0 ∙ ap (drop at) whole)
      ∙ sym (drop-take at (x.size - at) (all ++ behind))
      ∙ ap (λ n. drop at (take n (all ++ behind))) size
      ∙ ap (drop at) (take-append-le x.size all behind (omega (arith, is.enough)))
  | inr ge ↦
      let none : x.size - at ≡ 0 = omega arith in
      ap (λ n. take n (bytes_from image (kind_of image) (drop x.first table) at)) none
      ∙ take_zero (bytes_from image (kind_of image) (drop x.first table) at)
      ∙ sym (drop_of_length-le (bytes_in_blocks image x ds) (omega (arith, length-take x.size (joined image (kind_of image) ds))))
]

-- the blocks of a file stand in the table of blocks from its first on
datas_front : (qs : List Place) (i : ℕ) → i < length qs
    → take (length (datas_at qs i)) (drop (length (all_datas (take i qs))) (all_datas qs)) ≡ datas_at qs i
datas_front [] i lt = absurd (omega arith)
datas_front (q ∷ qs) zero lt = ap (take (length q.datas)) (drop_zero (q.datas ++ all_datas qs)) ∙ take-append_seam q.datas (all_datas qs)
datas_front (q ∷ qs) (suc i) lt =
    ap (λ n. take (length (datas_at qs i)) (drop n (q.datas ++ all_datas qs))) (length-append q.datas (all_datas (take i qs)))
    ∙ ap (take (length (datas_at qs i))) (drop-append-add q.datas (all_datas qs) (length (all_datas (take i qs)))) ∙ datas_front qs i (omega arith)

-- the data blocks of an entry hold its bytes
body_read : {ls : Letters} (image : List ℕ) (t : Tree) (l : Layout) (n : ℕ) (e : Entry) → FitsBy ls image t l → EntryAt t n e
    → (b : Body) → e.body ≡ b → BodyFits image t.kind l n (at_node image l n) b
    → (length (bytes_of_body b) ≤ chunk t.kind * length (datas_of l n))
    × (take (length (bytes_of_body b)) (joined image t.kind (datas_of l n)) ≡ bytes_of_body b)
unfolding content
body_read image t l n e fits at Dir is f = (omega arith, take_zero (joined image t.kind (datas_of l n)))
body_read image t l n e fits at (File bytes) is f = (
  enough_bytes t.kind (length bytes) (length (datas_of l n)) (sym (fits.files n e bytes at is).datas),
  ap (λ m. take m (joined image t.kind (datas_of l n))) f.2 ∙ sym f.1,
)

-- what an entry of the table tells of a file
pub record IsRead (image table : List ℕ) (t : Tree) (l : Layout) (n : ℕ) (x : TableEntry) : Type 0 where
  pub datas : AreDatasOf image x table (datas_of l n)
  pub bytes : bytes_in_blocks image x (datas_of l n) ≡ bytes_at t n

-- what is told of an entry tells of its bytes
pub told_read : {ls : Letters} (image : List ℕ) (t : Tree) (l : Layout) (i : ℕ) (e : Entry) → FitsBy ls image t l → At t.entries i e
    → IsRead image (block_table l) t l (suc i) (table_entry (head_at l.places i) (length (all_datas (take i l.places))) e)
told_read image t l i e fits at =
    let below : i < length l.places = omega (arith, at_below t.entries i e at, fits.places) in
    let body = body_read image t l (suc i) e fits at e.body refl (fits.entries (suc i) e at).body in
    let told_bytes : bytes_of_body e.body ≡ bytes_at t (suc i) = sym (ap bytes_told ((entry_is_at t (suc i) e).0 at)) in
    record {
      datas = record {
        listed = record {
          whole = fits.boots.0.0;
          front = datas_front l.places i below;
          inside = (λ j lt. let b = at_some (datas_of l (suc i)) j lt in
              subst (λ x. x < blocks image) (sym (at_index_or (datas_of l (suc i)) j b.0 0 b.1))
              (part_range image t l fits (Data (suc i) (suc j)) b.0 b.1).1);
        };
        enough = subst (λ k. length (bytes_of_body e.body) ≤ chunk k * length (datas_of l (suc i))) fits.kind body.0;
      };
      bytes = ap (λ k. take (length (bytes_of_body e.body)) (joined image k (datas_of l (suc i)))) (sym fits.kind) ∙ body.1 ∙ told_bytes;
    }

-- and so does what stands in the table of a volume
entry_read : {ls : Letters} (image table : List ℕ) (t : Tree) (l : Layout) (xs : List TableEntry) (n : ℕ) (d : TableEntry) → FitsBy ls image t l
    → xs ≡ entry_table t l → table ≡ block_table l → 0 < n → n ≤ length xs → IsRead image table t l n (get_or xs (n - 1) d)
entry_read image table t l xs zero d fits is tables some le = absurd (omega arith)
entry_read image table t l xs (suc i) d fits is tables some le =
    let z : suc i - 1 ≡ i = omega arith in
    let lt : i < length t.entries = omega (arith, ap length is, told_length 0 t.entries l.places fits.places) in
    let e = at_some t.entries i lt in
    let here = told_here t l i (length (all_datas (take i l.places))) e.0 e.1 fits.places refl in
    let same : get_or xs (suc i - 1) d ≡ table_entry (head_at l.places i) (length (all_datas (take i l.places))) e.0 =
    ap (λ ys. get_or ys (suc i - 1) d) is ∙ ap (λ j. get_or (entry_table t l) j d) z ∙ at_index_or (entry_table t l) i _ d here in
    subst (λ bs. IsRead image bs t l (suc i) (get_or xs (suc i - 1) d)) (sym tables)
    (subst (IsRead image (block_table l) t l (suc i)) (sym same) (told_read image t l i e.0 fits e.1))

-- past the last entry nothing is read
entry_none : (t : Tree) (n : ℕ) → length t.entries < n → entry t.entries n ≡ None
entry_none t n lt = go (entry t.entries n) refl
  where
    past : (n : ℕ) (e : Entry) → length t.entries < n → EntryAt t n e → ⊥
    past zero e lt at = at
    past (suc i) e lt at = absurd (omega (arith, at_below t.entries i e at))

    go : (x : Option Entry) → entry t.entries n ≡ x → entry t.entries n ≡ None
    go None e = e
    go (Some x) e = absurd (past n x lt ((entry_is_at t n x).1 e))

-- the bytes of a node that the table of entries has
pub node_here : (image table : List ℕ) (xs : List TableEntry) (n at : ℕ) (d : TableEntry) → (n ≡ 0 → ⊥) → n ≤ length xs
    → file_bytes_from image (get_or xs (n - 1) d) table at ≡ node_from image xs table n at
node_here image table xs zero at d some le = absurd (some refl)
node_here image table xs (suc i) at d some le =
    let z : suc i - 1 ≡ i = omega arith in
    ap (λ j. file_bytes_from image (get_or xs j d) table at) z ∙ ap (λ o. entry_from image o table at) (sym (slice_get-get_or xs i d (omega arith)))

-- by the tables of a volume, a node has the bytes of its file
pub node_read : {ls : Letters} (image table : List ℕ) (t : Tree) (l : Layout) (xs : List TableEntry) (n at : ℕ) → FitsBy ls image t l
    → xs ≡ entry_table t l → table ≡ block_table l → node_from image xs table n at ≡ drop at (bytes_at t n)
node_read image table t l xs zero at fits is tables = sym (drop-nil at)
node_read image table t l xs (suc i) at fits is tables = elim (slice_get_cases xs i).1 [
  | inl (x, lt, some, here) ↦
      let read = entry_read image table t l xs (suc i) x fits is tables (omega arith) (omega arith) in
      let z : suc i - 1 ≡ i = omega arith in
      let same : get_or xs (suc i - 1) x ≡ x = ap (λ j. get_or xs j x) z ∙ here in
      let told : IsRead image table t l (suc i) x = subst (IsRead image table t l (suc i)) same read in
      ap (λ o. entry_from image o table at) some
      ∙ file_read image x table (datas_of l (suc i)) at told.datas ∙ ap (drop at) told.bytes
  | inr (ge, none) ↦
      ap (λ o. entry_from image o table at) none ∙ sym (drop-nil at)
      ∙ ap (λ e. drop at (bytes_told e))
      (sym (entry_none t (suc i) (omega (arith, ap length is, told_length 0 t.entries l.places fits.places))))
]
