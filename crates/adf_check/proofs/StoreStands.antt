-- The store of a whole walk stands for the tree and the layout that fit.
use Rattle.std.proofs.Common.{◌≡◌, ◌≢◌, ◌⊎◌, ℕ, zero, suc, List, ◌+◌, ◌-◌, ◌<◌, ◌≤◌, inl, inr, length, sym, ap, subst, ◌∙◌, take, drop, arith, is_some}
use Rattle.std.proofs.{lemmas.Grind.common_steps, lemmas.List.Sorted.IsNonDecreasingBy-from_default}
use native.Mathlib.Decide.{dec_lt}
use Rattle.adf_base.specs.declared.hash.Letters.{Letters}
use Rattle.adf_tree.specs.{declared.entry.Entry.Entry, Tree.Tree}
use Rattle.adf_blocks.specs.Sizes.{blocks}
use Rattle.adf_volume.specs.{declared.owner.Owner.Owner, Fits.FitsBy, Lists.At, Lists.In, Walk.Role, Walk.Has, Walk.Role.Ext, Walk.Role.Data}
use Rattle.adf_volume.specs.{LayoutRoles.LayoutHasBy, LayoutRoles.owner_of, Made.layout_in, Made.exts_in, Made.datas_in, Made.tree_in_by, Image.letters_of}
use Rattle.adf_volume.specs.Layout.{Layout, EntryAt, at_node, exts_of, datas_of, owned}
use Rattle.adf_volume.proofs.{FitWalks.one_fit, ImageStart.own_letters, LayoutRoles.owned_part, Lists.at_below, Lists.at_fun, Lists.same_list}
use Rattle.adf_volume.proofs.{WalkAgreement.agreement, WalkCompleteness.part_walked, WholeWalks.head_is, WholeWalks.entry_is, WalkOwners.owned_has}
use Rattle.adf_volume.proofs.{WalkOwners.is_owned, WalkLengths.walk_length, WalkLengths.walked_once}
use Rattle.adf_volume.proofs.WalkMembers.{entries_length, has_ext, ext_has, has_data, data_has}
use Rattle.adf_volume.specs.{declared.kept_header.KeptHeader.KeptHeader, declared.kept_owner.KeptOwner.KeptOwner, declared.node_start.NodeStart.NodeStart}
use Rattle.adf_volume.specs.declared.owner_class.OwnerClass.TheVariants as class
use Rattle.adf_volume.specs.KeptOwner.{boot_owner, kept_at, no_owner}
use Rattle.adf_volume.specs.Places.{AreStarts, IsNumbered, first_data, first_ext, kept_as, start_of}
use Rattle.adf_check.specs.{Store.StoreValue, Store.blocks_before, Store.data_file, Store.ext_file, Store.file_blocks, Reading.StoreFits}
use Rattle.adf_check.proofs.{NodeSteps.node_here, KeptPlaces.at_whole, KeptPlaces.data_node, KeptPlaces.ext_node, KeptPlaces.one_place, KeptPlaces.start_at}
use Rattle.adf_check.proofs.FileBlocks.{exts_apart, exts_stored, datas_apart, datas_stored, no_datas_before, no_exts_before}

-- the table has the one owner of each block, kept by the starts of the nodes
pub record OwnersFit (image : List ℕ) (l : Layout) (starts : List NodeStart) (owners : List KeptOwner) : Type 0 where
  pub size : length owners ≡ blocks image
  pub boot : (b : ℕ) → b < 2 → b < blocks image → kept_at owners b ≡ boot_owner
  pub part : (o : Owner) (b : ℕ) → In (owned image l) (o, b) → kept_at owners b ≡ kept_as starts o
  pub free : (b : ℕ) → 2 ≤ b → b < blocks image → ((o : Owner) → In (owned image l) (o, b) → ⊥) → kept_at owners b ≡ no_owner

-- header i has the parent and the block of entry i + 1's header
pub record HeadersFit (image : List ℕ) (t : Tree) (l : Layout) (headers : List KeptHeader) : Type 0 where
  pub count : length headers ≡ length t.entries
  pub head : (i : ℕ) (r : KeptHeader) → At headers i r → at_node image l (suc i) ≡ r.head
  pub parent : (i : ℕ) (r : KeptHeader) (e : Entry) → At headers i r → EntryAt t (suc i) e → e.parent ≡ r.parent

-- start n has the positions of the extension blocks and the data blocks of node n in the flat lists
pub record StartsFit (l : Layout) (store : StoreValue) : Type 0 where
  pub count : length store.starts ≡ suc (length store.headers)
  pub exts : (n : ℕ) (x : NodeStart) → At store.starts n x → take (length (exts_of l n)) (drop x.exts store.exts) ≡ exts_of l n
  pub datas : (n : ℕ) (x : NodeStart) → At store.starts n x → take (length (datas_of l n)) (drop x.datas store.datas) ≡ datas_of l n

-- the blocks of each node end in the flat lists before those of a later one begin, and nothing stands before those of the root
pub record StartsRise (l : Layout) (starts : List NodeStart) : Type 0 where
  pub zero : (x : NodeStart) → At starts 0 x → (x.exts ≡ 0) × (x.datas ≡ 0)
  pub apart : (n m : ℕ) (x y : NodeStart) → n < m → At starts n x → At starts m y
      → (x.exts + length (exts_of l n) ≤ y.exts) × (x.datas + length (datas_of l n) ≤ y.datas)

-- the store stands for this tree and layout, which fit the image as a volume with these letters
pub record StoreStandsForBy (letters : Letters) (image : List ℕ) (store : StoreValue) (t : Tree) (l : Layout) : Type 0 where
  pub fits : FitsBy letters image t l
  pub owners : OwnersFit image l store.starts store.owners
  pub headers : HeadersFit image t l store.headers
  pub starts : StartsFit l store
  pub rising : StartsRise l store.starts
  pub used : store.used ≡ length (owned image l)

is_free : (o : KeptOwner) → (o ≡ no_owner) ⊎ (o ≢ no_owner)
is_free o = grind (arith, common_steps)

module _ (image : List ℕ) (store : StoreValue) (st : StoreFits image store) where
  headers_fit : HeadersFit image (tree_in_by (letters_of image) image st.walk) (layout_in st.walk) store.headers
  headers_fit = record {
    count = st.read.tells.headers.count ∙ sym (entries_length image st.walk st.walk);
    head = (λ i r h.
        let x = node_here image store st.walk st.read.tells st.read.is_walk i r h in
        (head_is image st.walk st.read.is_walk st.read.whole x).0);
    parent = (λ i r e h k.
        let x = entry_is image st.walk st.read.is_walk st.read.whole (suc i) e k in
        let g = x.header in
        let z : r ≡ record { parent = g.parent; head = x.block } =
        at_fun store.headers i r (record { parent = g.parent; head = x.block }) h
        (st.read.tells.headers.header i g.parent g.slot g.place x.block g.has) in
        ap (λ (y : Entry). y.parent) x.entry ∙ ap (λ (y : KeptHeader). y.parent) (sym z));
  }

  -- a part that the layout tells is in the walk, and the other way round
  walked : (r : Role) (b : ℕ) → LayoutHasBy (letters_of image) image (tree_in_by (letters_of image) image st.walk) (layout_in st.walk) r b → Has st.walk r b
  walked = part_walked image (tree_in_by (letters_of image) image st.walk) (layout_in st.walk) st.fits st.walk st.read.is_walk st.read.whole

  agreed : (r : Role) (b : ℕ) → Has st.walk r b → LayoutHasBy (letters_of image) image (tree_in_by (letters_of image) image st.walk) (layout_in st.walk) r b
  agreed r b = agreement image (tree_in_by (letters_of image) image st.walk) (layout_in st.walk) st.fits st.walk r b st.read.is_walk

  exts_are : (n : ℕ) → exts_of (layout_in st.walk) n ≡ exts_in st.walk n
  exts_are n = same_list (exts_of (layout_in st.walk) n) (exts_in st.walk n)
      (λ k b h. ext_has image st.read.is_walk n k b (walked (Ext n (suc k)) b h))
      (λ k b h. agreed (Ext n (suc k)) b (has_ext image st.walk st.read.is_walk n k b h))

  datas_are : (n : ℕ) → datas_of (layout_in st.walk) n ≡ datas_in st.walk n
  datas_are n = same_list (datas_of (layout_in st.walk) n) (datas_in st.walk n)
      (λ k b h. data_has image st.walk st.read.is_walk n k b (walked (Data n (suc k)) b h))
      (λ k b h. agreed (Data n (suc k)) b (has_data image st.walk st.read.is_walk n k b h))

  -- the start of the node of a part of a file
  start_here : (n : ℕ) → n ≤ length (layout_in st.walk).places → At store.starts n (start_of store.starts n)
  start_here n le = start_at store.starts n (omega (arith, st.read.started, headers_fit.count, st.fits.places))

  kept_fits : (r : Role) (b : ℕ) → Has st.walk r b → kept_at store.owners b ≡ kept_as store.starts (owner_of r)
  kept_fits (Ext n zero) b h = absurd (agreed (Ext n zero) b h)
  kept_fits (Ext n (suc k)) b h =
      let x = st.read.tells.owns.assigned (Ext n (suc k)) b h in
      let at = at_whole (file_blocks ext_file st.walk) (exts_in st.walk n) (blocks_before ext_file st.walk n) k b
      (exts_stored image n st.read.is_walk) (ext_has image st.read.is_walk n k b h) in
      let here = start_here n (ext_node (layout_in st.walk) n k b (agreed (Ext n (suc k)) b h)) in
      let start = (st.read.tells.starts n (start_of store.starts n) here).0 in
      let place : x.0 ≡ (start_of store.starts n).exts + (suc k - 1) =
      omega (
        arith,
        start,
        one_place (λ r. is_some (ext_file r)) st.walk (walked_once st.read.is_walk) x.0 (blocks_before ext_file st.walk n + k)
            b x.1 at,
      ) in
      x.2 ∙ ap (λ i. record { class = class.Ext; place = i }) place
  kept_fits (Data n zero) b h = absurd (agreed (Data n zero) b h)
  kept_fits (Data n (suc k)) b h =
      let x = st.read.tells.owns.assigned (Data n (suc k)) b h in
      let at = at_whole (file_blocks data_file st.walk) (datas_in st.walk n) (blocks_before data_file st.walk n) k b
      (datas_stored image n st.read.is_walk) (data_has image st.walk st.read.is_walk n k b h) in
      let here = start_here n (data_node (layout_in st.walk) n k b (agreed (Data n (suc k)) b h)) in
      let start = (st.read.tells.starts n (start_of store.starts n) here).1 in
      let place : x.0 ≡ (start_of store.starts n).datas + (suc k - 1) =
      omega (
        arith,
        start,
        one_place (λ r. is_some (data_file r)) st.walk (walked_once st.read.is_walk) x.0 (blocks_before data_file st.walk n + k)
            b x.1 at,
      ) in
      x.2 ∙ ap (λ i. record { class = class.Data; place = i }) place
  kept_fits r b h = st.read.tells.owns.assigned r b h

  owners_fit : OwnersFit image (layout_in st.walk) store.starts store.owners
  owners_fit = record {
    size = st.read.tells.owns.size;
    boot = st.read.tells.owns.boot;
    part =
        (λ o b h. let r = owned_has image st.walk st.read.is_walk st.read.whole o b h in kept_fits r.0 b r.1 ∙ ap (kept_as store.starts) (sym r.2));
    free = (λ b lo hi h. elim (is_free (kept_at store.owners b)) [
      | inl e ↦ e
      | inr n ↦ let x = st.read.tells.owns.owned b lo hi n in absurd
          (h (owner_of x.0) (is_owned image st.walk st.read.is_walk st.read.whole x.0 b x.1))
    ]);
  }

  starts_fit : StartsFit (layout_in st.walk) store
  starts_fit = record {
    count = st.read.started;
    exts = (λ n x h. moved (st.read.tells.starts n x h).0 st.read.tells.exts (exts_are n) (exts_stored image n st.read.is_walk));
    datas = (λ n x h. moved (st.read.tells.starts n x h).1 st.read.tells.datas (datas_are n) (datas_stored image n st.read.is_walk));
  }
    where
      moved : {a b : ℕ} {xs ys is here : List ℕ} → a ≡ b → xs ≡ ys → is ≡ here → take (length here) (drop b ys) ≡ here
          → take (length is) (drop a xs) ≡ is
      moved {a = a} {b = b} {xs = xs} {here = here} ea ex ei h = grind (arith, common_steps)

  starts_rise : StartsRise (layout_in st.walk) store.starts
  starts_rise = record {
    zero = (λ x h.
        let at = st.read.tells.starts 0 x h in (at.0 ∙ no_exts_before image st.walk, at.1 ∙ no_datas_before image st.walk));
    apart = (λ n m x y lt h k.
        let here = st.read.tells.starts n x h in
        let later = st.read.tells.starts m y k in (
          omega (arith, here.0, later.0, ap length (exts_are n), exts_apart image n st.read.is_walk m lt),
          omega (arith, here.1, later.1, ap length (datas_are n), datas_apart image n st.read.is_walk m lt),
        ));
  }

  pub keeps : StoreStandsForBy (letters_of image) image store (tree_in_by (letters_of image) image st.walk) (layout_in st.walk)
  keeps = grind (arith, common_steps, owners_fit, headers_fit, starts_fit, starts_rise, walk_length)

-- the letters of an image are those of the tree that fits it
pub own_are : {letters : Letters} {image : List ℕ} {t : Tree} {l : Layout} → FitsBy letters image t l → letters_of image ≡ t.letters
own_are {letters = letters} {image = image} fits = own_letters letters image fits.boots ∙ sym fits.letters

-- so it stands for whatever fits the image, by the letters of the tree
pub stands : {image : List ℕ} {store : StoreValue} {letters : Letters} {t : Tree} {l : Layout} → StoreFits image store → FitsBy letters image t l
    → StoreStandsForBy t.letters image store t l
stands {image = image} {store = store} {t = t} {l = l} st fits =
    let u = tree_in_by (letters_of image) image st.walk in
    let same = one_fit image u t (layout_in st.walk) l st.fits fits in
    subst (λ ls. StoreStandsForBy ls image store t l) (own_are fits)
    (subst (λ u. StoreStandsForBy (letters_of image) image store u l) same.0
    (subst (StoreStandsForBy (letters_of image) image store u) same.1 (keeps image store st)))

-- the same of an image under another name
pub stands_as : {image now : List ℕ} {store : StoreValue} {letters : Letters} {t : Tree} {l : Layout} → StoreFits image store → image ≡ now
    → FitsBy letters now t l → StoreStandsForBy t.letters image store t l
stands_as {letters = letters} {t = t} {l = l} st is fits = stands st (subst (λ (i : List ℕ). FitsBy letters i t l) (sym is) fits)

-- the starts of a volume
module _ {image : List ℕ} {store : StoreValue} {letters : Letters} {t : Tree} {l : Layout} (st : StoreStandsForBy letters image store t l) where
  starts_are : (first : NodeStart → ℕ) → ((x : NodeStart) → At store.starts 0 x → first x ≡ 0)
      → ((n m : ℕ) (x y : NodeStart) → n < m → At store.starts n x → At store.starts m y → first x ≤ first y) → AreStarts first store.starts
  starts_are first begins up =
      let some : 0 < length store.starts = omega (arith, st.starts.count) in
      record {
        some = some;
        zero = begins (start_of store.starts 0) (start_at store.starts 0 some);
        rising = IsNonDecreasingBy-from_default first store.starts (record { exts = 0; datas = 0 }) (λ i j le lt. elim (dec_lt i j) [
          | yes more ↦ up i j (start_of store.starts i) (start_of store.starts j) more (start_at store.starts i (omega arith))
              (start_at store.starts j lt)
          | no same ↦ let e : i ≡ j = omega arith in let f = ap (λ i. first (start_of store.starts i)) e in omega (arith, f)
        ]);
      }

  pub ext_starts : AreStarts first_ext store.starts
  ext_starts = starts_are first_ext (λ x h. (st.rising.zero x h).0) (λ n m x y lt h k. omega (arith, (st.rising.apart n m x y lt h k).0))

  pub data_starts : AreStarts first_data store.starts
  data_starts = starts_are first_data (λ x h. (st.rising.zero x h).1) (λ n m x y lt h k. omega (arith, (st.rising.apart n m x y lt h k).1))

  node_in : (n : ℕ) → n ≤ length l.places → n < length store.starts
  node_in n le = omega (arith, st.starts.count, st.headers.count, st.fits.places)

  apart_at : (n m : ℕ) → n < m → (within : m < length store.starts)
      → ((start_of store.starts n).exts + length (exts_of l n) ≤ (start_of store.starts m).exts)
      × ((start_of store.starts n).datas + length (datas_of l n) ≤ (start_of store.starts m).datas)
  apart_at n m lt within = st.rising.apart n m (start_of store.starts n) (start_of store.starts m) lt (start_at store.starts n (omega arith))
      (start_at store.starts m within)

  role_numbered : (r : Role) (b : ℕ) → LayoutHasBy letters image t l r b → IsNumbered store.starts (owner_of r)
  role_numbered (Ext n zero) b h = absurd h
  role_numbered (Ext n (suc k)) b h = (
    omega arith,
    record {
      within = node_in n (ext_node l n k b h);
      begins = omega arith;
      last = (λ m lt within. omega (arith, (apart_at n m lt within).0, at_below (exts_of l n) k b h));
    },
  )
  role_numbered (Data n zero) b h = absurd h
  role_numbered (Data n (suc k)) b h = (
    omega arith,
    record {
      within = node_in n (data_node l n k b h);
      begins = omega arith;
      last = (λ m lt within. omega (arith, (apart_at n m lt within).1, at_below (datas_of l n) k b h));
    },
  )
  role_numbered _ b h = tt

  -- a part is numbered within its file
  pub part_numbered : (o : Owner) (b : ℕ) → In (owned image l) (o, b) → IsNumbered store.starts o
  part_numbered o b h = let q = owned_part letters image t l st.fits.places o b h in subst (IsNumbered store.starts) (sym q.2) (role_numbered q.0 b q.1)
