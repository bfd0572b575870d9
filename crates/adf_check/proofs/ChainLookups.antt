-- A look-up along the chains of an image finds the entry of the tree.
use Rattle.std.proofs.Common.{◌≡◌, ◌≢◌, ℕ, zero, suc, List, [], ◌∷◌, ◌+◌, ◌-◌, ◌<◌, ◌≤◌, length, map, refl, sym, ap, subst, ◌∙◌, arith, Bool, true, false}
use Rattle.std.proofs.Common.{Option, Some, None, IfSome}
use Rattle.std.specs.Str.{bytes_eq}
use Rattle.std.proofs.{lemmas.Slice.Eq.bytes_eq-Decides, lemmas.List.nil_from_length, lemmas.Grind.common_steps}
use native.Mathlib.Decide.{dec_lt, ℕ_discrete}
use Rattle.adf_blocks.specs.declared.layout.TheConstants.{FIRST_SLOT, NAME, NEXT_IN_CHAIN, SECONDARY_TYPE, SLOTS, ST_DIR, ST_FILE}
use Rattle.adf_base.specs.{Hash.slot_by, declared.hash.Letters.Letters, Words.block}
use Rattle.adf_names.specs.Texts.{uppers_by}
use Rattle.adf_tree.specs.declared.entry.Body.{Body, TheVariants.Dir, TheVariants.File}
use Rattle.adf_tree.specs.{declared.entry.Entry.Entry, Tree.Tree, Tree.child_by}
use Rattle.adf_tree.proofs.ChildLookup.{found_is_by}
use Rattle.adf_blocks.specs.{Forms.text_at, HeadBlock.IsHead, Sizes.blocks}
use Rattle.adf_volume.specs.declared.owner.Owner.TheVariants.{Head as AHead}
use Rattle.adf_volume.specs.{Fits.BodyFits, Fits.EntryFitsBy, Image.name_of, Image.word_in, Image.letters_of, Layout.EntryAt, Layout.Layout, Layout.at_node}
use Rattle.adf_volume.specs.{Layout.chain_nodes_by, Lists.At, Lists.Spelled, Made.layout_in, Made.tree_in_by, Walk.Role.Head}
use Rattle.adf_volume.proofs.{Chains.SlotEntry, Chains.chain_rises, Chains.entry_at, Chains.entry_below, Finds.chain_no, Finds.chain_yes}
use Rattle.adf_volume.proofs.{LayoutRoles.part_owned, LayoutRoles.part_range, TreeOrder.DirNode, TreeOrder.is_dir, TreeOrder.ordered}
use Rattle.adf_volume.proofs.Lists.{at_below, at_fun, at_map, at_some, at_unmap, spelled_first, spelled_link, spelled_next, spelled_word}
use Rattle.adf_check.specs.{Lookup.headed, Reading.StoreFits, Store.StoreValue, Volumes.OnVolume}
use Rattle.adf_volume.specs.KeptOwner.{kept_at}
use Rattle.adf_check.proofs.{RowLaws.head_facts, StoreStands.StoreStandsForBy, StoreStands.keeps}

-- the name of a header, as it is read and compared
module _ (letters : Letters) (image : List ℕ) (b : ℕ) (name : List ℕ) {told head bytes : List ℕ} {t : Bool}
    (is_told : told ≡ text_at head NAME) (over : head ≡ bytes)
    (is_block : bytes ≡ block image b) (compared : t ≡ bytes_eq (uppers_by letters told) (uppers_by letters name)) where
  told_is : uppers_by letters told ≡ uppers_by letters (name_of image b)
  unfolding name_of
  told_is = ap (uppers_by letters) (is_told ∙ ap (λ x. text_at x NAME) (over ∙ is_block))

  pub same_name : t ≡ true → uppers_by letters (name_of image b) ≡ uppers_by letters name
  same_name e = sym told_is ∙ (bytes_eq-Decides (uppers_by letters told) (uppers_by letters name)).0 (sym compared ∙ e)

  pub other_name : t ≡ false → uppers_by letters (name_of image b) ≢ uppers_by letters name
  other_name e same = grind (arith, common_steps, bytes_eq-Decides, told_is)

-- the nodes from that of the header at a block on, by its owner
abbrev node_left : ℕ → Option ℕ → ℕ
node_left headers (Some n) = suc headers - n
node_left headers None = 0

abbrev pub chain_left : StoreValue → ℕ → ℕ
chain_left store b = node_left (length store.headers) (headed (kept_at store.owners b))

-- the block that a header's word names next
abbrev next_in : List ℕ → ℕ → ℕ
next_in image b = word_in image b NEXT_IN_CHAIN

-- the nodes of the chain of a name, and the blocks of their headers
abbrev nodes_named : Letters → Tree → ℕ → List ℕ → List ℕ
nodes_named letters t p name = chain_nodes_by letters t p (slot_by letters name)

abbrev heads_named : Letters → List ℕ → Tree → Layout → ℕ → List ℕ → List ℕ
heads_named letters image t l p name = map (at_node image l) (nodes_named letters t p name)

-- block b, or 0 for none, stands at this place of the chain of a name, and no entry before it has the name
pub record OnChain (letters : Letters) (image : List ℕ) (t : Tree) (l : Layout) (p : ℕ) (name : List ℕ) (b : ℕ) : Type 0 where
  pub first : ℕ
  pub spelled : Spelled (next_in image) first (heads_named letters image t l p name)
  pub place : ℕ
  pub here : b ≢ 0 → At (heads_named letters image t l p name) place b
  pub ended : b ≡ 0 → length (nodes_named letters t p name) ≤ place
  pub passed : (j n : ℕ) (e : Entry) → j < place → At (nodes_named letters t p name) j n → EntryAt t n e → uppers_by letters e.name ≢ uppers_by letters name

module _ {image : List ℕ} {store : StoreValue} {letters : Letters} {t : Tree} {l : Layout} (k : StoreStandsForBy letters image store t l) where
  pub body_dir : (n h : ℕ) (body : Body) → BodyFits image t.kind l n h body → word_in image h SECONDARY_TYPE ≡ ST_DIR → body ≡ Dir
  body_dir n h Dir f w = refl
  body_dir n h (File bytes) f w = let e : word_in image h SECONDARY_TYPE ≡ ST_FILE = f.0 in absurd (omega arith)

  body_file : (n h : ℕ) (body : Body) → BodyFits image t.kind l n h body → body ≡ Dir → word_in image h SECONDARY_TYPE ≡ ST_DIR
  body_file n h Dir f w = f.0
  body_file n h (File bytes) f w = cc

  dir_of : (p : ℕ) → p ≤ length store.headers → (p ≢ 0 → word_in image (at_node image l p) SECONDARY_TYPE ≡ ST_DIR) → DirNode t p
  dir_of zero le h = tt
  dir_of (suc i) le h =
      let x = at_some t.entries i (omega arith) in
      let fits : EntryFitsBy letters image t l (suc i) (at_node image l (suc i)) x.0 = k.fits.entries (suc i) x.0 x.1 in
      (x.0, x.1, body_dir (suc i) (at_node image l (suc i)) x.0.body fits.body (h (λ z. omega arith)))

  type_of : (p : ℕ) → p ≢ 0 → DirNode t p → word_in image (at_node image l p) SECONDARY_TYPE ≡ ST_DIR
  type_of zero ne d = absurd (ne refl)
  type_of (suc i) ne d =
      let fits : EntryFitsBy letters image t l (suc i) (at_node image l (suc i)) d.0 = k.fits.entries (suc i) d.0 d.1 in
      body_file (suc i) (at_node image l (suc i)) d.0.body fits.body d.2

  -- the chain of a slot of a directory
  pub directory_chain : (p s : ℕ) → s < SLOTS → p ≤ length store.headers → (p ≢ 0 → word_in image (at_node image l p) SECONDARY_TYPE ≡ ST_DIR)
      → Spelled (next_in image) (word_in image (at_node image l p) (FIRST_SLOT + s)) (map (at_node image l) (chain_nodes_by letters t p s))
  directory_chain p s lt le h = k.fits.chains p s (is_dir t p (dir_of p le h)) lt

  -- a file has none
  pub file_chain : (p s : ℕ) → p ≢ 0 → word_in image (at_node image l p) SECONDARY_TYPE ≢ ST_DIR
      → Spelled (next_in image) 0 (map (at_node image l) (chain_nodes_by letters t p s))
  file_chain p s ne h =
      elim (dec_lt 0 (length (chain_nodes_by letters t p s))) [
        | yes some ↦
            let n = at_some (chain_nodes_by letters t p s) 0 some in
            let x = entry_at letters t p s 0 n.0 n.1 in
            absurd (h (type_of p ne (subst (DirNode t) x.parent ((ordered t k.fits.tree).parents n.0 x.entry x.at).1)))
        | no none ↦
            subst (λ ns. Spelled (next_in image) 0 (map (at_node image l) ns)) (sym (nil_from_length (chain_nodes_by letters t p s) (omega arith))) refl
      ]

  module _ (p : ℕ) (name : List ℕ) where
    -- a place of the chain at which no block but 0 could stand is behind its end
    ends_by : (j : ℕ) → ((b : ℕ) → At (heads_named letters image t l p name) j b → 0 ≡ b) → length (nodes_named letters t p name) ≤ j
    ends_by j zero_at =
        elim (dec_lt j (length (nodes_named letters t p name))) [
          | yes lt ↦
              let x = at_some (nodes_named letters t p name) j lt in
              let z = zero_at (at_node image l x.0) (at_map (at_node image l) (nodes_named letters t p name) j x.0 x.1) in
              let low = (part_range image t l k.fits (Head x.0 p (slot_by letters name) j) (at_node image l x.0) (x.1, refl)).0 in
              absurd (omega arith)
          | no ge ↦ omega arith
        ]

    -- the owner of a header, and the nodes from it on
    left_at : (j n : ℕ) → At (nodes_named letters t p name) j n → {b : ℕ} → at_node image l n ≡ b
        → (headed (kept_at store.owners b) ≡ Some n) × (chain_left store b ≡ suc (length store.headers) - n) × (n ≤ length store.headers)
    left_at j n a {b = b} is =
        let x = entry_at letters t p (slot_by letters name) j n a in
        let o : headed (kept_at store.owners b) ≡ Some n =
        ap headed (k.owners.part (AHead n) b (part_owned letters image t l k.fits.places (Head n p (slot_by letters name) j) b (a, is))) in
        (o, ap (node_left (length store.headers)) o, omega (arith, entry_below t n x.entry x.at, k.headers.count))

  module _ {p : ℕ} {name : List ℕ} where
    pub chain_begins : (b : ℕ) → Spelled (next_in image) b (heads_named letters image t l p name) → OnChain letters image t l p name b
    chain_begins b h = grind (arith, common_steps, spelled_first, next_in, heads_named, ends_by, spelled_word)

    -- no header is left
    pub chain_ended : OnChain letters image t l p name 0 → child_by letters t.entries p name ≡ None
    chain_ended c = chain_no letters t p name (λ j n e a. c.passed j n e (omega (arith, at_below (nodes_named letters t p name) j n a, c.ended refl)) a)

    module _ {b : ℕ} (c : OnChain letters image t l p name b) (ne : b ≢ 0) where
      -- the node of the header
      at : (n : ℕ) × At (nodes_named letters t p name) c.place n × (at_node image l n ≡ b)
      at = at_unmap (at_node image l) (nodes_named letters t p name) c.place b (c.here ne)

      node_entry : SlotEntry letters t p (slot_by letters name) at.0
      node_entry = entry_at letters t p (slot_by letters name) c.place at.0 at.1

      entry_fits : (e : Entry) → EntryAt t at.0 e → EntryFitsBy letters image t l at.0 b e
      entry_fits e v = subst (λ h. EntryFitsBy letters image t l at.0 h e) at.2 (k.fits.entries at.0 e v)

      pub here_inside : b < blocks image
      here_inside = (part_range image t l k.fits (Head at.0 p (slot_by letters name) c.place) b (at.1, at.2)).1

      pub here_head : IsHead (block image b)
      here_head =
          let e : Entry = node_entry.entry in
          head_facts letters t.kind b b (at_node image l e.parent) (slot_by letters e.name) (block image b) (entry_fits e node_entry.at).form

      -- the header has the name
      pub chain_found : uppers_by letters (name_of image b) ≡ uppers_by letters name → headed (kept_at store.owners b) ≡ child_by letters t.entries p name
      chain_found u =
          let x = node_entry in
          (left_at p name c.place at.0 at.1 at.2).0
          ∙ sym (chain_yes letters t p (slot_by letters name) name c.place at.0 x.entry k.fits.tree at.1 x.at
          (ap (uppers_by letters) (entry_fits x.entry x.at).name ∙ u))

      next_here : next_in image b ≢ 0 → At (heads_named letters image t l p name) (suc c.place) (next_in image b)
      next_here = spelled_next (next_in image) c.first (heads_named letters image t l p name) c.place b c.spelled (c.here ne)

      -- or it is passed
      pub chain_next : uppers_by letters (name_of image b) ≢ uppers_by letters name → OnChain letters image t l p name (next_in image b)
      chain_next other = grind (arith, next_here, ends_by, spelled_link, at, at_fun, entry_fits)

      -- the chain ends: its nodes rise
      pub chain_smaller : chain_left store (next_in image b) < chain_left store b
      chain_smaller =
          let left = left_at p name c.place at.0 at.1 at.2 in
          elim (ℕ_discrete (next_in image b) 0) [
            | yes z ↦
                let boot = ap headed (ap (kept_at store.owners) z ∙ k.owners.boot 0 (omega arith) (omega (arith, here_inside))) in
                let none : chain_left store (next_in image b) ≡ 0 = ap (node_left (length store.headers)) boot in
                omega (arith, left.1, left.2)
            | no more ↦
                let x = at_unmap (at_node image l) (nodes_named letters t p name) (suc c.place) (next_in image b) (next_here more) in
                let up = chain_rises letters 1 t.entries p (slot_by letters name) c.place (suc c.place) at.0 x.0 at.1 x.1 (omega arith) in
                omega (arith, left.1, left.2, (left_at p name (suc c.place) x.0 x.1 x.2).1)
          ]

-- what is found is an entry
child_below : (letters : Letters) (es : List Entry) (p : ℕ) (name : List ℕ) (n : ℕ) → child_by letters es p name ≡ Some n → n ≤ length es
child_below letters [] p name n h = cc
child_below letters (e ∷ es) p name n h = (found_is_by letters (e ∷ es) p name n e h).1

-- the same, of what is kept
module _ {image : List ℕ} {store : StoreValue} (tells : StoreFits image store) where
  pub child_within : (p : ℕ) (name : List ℕ) (r : Option ℕ)
      → OnVolume image (λ t _. r ≡ child_by t.letters t.entries p name)
      → IfSome r (λ n. n ≤ length store.headers)
  child_within p name None h = tt
  child_within p name (Some n) h =
      let t = tree_in_by (letters_of image) image tells.walk in
      omega (
        arith,
        child_below (letters_of image) t.entries p name n (sym (h (letters_of image) t (layout_in tells.walk) tells.fits)),
        (keeps image store tells).headers.count,
      )

  module _ {p : ℕ} {name : List ℕ} {b : ℕ} (c : OnVolume image (λ t l. OnChain t.letters image t l p name b)) (ne : b ≢ 0) where
    abbrev known : OnChain (letters_of image) image (tree_in_by (letters_of image) image tells.walk) (layout_in tells.walk) p name b
    known = c (letters_of image) (tree_in_by (letters_of image) image tells.walk) (layout_in tells.walk) tells.fits

    pub on_inside : b < blocks image
    on_inside = here_inside (keeps image store tells) known ne

    pub on_head : IsHead (block image b)
    on_head = here_head (keeps image store tells) known ne

    pub on_smaller : chain_left store (next_in image b) < chain_left store b
    on_smaller = chain_smaller (keeps image store tells) known ne
