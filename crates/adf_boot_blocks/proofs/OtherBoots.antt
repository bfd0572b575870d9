-- Volumes with other boot blocks.
-- Letters: image a volume, other one with other boot blocks; t a tree, l its layout, ls its letters; b, a blocks; n a node, h its header; k, j, i, m indices.
use Rattle.std.proofs.Common.{◌≡◌, ℕ, zero, suc, List, [], ◌∷◌, ◌++◌, ◌+◌, ◌-◌, ◌*◌, ◌/◌, ◌%◌, ◌<◌, ◌≤◌, ◌↔◌, length, drop, take, slice_index, map, refl, sym}
use Rattle.std.proofs.Common.{ap, subst, ◌∙◌, arith}
use Rattle.std.proofs.{lemmas.Grind.common_steps, lemmas.List.drop-drop, lemmas.List.get_or-take}
use Rattle.adf_base.specs.{Hash.slot_by, Words.block, Words.word}
use Rattle.adf_base.specs.declared.hash.Letters.{Letters, TheVariants.Ascii, TheVariants.International}
use Rattle.adf_names.specs.declared.kind.Kind.{Kind, TheVariants.Ofs, TheVariants.Ffs}
use Rattle.adf_blocks.specs.{DataBlock.data_form, ExtBlock.ext_form, Forms.text_at, HeadBlock.head_form_by, HeadBlock.meta_at, PageBlock.IsFreeBit}
use Rattle.adf_blocks.specs.{PageBlock.page_form, RootBlock.root_form, RootBlock.stamps_at, Sizes.blocks, Sizes.middle, Sizes.pages_needed}
use Rattle.adf_blocks.specs.declared.layout.TheConstants.{EXTENSION, FIRST_MAP_EXT, FIRST_PAGE, FIRST_SLOT, MAP_EXT_NEXT, NAME, NEXT_IN_CHAIN, PAGE_BITS}
use Rattle.adf_blocks.specs.declared.layout.TheConstants.{MOST_PLAIN_BLOCKS, POINTERS, SECONDARY_TYPE, SIZE, SLOTS}
use Rattle.adf_tree.specs.{Tree.IsDir, Tree.Tree, declared.entry.Entry.Entry}
use Rattle.adf_tree.specs.declared.entry.Body.{Body, TheVariants.Dir, TheVariants.File}
use Rattle.adf_volume.specs.Demands.{AllHold, boot_demands_by, data_demands, demands_at, root_demands}
use Rattle.adf_volume.specs.Fits.{BodyFits, EntryFitsBy, FileFits, Fits, FitsBy, IsFree, TableAt}
use Rattle.adf_volume.specs.Image.{area, content, held, joined, kind_of, map_exts_needed, meta_of, name_of, root_of, stamps_of, table_word, word_in}
use Rattle.adf_volume.specs.Layout.{EntryAt, Layout, at_node, chain_nodes_by, datas_of, exts_of, owned, owned_from}
use Rattle.adf_volume.specs.{Lists.At, Lists.In, Lists.NoBlockTwice, Lists.Spelled, Lists.numbered, LayoutRoles.LayoutHasBy}
use Rattle.adf_volume.specs.declared.owner.Owner.{Owner, TheVariants.Root as TheRoot, TheVariants.Page as APage, TheVariants.MapExt as AMapExt}
use Rattle.adf_volume.specs.Walk.{Role, Role.Root, Role.Page, Role.MapExt, Role.Head, Role.Ext, Role.Data}
use Rattle.adf_volume.proofs.{LayoutRoles.part_range, Chains.entry_some, Chains.place_at}
use Rattle.adf_boot_blocks.specs.BootBlocks.{IsOtherBoot}

-- words that lead from one to the next, where the links of the members are the same
spelled_same : (f g : ℕ → ℕ) (w v : ℕ) (bs : List ℕ) → w ≡ v → ((k b : ℕ) → At bs k b → f b ≡ g b) → Spelled f w bs → Spelled g v bs
spelled_same f g w v [] e links was = sym e ∙ was
spelled_same f g w v (b ∷ bs) e links was =
    (sym e ∙ was.0, spelled_same f g (f b) (g b) bs (links 0 b refl) (λ k a at. links (suc k) a at) was.1)

-- areas of blocks that are the same
joined_same : (image other : List ℕ) (kind : Kind) (bs : List ℕ) → ((k b : ℕ) → At bs k b → block other b ≡ block image b)
    → joined other kind bs ≡ joined image kind bs
joined_same image other kind [] same = refl
joined_same image other kind (b ∷ bs) same =
    ap (λ x. area kind x ++ joined other kind bs) (same 0 b refl)
    ∙ ap (λ xs. area kind (block image b) ++ xs) (joined_same image other kind bs (λ k a at. same (suc k) a at))

-- a member of a mapped list
mapped : (f : ℕ → ℕ) (ns : List ℕ) (k b : ℕ) → At (map f ns) k b → (n : ℕ) × At ns k n × (f n ≡ b)
mapped f [] k b at = absurd at
mapped f (n ∷ ns) zero b at = (n, refl, at)
mapped f (n ∷ ns) (suc k) b at = mapped f ns k b at

data_same : (image other : List ℕ) (kind : Kind) (b h k n next : ℕ) → block other b ≡ block image b
    → AllHold (data_demands image kind b h k n next) → AllHold (data_demands other kind b h k n next)
data_same image other Ofs b h k n next e was = subst (λ (x : List ℕ). AllHold (demands_at b (data_form h k n next x))) (sym e) was
data_same image other Ffs b h k n next e was = was

module _ (image other : List ℕ) (o : IsOtherBoot image other) where
  -- a block behind the boot blocks
  same_block : (b : ℕ) → 2 ≤ b → block other b ≡ block image b
  unfolding block
  same_block b low =
      let at : b * 512 ≡ 1024 + (b * 512 - 1024) = omega arith in
      let moved : drop (b * 512) other ≡ drop (b * 512) image =
      ap (λ n. drop n other) at ∙ sym (drop-drop (b * 512 - 1024) 1024 other) ∙ ap (drop (b * 512 - 1024)) o.behind
      ∙ drop-drop (b * 512 - 1024) 1024 image ∙ ap (λ n. drop n image) (sym at) in
      ap (take (b * 512 + 512 - b * 512)) moved

  same_blocks : blocks other ≡ blocks image
  same_blocks = ap (λ n. n / 512) o.long

  same_root : root_of other ≡ root_of image
  same_root = ap middle same_blocks

  same_node : (l : Layout) (n : ℕ) → at_node other l n ≡ at_node image l n
  same_node l zero = same_root
  same_node l (suc i) = refl

  same_nodes : (l : Layout) → at_node other l ≡ at_node image l
  same_nodes l = λ i n. same_node l n i

  same_owned : (l : Layout) → owned other l ≡ owned image l
  same_owned l =
      ap (λ (r : ℕ). (TheRoot, r) ∷ (numbered APage 0 l.pages ++ (numbered AMapExt 0 l.map_exts ++ owned_from 1 l.places))) same_root

  -- the first four bytes
  same_front : (i : ℕ) → i < 4 → slice_index (block other 0) i ≡ slice_index (block image 0) i
  unfolding block
  same_front i lt =
      grind (
        arith,
        common_steps,
        get_or-take 512 other i 0 (omega arith),
        get_or-take 512 image i 0 (omega arith),
        get_or-take 4 other i 0 lt,
        get_or-take 4 image i 0 lt,
        o.begins,
      )

  same_kind : kind_of other ≡ kind_of image
  unfolding kind_of
  same_kind = rw (same_front 3 (omega arith)) refl

  same_boots : (ls : Letters) → AllHold (boot_demands_by ls image) → AllHold (boot_demands_by ls other)
  same_boots Ascii was =
      rw (same_front 0 (omega arith), same_front 1 (omega arith), same_front 2 (omega arith), same_front 3 (omega arith), o.long) was
  same_boots International was =
      rw (same_front 0 (omega arith), same_front 1 (omega arith), same_front 2 (omega arith), same_front 3 (omega arith), o.long) was

  module _ {ls : Letters} (t : Tree) (l : Layout) (fit : FitsBy ls image t l) where
    -- the blocks of parts
    same : (r : Role) (b : ℕ) → LayoutHasBy ls image t l r b → block other b ≡ block image b
    same r b h = same_block b (part_range image t l fit r b h).0

    same_head : (n : ℕ) (e : Entry) → EntryAt t n e → block other (at_node image l n) ≡ block image (at_node image l n)
    same_head n e at =
        let q = place_at ls t n e at in
        same (Head n e.parent (slot_by ls e.name) q.0) (at_node image l n) (q.1, refl)

    -- the table of a file
    same_table : (n m a : ℕ) (e : Entry) → EntryAt t n e → TableAt other l n m a → TableAt image l n m a × (block other a ≡ block image a)
    same_table n zero a e at h =
        let here : at_node image l n ≡ a = sym (same_node l n) ∙ h in
        (here, subst (λ (b : ℕ). block other b ≡ block image b) here (same_head n e at))
    same_table n (suc m) a e at h = (h, same (Ext n (suc m)) a h)

    same_content : (n h : ℕ) → block other h ≡ block image h → content other t.kind h (datas_of l n) ≡ content image t.kind h (datas_of l n)
    unfolding content
    same_content n h e =
        ap (λ x. take (word x SIZE) (joined other t.kind (datas_of l n))) e
        ∙ ap (take (word_in image h SIZE)) (joined_same image other t.kind (datas_of l n) (λ k b at. same (Data n (suc k)) b at))

    same_body : (n h : ℕ) (body : Body) → block other h ≡ block image h → BodyFits image t.kind l n h body → BodyFits other t.kind l n h body
    same_body n h Dir e was = (ap (λ x. word x SECONDARY_TYPE) e ∙ was.0, was.1, was.2)
    same_body n h (File bytes) e was = (
      ap (λ x. word x SECONDARY_TYPE) e ∙ was.0,
      was.1 ∙ sym (same_content n h e),
      was.2 ∙ ap (λ x. word x SIZE) (sym e),
    )

    same_entry : (n : ℕ) (e : Entry) → EntryAt t n e → EntryFitsBy ls other t l n (at_node other l n) e
    unfolding name_of meta_of
    same_entry n e at =
        let h : ℕ = at_node image l n in
        let was : EntryFitsBy ls image t l n h e = fit.entries n e at in
        let own : block other h ≡ block image h = same_head n e at in
        subst (λ (b : ℕ). EntryFitsBy ls other t l n b e) (sym (same_node l n)) (record {
          form =
              subst (λ (x : List ℕ). AllHold (demands_at h (head_form_by ls t.kind h (at_node other l e.parent) (slot_by ls e.name) x))) (sym own)
              (subst (λ (up : ℕ). AllHold (demands_at h (head_form_by ls t.kind h up (slot_by ls e.name) (block image h))))
              (sym (same_node l e.parent)) was.form);
          name = was.name ∙ ap (λ x. text_at x NAME) (sym own);
          meta = was.meta ∙ ap meta_at (sym own);
          body = same_body n h e.body own was.body;
        })

    same_file : (n : ℕ) (e : Entry) (bytes : List ℕ) → EntryAt t n e → e.body ≡ File bytes → FileFits other t l n (at_node other l n) bytes
    same_file n e bytes at is =
        let h : ℕ = at_node image l n in
        let was : FileFits image t l n h bytes = fit.files n e bytes at is in
        let own : block other h ≡ block image h = same_head n e at in
        subst (λ (b : ℕ). FileFits other t l n b bytes) (sym (same_node l n)) (record {
          exts =
              spelled_same (λ b. word_in image b EXTENSION) (λ b. word_in other b EXTENSION) (word_in image h EXTENSION) (word_in other h EXTENSION)
              (exts_of l n) (ap (λ x. word x EXTENSION) (sym own)) (λ k b i. ap (λ x. word x EXTENSION) (sym (same (Ext n (suc k)) b i))) was.exts;
          ext_form = λ k b i.
              subst (λ (x : List ℕ). AllHold (demands_at b (ext_form b h x))) (sym (same (Ext n (suc k)) b i)) (was.ext_form k b i);
          enough = was.enough;
          datas = was.datas;
          named = λ k b a i table.
              let at_table = same_table n (k / POINTERS) a e at table in
              ap (λ x. word x (table_word k)) at_table.1 ∙ was.named k b a i at_table.0;
          data_form = λ k b i.
              data_same image other t.kind b h (suc k) (held t.kind (length bytes) (suc k)) (slice_index (datas_of l n) (suc k))
              (same (Data n (suc k)) b i) (was.data_form k b i);
        })

    -- the block of a directory
    same_directory : (p : ℕ) → IsDir t.entries p → block other (at_node image l p) ≡ block image (at_node image l p)
    same_directory zero dir = same Root (root_of image) refl
    same_directory (suc i) dir =
        let x = entry_some t (suc i) (omega arith) (dir (omega arith)).0 in
        same_head (suc i) x.0 x.1

    same_chain : (p s : ℕ) → IsDir t.entries p → s < SLOTS
        → Spelled (λ b. word_in other b NEXT_IN_CHAIN) (word_in other (at_node other l p) (FIRST_SLOT + s)) (map (at_node other l) (chain_nodes_by ls t p s))
    same_chain p s dir lt =
        subst (λ (f : ℕ → ℕ). Spelled (λ b. word_in other b NEXT_IN_CHAIN) (word_in other (f p) (FIRST_SLOT + s)) (map f (chain_nodes_by ls t p s)))
        (sym (same_nodes l))
        (spelled_same (λ b. word_in image b NEXT_IN_CHAIN) (λ b. word_in other b NEXT_IN_CHAIN)
        (word_in image (at_node image l p) (FIRST_SLOT + s)) (word_in other (at_node image l p) (FIRST_SLOT + s))
        (map (at_node image l) (chain_nodes_by ls t p s))
        (ap (λ x. word x (FIRST_SLOT + s)) (sym (same_directory p dir)))
        (λ k b i. let m = mapped (at_node image l) (chain_nodes_by ls t p s) k b i in
        ap (λ x. word x NEXT_IN_CHAIN) (sym (same (Head m.0 p s k) b (m.1, m.2))))
        (fit.chains p s dir lt))

    same_bit : (b : ℕ) → IsFree other l.pages b ↔ IsFree image l.pages b
    same_bit b = (
      λ free. (free.0, free.1, subst (λ (x : List ℕ). IsFreeBit x ((b - 2) % PAGE_BITS)) (same (Page ((b - 2) / PAGE_BITS)) free.0 free.1) free.2),
      λ free. (free.0, free.1, subst (λ (x : List ℕ). IsFreeBit x ((b - 2) % PAGE_BITS)) (sym (same (Page ((b - 2) / PAGE_BITS)) free.0 free.1)) free.2),
    )

    same_bitmap : (b : ℕ) → 2 ≤ b → b < blocks other → IsFree other l.pages b ↔ ((w : Owner) → In (owned other l) (w, b) → ⊥)
    same_bitmap b low high =
        let was = fit.bitmap b low (subst (λ (n : ℕ). b < n) same_blocks high) in (
          λ free w i. was.0 ((same_bit b).0 free) w (subst (λ (xs : List (Owner × ℕ)). In xs (w, b)) (same_owned l) i),
          λ none. (same_bit b).1 (was.1 (λ w i. none w (subst (λ (xs : List (Owner × ℕ)). In xs (w, b)) (sym (same_owned l)) i))),
        )

    pub other_fits_by : FitsBy ls other t l
    unfolding name_of stamps_of
    other_fits_by =
        let r : ℕ = root_of image in
        let own : block other r ≡ block image r = same Root r refl in
        let root_word : (i : ℕ) → word_in other (root_of other) i ≡ word_in image r i =
        λ i. ap (λ b. word_in other b i) same_root ∙ ap (λ x. word x i) own in
        record {
          boots = same_boots ls fit.boots;
          kind = fit.kind ∙ sym same_kind;
          letters = fit.letters;
          root =
              subst (λ (b : ℕ). AllHold (root_demands other b)) (sym same_root)
              (subst (λ (x : List ℕ). AllHold (demands_at r (root_form x))) (sym own) fit.root);
          label = fit.label ∙ ap (λ x. text_at x NAME) (sym own) ∙ ap (λ b. text_at (block other b) NAME) (sym same_root);
          stamps = fit.stamps ∙ ap stamps_at (sym own) ∙ ap (λ b. stamps_at (block other b)) (sym same_root);
          tree = fit.tree;
          places = fit.places;
          pages = fit.pages ∙ ap pages_needed (sym same_blocks);
          map_exts = fit.map_exts ∙ ap (λ n. map_exts_needed (pages_needed n)) (sym same_blocks);
          map_first = λ b at. root_word FIRST_MAP_EXT ∙ fit.map_first b at;
          map_next = λ j a b at next. ap (λ x. word x MAP_EXT_NEXT) (same (MapExt j) a at) ∙ fit.map_next j a b at next;
          page_named = λ k b lt at. root_word (FIRST_PAGE + k) ∙ fit.page_named k b lt at;
          page_listed = λ j i a b lt at page. ap (λ x. word x i) (same (MapExt j) a at) ∙ fit.page_listed j i a b lt at page;
          page_form = λ k b at. subst (λ (x : List ℕ). AllHold (demands_at b (page_form x))) (sym (same (Page k) b at)) (fit.page_form k b at);
          entries = same_entry;
          chains = same_chain;
          files = same_file;
          once = subst NoBlockTwice (sym (same_owned l)) fit.once;
          range = λ w b i.
              let was = fit.range w b (subst (λ (xs : List (Owner × ℕ)). In xs (w, b)) (same_owned l) i) in
              (was.0, subst (λ (n : ℕ). b < n) (sym same_blocks) was.1);
          bitmap = same_bitmap;
        }

-- the same of plain volumes
pub other_fits : (image other : List ℕ) → IsOtherBoot image other → (t : Tree) (l : Layout) → Fits image t l → Fits other t l
other_fits image other o t l (few, fit) = (subst (λ n. n ≤ MOST_PLAIN_BLOCKS) (sym (same_blocks image other o)) few, other_fits_by image other o t l fit)
