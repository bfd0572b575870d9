-- A built volume fits its tree.
use Rattle.std.proofs.Common.{◌≡◌, ℕ, zero, suc, List, [], ◌∷◌, ◌+◌, ◌-◌, ◌*◌, ◌/◌, ◌%◌, ◌^◌, ◌<◌, ◌≤◌, length, map, refl, sym, ap, subst, ◌∙◌, arith, Bool}
use Rattle.std.proofs.Common.{true, false, cond, slice_index, None, ◌↔◌, ◌==◌, IsBitSet}
use Rattle.std.specs.List.{range_with_len}
use Rattle.std.proofs.{lemmas.Nat.bit_set_by_shift, lemmas.Nat.and_mask, lemmas.Grind.common_steps}
use Rattle.adf_tree.specs.{declared.entry.Body.TheVariants.File, declared.entry.Entry.Entry, Tree.Tree, Tree.IsDir}
use Rattle.std.proofs.lemmas.List.FromFn.{get_or-map-range_with_len, get_or-range_with_len, length-map-range_with_len, length-range_with_len}
use Rattle.adf_base.specs.{declared.hash.Letters.Letters, Words.block, Words.word, Words.with_bytes}
use Rattle.adf_names.specs.declared.kind.Kind.{Kind, TheVariants.Ofs, TheVariants.Ffs}
use Rattle.adf_blocks.specs.declared.layout.TheConstants.{FIRST_MAP_EXT, FIRST_PAGE, FIRST_SLOT, MAP_EXT_NEXT, MAP_EXT_PAGES, NAME, NEXT_IN_CHAIN, PAGE_BITS}
use Rattle.adf_blocks.specs.declared.layout.TheConstants.{ROOT_PAGES, SLOTS}
use Rattle.adf_blocks.specs.{Sizes.blocks, Sizes.middle, Sizes.pages_needed, Forms.first_cause, Forms.text_at, Fields.block_of_fields, RootBlock.root_form}
use Rattle.adf_blocks.specs.{RootBlock.stamps_at, MapExtBlock.map_ext_block, PageBlock.page_form, PageBlock.page_block, PageBlock.IsFreeBit}
use Rattle.adf_blocks.proofs.RootLaws.{root_block-form, root_block-text, root_block-stamps, root_block-page, root_block-map_ext}
use Rattle.adf_blocks.proofs.{MapExtLaws.map_ext_block-next, MapExtLaws.map_ext_block-page, PageLaws.page_block-form, PageLaws.page_block-bit}
use Rattle.adf_volume.specs.{declared.owner.Owner.Owner, Lists.At, Lists.In, Lists.Spelled, Fits.FitsBy, Fits.EntryFitsBy, Fits.FileFits, Fits.IsFree}
use Rattle.adf_volume.specs.Image.{word_in, root_of, kind_of, name_of, stamps_of, map_exts_needed}
use Rattle.adf_volume.specs.Demands.{AllHold, boot_form_by, boot_demands_by, root_demands, page_demands}
use Rattle.adf_volume.specs.Layout.{EntryAt, at_node, chain_nodes_by, owned}
use Rattle.adf_volume.proofs.{FormDemands.all_demanded, Lists.at_below, Lists.at_index, Images.page_in, TreeOrder.dir_node}
use Rattle.adf_volume.proofs.DistinctBlocks.{block_in, in_block}
use Rattle.adf_build.specs.Plan.{entry_blocks, entries_blocks, places_from, planned}
use Rattle.adf_build.specs.Bits.{is_used, is_free_bit, bits_from, page_words}
use Rattle.adf_build.specs.Laid.{IsLaid, boot_bytes_by, listed_pages, map_ext_or_none, map_ext_part, page_part, planned_root, volume}
use Rattle.adf_build.proofs.{AllocatedBlocks.reserved_below, Parts.part_held, Planned.owned_blocks, Planned.planned_once, Planned.planned_range, Bits.bit_of}
use Rattle.adf_build.proofs.{Bits.bits_small, Bits.owned_used, Bits.used_owned, LaidEntries.entry_laid, LaidEntries.file_laid}
use Rattle.adf_build.proofs.LaidWrites.{CanHold, can_hold, four, small, listed_few, reserved_parts, fits_root, volume_long, volume_blocks, holds_map_exts}
use Rattle.adf_build.proofs.LaidWrites.{holds_pages, holds_root, holds_boot}
use Rattle.adf_build.proofs.EntryBlocks.{standing, chain_laid, root_slot, dir_slot}
use Rattle.std.proofs.lemmas.Bool.{false_from_ne_true, true≢false, Decides.nat_tests}

boot_holds : (letters : Letters) (kind : Kind) → first_cause (boot_form_by letters (block_of_fields ((0, boot_bytes_by letters kind) ∷ []))) ≡ None
unfolding with_bytes
boot_holds letters kind = grind (arith, common_steps)

boot_kind : (letters : Letters) (kind : Kind)
    → cond (slice_index (block_of_fields ((0, boot_bytes_by letters kind) ∷ [])) 3 % 2 == 0) Ofs Ffs ≡ kind
unfolding with_bytes
boot_kind letters kind = grind (arith, common_steps)

-- a member of a range is known by its place
pub range_at : (b m j c : ℕ) → At (range_with_len b m) j c → (j < m) × (c ≡ b + j)
range_at b m j c h = grind (arith, common_steps, at_below, length-range_with_len, at_index, get_or-range_with_len)

at_range : (b m j : ℕ) → j < m → At (range_with_len b m) j (b + j)
at_range b zero j h = absurd (omega arith)
at_range b (suc m) zero h = omega arith
at_range b (suc m) (suc j) h =
    let z : b + 1 + j ≡ b + suc j = omega arith in subst (At (range_with_len (b + 1) m) j) z (at_range (b + 1) m j (omega arith))

places_long : (n : ℕ) (kind : Kind) (k : ℕ) (es : List Entry) → length (places_from n kind k es) ≡ length es
places_long n kind k [] = refl
places_long n kind k (e ∷ es) = ap suc (places_long n kind (k + entry_blocks kind e) es)

-- what names a bitmap extension block that is there
map_ext_some : (n j : ℕ) → j < map_exts_needed (pages_needed n) → map_ext_or_none n j ≡ middle n + 1 + pages_needed n + j
map_ext_some n j h = grind (arith, nat_tests)

-- and it is a word, as the block lies in the volume
map_ext_small : (n j : ℕ) → middle n + 1 + pages_needed n + j < 2 ^ 32 → map_ext_or_none n j < 2 ^ 32
map_ext_small n j h = grind (arith, nat_tests)

set_bit : (x k : ℕ) → IsBitSet x k ↔ (x / 2 ^ k % 2 ≡ 1)
set_bit x k = grind (arith, common_steps, and_mask (x / 2 ^ k) 1, bit_set_by_shift x k)

flag_true : (t : Bool) → cond {A = ℕ} t 1 0 ≡ 1 → t ≡ true
flag_true true h = refl
flag_true false h = absurd (omega arith)

flag_one : (t : Bool) → t ≡ true → cond {A = ℕ} t 1 0 ≡ 1
flag_one true h = refl
flag_one false h = cc

-- a bit of a page tells whether its block is free
bit_tells : (n total q r : ℕ) → r < PAGE_BITS → IsFreeBit (page_block (page_words n total q)) r ↔ (is_free_bit n total (PAGE_BITS * q + r) ≡ true)
bit_tells n total q r h =
    let f : ℕ → Bool = is_free_bit n total in
    let at : ℕ = PAGE_BITS * q + 32 * (r / 32) in
    let y : at + r % 32 ≡ PAGE_BITS * q + r = omega arith in
    let words : ℕ → ℕ = λ w. bits_from f (PAGE_BITS * q + 32 * w) 32 in
    let w : slice_index (page_words n total q) (r / 32) ≡ bits_from f at 32 =
    get_or-map-range_with_len words 0 127 (r / 32) (r / 32) 0 (omega arith) (omega arith) in
    let b : bits_from f at 32 / 2 ^ (r % 32) % 2 ≡ cond (f (PAGE_BITS * q + r)) 1 0 =
    bit_of f at 32 (r % 32) (omega arith) ∙ ap (λ j. cond (f j) 1 0) y in
    let p = page_block-bit (page_words n total q) r (length-map-range_with_len words 0 127) h (rw w (bits_small f at 32)) in (
      (λ free. flag_true (f (PAGE_BITS * q + r)) (sym b ∙ (set_bit (bits_from f at 32) (r % 32)).0 (subst (λ x. IsBitSet x (r % 32)) w (p.0 free)))),
      (λ e. p.1 (subst (λ x. IsBitSet x (r % 32)) (sym w) ((set_bit (bits_from f at 32) (r % 32)).1 (b ∙ flag_one (f (PAGE_BITS * q + r)) e)))),
    )

free_unused : (n total r b : ℕ) → 2 + r ≡ b → is_free_bit n total r ≡ true → is_used n total b ≡ false
free_unused n total r b e h = grind (arith, nat_tests)

unused_free : (n total r b : ℕ) → 2 + r ≡ b → b < n → is_used n total b ≡ false → is_free_bit n total r ≡ true
unused_free n total r b e l h = grind (arith, nat_tests)

module _ {t : Tree} {n : ℕ} (can : CanHold t n) where
  size : blocks (volume t n) ≡ n
  size = volume_blocks can

  boots_laid : AllHold (boot_demands_by t.letters (volume t n))
  boots_laid = grind (arith, common_steps, volume_long, size, all_demanded, holds_boot, boot_holds)

  kind_laid : t.kind ≡ kind_of (volume t n)
  unfolding kind_of
  kind_laid = sym (ap (λ bs. cond (slice_index bs 3 % 2 == 0) Ofs Ffs) (holds_boot can) ∙ boot_kind t.letters t.kind)

  root_at : AllHold (root_demands (volume t n) (middle n))
  root_at = all_demanded (middle n) (root_form (block (volume t n) (middle n)))
      (subst (λ bs. first_cause (root_form bs) ≡ None) (sym (holds_root can)) (root_block-form (planned_root t n) (fits_root can)))

  label_laid : t.label ≡ name_of (volume t n) (middle n)
  unfolding name_of
  label_laid = sym (ap (λ bs. text_at bs NAME) (holds_root can) ∙ root_block-text (planned_root t n) (fits_root can))

  stamps_laid : t.stamps ≡ stamps_of (volume t n) (middle n)
  unfolding stamps_of
  stamps_laid = sym (ap stamps_at (holds_root can) ∙ root_block-stamps (planned_root t n) (fits_root can) can.sound.bounds.stamps)

  page_word : (k b : ℕ) → k < ROOT_PAGES → At (range_with_len (middle n + 1) (pages_needed n)) k b
      → word_in (volume t n) (middle n) (FIRST_PAGE + k) ≡ b
  page_word k b l h = grind (arith, common_steps, range_at, get_or-range_with_len, holds_root, root_block-page, fits_root, small)

  page_at : (q : ℕ) → q < pages_needed n → block (volume t n) (middle n + 1 + q) ≡ page_block (page_words n (entries_blocks t.kind t.entries) q)
  page_at q l =
      part_held (volume t n) (page_part n (entries_blocks t.kind t.entries)) 0 (pages_needed n) q (holds_pages can) (omega arith) (omega arith)

  page_formed : (k b : ℕ) → At (range_with_len (middle n + 1) (pages_needed n)) k b → AllHold (page_demands (volume t n) b)
  page_formed k b h =
      let at = range_at (middle n + 1) (pages_needed n) k b h in
      subst (λ b. AllHold (page_demands (volume t n) b)) (sym at.1)
      (all_demanded (middle n + 1 + k) (page_form (block (volume t n) (middle n + 1 + k)))
      (subst (λ bs. first_cause (page_form bs) ≡ None) (sym (page_at k at.0))
      (page_block-form (page_words n (entries_blocks t.kind t.entries) k)
      (length-map-range_with_len (λ w. bits_from (is_free_bit n (entries_blocks t.kind t.entries)) (PAGE_BITS * k + 32 * w) 32) 0 127))))

  chains_laid : (p s : ℕ) → IsDir t.entries p → s < SLOTS
      → Spelled (λ b. word_in (volume t n) b NEXT_IN_CHAIN) (word_in (volume t n) (at_node (volume t n) (planned t n) p) (FIRST_SLOT + s))
      (map (at_node (volume t n) (planned t n)) (chain_nodes_by t.letters t p s))
  chains_laid zero s d l =
      chain_laid can 0 s (word_in (volume t n) (root_of (volume t n)) (FIRST_SLOT + s))
      (ap (λ b. word_in (volume t n) (middle b) (FIRST_SLOT + s)) size ∙ root_slot can s l)
  chains_laid (suc i) s d l =
      let x = dir_node t (suc i) d in
      chain_laid can (suc i) s (word_in (volume t n) (at_node (volume t n) (planned t n) (suc i)) (FIRST_SLOT + s))
      (ap (λ b. word_in (volume t n) b (FIRST_SLOT + s)) (standing can i x.0 x.1).at ∙ dir_slot can i s x.0 x.1 x.2 l)

  free_laid : (b : ℕ) → 2 ≤ b → b < n → IsFree (volume t n) (range_with_len (middle n + 1) (pages_needed n)) b → (o : Owner)
      → In (owned (volume t n) (planned t n)) (o, b) → ⊥
  free_laid b lo hi f o i =
      let q : ℕ = (b - 2) / PAGE_BITS in
      let r : ℕ = (b - 2) % PAGE_BITS in
      let at = range_at (middle n + 1) (pages_needed n) q f.0 f.1 in
      let lt : q < pages_needed n = page_in n b lo hi in
      let g : IsFreeBit (block (volume t n) (middle n + 1 + q)) r = subst (λ p. IsFreeBit (block (volume t n) p) r) at.1 f.2 in
      let x = (bit_tells n (entries_blocks t.kind t.entries) q r (omega arith)).0 (subst (λ bs. IsFreeBit bs r) (page_at q lt) g) in
      let y = free_unused n (entries_blocks t.kind t.entries) (PAGE_BITS * q + r) b (omega arith) x in
      let u = owned_used n (entries_blocks t.kind t.entries) b
      (subst (λ l. In l b) (owned_blocks (volume t n) t n size) (block_in (owned (volume t n) (planned t n)) o b i)) in
      true≢false (sym u ∙ y)

  unowned_laid : (b : ℕ) → 2 ≤ b → b < n → ((o : Owner) → In (owned (volume t n) (planned t n)) (o, b) → ⊥)
      → IsFree (volume t n) (range_with_len (middle n + 1) (pages_needed n)) b
  unowned_laid b lo hi f =
      let q : ℕ = (b - 2) / PAGE_BITS in
      let r : ℕ = (b - 2) % PAGE_BITS in
      let lt : q < pages_needed n = page_in n b lo hi in
      let y = false_from_ne_true (is_used n (entries_blocks t.kind t.entries) b) (λ u. let x = in_block (owned (volume t n) (planned t n)) b
      (subst (λ l. In l b) (sym (owned_blocks (volume t n) t n size))
      (used_owned n (entries_blocks t.kind t.entries) b (four can) lo u)) in f x.0 x.1) in
      let x = unused_free n (entries_blocks t.kind t.entries) (PAGE_BITS * q + r) b (omega arith) hi y in
      let g = (bit_tells n (entries_blocks t.kind t.entries) q r (omega arith)).1 x in
      (middle n + 1 + q, at_range (middle n + 1) (pages_needed n) q lt, subst (λ bs. IsFreeBit bs r) (sym (page_at q lt)) g)

  -- what stands in a bitmap extension block
  map_ext_is : (j : ℕ) → j < map_exts_needed (pages_needed n)
      → block (volume t n) (middle n + 1 + pages_needed n + j)
      ≡ map_ext_block (listed_pages n j) (map_ext_or_none n (suc j))
  map_ext_is j l =
      part_held (volume t n) (map_ext_part n) 0 (map_exts_needed (pages_needed n)) j (holds_map_exts can) (omega arith) (omega arith)

  -- a bitmap extension block lies in the volume
  map_ext_near : (j : ℕ) → j ≤ map_exts_needed (pages_needed n) → middle n + 1 + pages_needed n + j < 2 ^ 32
  map_ext_near j l = grind (arith, common_steps, reserved_parts, reserved_below, four, small)

  map_first_laid : (b : ℕ) → At (range_with_len (middle n + 1 + pages_needed n) (map_exts_needed (pages_needed n))) 0 b
      → word_in (volume t n) (middle n) FIRST_MAP_EXT ≡ b
  map_first_laid b h = grind (arith, common_steps, range_at, map_ext_small, map_ext_near, holds_root, root_block-map_ext, fits_root, map_ext_some)

  map_next_laid : (j a b : ℕ) → At (range_with_len (middle n + 1 + pages_needed n) (map_exts_needed (pages_needed n))) j a
      → At (range_with_len (middle n + 1 + pages_needed n) (map_exts_needed (pages_needed n))) (suc j) b
      → word_in (volume t n) a MAP_EXT_NEXT ≡ b
  map_next_laid j a b g h =
      let x = range_at (middle n + 1 + pages_needed n) (map_exts_needed (pages_needed n)) j a g in
      let y = range_at (middle n + 1 + pages_needed n) (map_exts_needed (pages_needed n)) (suc j) b h in
      let u : suc j < map_exts_needed (pages_needed n) = y.0 in
      let e : b ≡ middle n + 1 + pages_needed n + suc j = y.1 in
      let small = map_ext_small n (suc j) (map_ext_near (suc j) (omega arith)) in
      ap (λ a. word_in (volume t n) a MAP_EXT_NEXT) x.1
      ∙ (ap (λ bs. word bs MAP_EXT_NEXT) (map_ext_is j x.0)
      ∙ (map_ext_block-next (listed_pages n j) (map_ext_or_none n (suc j)) (listed_few n j) small ∙ (map_ext_some n (suc j) u ∙ sym e)))

  page_listed_laid : (j i a b : ℕ) → i < MAP_EXT_PAGES → At (range_with_len (middle n + 1 + pages_needed n) (map_exts_needed (pages_needed n))) j a
      → At (range_with_len (middle n + 1) (pages_needed n)) (ROOT_PAGES + MAP_EXT_PAGES * j + i) b
      → word_in (volume t n) a i ≡ b
  page_listed_laid j i a b l g h =
      grind (arith, common_steps, range_at, map_ext_near, get_or-range_with_len, map_ext_is, map_ext_block-page, listed_few)

  entries_fit : (m : ℕ) (e : Entry) → EntryAt t m e → EntryFitsBy t.letters (volume t n) t (planned t n) m (at_node (volume t n) (planned t n) m) e
  entries_fit zero e h = absurd h
  entries_fit (suc i) e h = entry_laid can i e h

  files_fit : (m : ℕ) (e : Entry) (bytes : List ℕ) → EntryAt t m e → e.body ≡ File bytes
      → FileFits (volume t n) t (planned t n) m (at_node (volume t n) (planned t n) m) bytes
  files_fit zero e bytes h f = absurd h
  files_fit (suc i) e bytes h f = file_laid can i e h bytes f

  pub volume_fits : FitsBy t.letters (volume t n) t (planned t n)
  volume_fits =
      let s : middle n ≡ root_of (volume t n) = ap middle (sym size) in
      record {
        boots = boots_laid;
        kind = kind_laid;
        letters = refl;
        root = subst (λ b. AllHold (root_demands (volume t n) b)) s root_at;
        label = subst (λ b. t.label ≡ name_of (volume t n) b) s label_laid;
        stamps = subst (λ b. t.stamps ≡ stamps_of (volume t n) b) s stamps_laid;
        tree = can.sound.tree;
        places = places_long n t.kind 0 t.entries;
        pages = length-range_with_len (middle n + 1) (pages_needed n) ∙ ap pages_needed (sym size);
        map_exts = length-range_with_len (middle n + 1 + pages_needed n) (map_exts_needed (pages_needed n))
            ∙ ap (λ n. map_exts_needed (pages_needed n)) (sym size);
        map_first = (λ b h. ap (λ r. word_in (volume t n) r FIRST_MAP_EXT) (sym s) ∙ map_first_laid b h);
        map_next = map_next_laid;
        page_named = (λ k b l h. ap (λ r. word_in (volume t n) r (FIRST_PAGE + k)) (sym s) ∙ page_word k b l h);
        page_listed = page_listed_laid;
        page_form = page_formed;
        entries = entries_fit;
        chains = chains_laid;
        files = files_fit;
        once = planned_once (volume t n) t n size;
        range = (λ o b h. let r = planned_range (volume t n) t n o b size (four can) can.room h in (r.0, subst (λ m. b < m) (sym size) r.1));
        bitmap = (λ b lo hi. let l : b < n = subst (λ m. b < m) size hi in (free_laid b lo l, unowned_laid b lo l));
      }

-- a laid image fits its tree as it was planned
pub laid_fits : (image : List ℕ) (t : Tree) → IsLaid image t → FitsBy t.letters image t (planned t (blocks image))
laid_fits image t l = subst (λ v. FitsBy t.letters v t (planned t (blocks image))) (sym l.bytes) (volume_fits (can_hold l))
