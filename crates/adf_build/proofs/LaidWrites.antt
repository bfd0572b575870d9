-- A built volume has each of its parts.
use Rattle.std.proofs.Common.{◌≡◌, ℕ, zero, suc, List, [], ◌∷◌, ◌++◌, inl, inr, ◌+◌, ◌-◌, ◌*◌, ◌^◌, ◌<◌, ◌≤◌, length, refl, sym, subst, arith, true}
use Rattle.std.proofs.{Common.append_assoc, Common.slice_index, Common.replicate, lemmas.Grind.common_steps}
use Rattle.std.specs.List.{range_with_len}
use Rattle.std.proofs.lemmas.List.{length-replicate, FromFn.length-map-range_with_len, FromFn.length-range_with_len}
use Rattle.adf_base.specs.{declared.hash.Letters.Letters, Words.block}
use Rattle.adf_tree.specs.{Bounds.IsBoundedEntry, declared.entry.Entry.Entry, Tree.Tree}
use Rattle.adf_names.specs.declared.kind.Kind.{Kind}
use Rattle.adf_blocks.specs.declared.layout.TheConstants.{MAP_EXT_PAGES, PAGE_BITS}
use Rattle.adf_blocks.specs.{Sizes.blocks, Sizes.middle, Sizes.pages_needed, Sizes.is_allowed, Fields.block_of_fields, RootBlock.FitsRoot, RootBlock.root_block}
use Rattle.adf_blocks.proofs.{FieldLaws.length-block_of_fields, RootLaws.length_root_block, PageLaws.length_page_block, MapExtLaws.length_map_ext_block}
use Rattle.adf_volume.specs.{Lists.At, Image.map_exts_needed}
use Rattle.adf_volume.proofs.{Lists.in_cases, Lists.at_below, Lists.at_index_or, Sizes.size_low, Sizes.size_high}
use Rattle.adf_volume.proofs.DistinctBlocks.{Distinct, distinct-append}
use Rattle.adf_build.specs.Plan.{reserved, entry_blocks, entries_blocks, blocks_needed, allocated}
use Rattle.adf_build.specs.{Bits.bits_from, Bits.is_free_bit, Bits.page_words, Writes.AreBlocks, Writes.NoneTwice, Writes.HoldsBlocks, Writes.numbers_of}
use Rattle.adf_build.specs.Laid.{IsLaid, IsWellFormed, boot_bytes_by, entries_writes, heads_from, listed_pages, map_ext_or_none, map_ext_part, map_ext_writes}
use Rattle.adf_build.specs.Laid.{node_blocks, page_part, page_writes, planned_root, volume, writes}
use Rattle.adf_build.proofs.AllocatedBlocks.{free_from, free_below, free_apart, reserved_below, in_allocated, in_range, distinct_allocated, distinct_range}
use Rattle.adf_build.proofs.{AllocatedBlocks.range_with_len-append, BlockWrites.length-with_blocks, Parts.are_parts, Parts.range_numbers}
use Rattle.adf_build.proofs.WrittenBlocks.{none_twice, laid_holds, holds_left, holds_right, numbers_of-append, entries_numbers}
use Rattle.adf_build.proofs.WholeBlocks.{HasFree, free_small, are-append, are_entries}

-- the reserved blocks are the pages and the bitmap extension blocks
pub reserved_parts : (n : ℕ) → pages_needed n + map_exts_needed (pages_needed n) ≡ reserved n
unfolding reserved
reserved_parts n = refl

boot_short : (letters : Letters) (kind : Kind) → length (boot_bytes_by letters kind) ≡ 4
boot_short letters kind = grind (arith, common_steps)

-- a bitmap extension block names at most MAP_EXT_PAGES pages
pub listed_few : (n j : ℕ) → length (listed_pages n j) ≤ MAP_EXT_PAGES
listed_few n j = grind (arith, common_steps, length-range_with_len)

page_long : (n total j : ℕ) → length (page_words n total j) ≡ 127
page_long n total j = length-map-range_with_len (λ w. bits_from (is_free_bit n total) (PAGE_BITS * j + 32 * w) 32) 0 127

-- the parts: the entries, and behind them the pages, the bitmap extension blocks, the root and the boot block
abbrev entries_of : Tree → ℕ → List (ℕ × List ℕ)
entries_of t n = entries_writes n t 1 0 t.entries

abbrev pages_of : Tree → ℕ → List (ℕ × List ℕ)
pages_of t n = page_writes n (entries_blocks t.kind t.entries)

abbrev ends_of : Tree → ℕ → List (ℕ × List ℕ)
ends_of t n = (middle n, root_block (planned_root t n)) ∷ (0, block_of_fields ((0, boot_bytes_by t.letters t.kind) ∷ [])) ∷ []

abbrev rest_of : Tree → ℕ → List (ℕ × List ℕ)
rest_of t n = pages_of t n ++ (map_ext_writes n ++ ends_of t n)

-- a volume of n blocks can hold the tree: the tree is well formed, the size is allowed, and there is room
pub record CanHold (t : Tree) (n : ℕ) : Type 0 where
  pub sound : IsWellFormed t
  pub allowed : is_allowed n ≡ true
  pub room : blocks_needed t n ≤ n - 2

-- the volume of a laid image can hold its tree
pub can_hold : {image : List ℕ} {t : Tree} → IsLaid image t → CanHold t (blocks image)
can_hold l = record { sound = l.sound; allowed = l.size; room = l.room }

-- an empty volume has its length
pub zeros_long : (n : ℕ) → length {A = ℕ} (replicate (n * 512) 0) ≡ n * 512
zeros_long n = length-replicate (n * 512) 0

module _ {t : Tree} {n : ℕ} (can : CanHold t n) where
  -- the size is within bounds, and the blocks of the entries are there
  pub four : 4 ≤ n
  four = size_low n can.allowed

  pub small : n * 512 ≤ 2 ^ 32
  small = omega (arith, size_high n can.allowed)

  pub has_free : HasFree n (entries_blocks t.kind t.entries)
  has_free = record { small = omega (arith, small); below = (λ k l. free_below n k four (omega arith)) }

  heads_near : (k : ℕ) (es : List Entry) → k + entries_blocks t.kind es ≤ entries_blocks t.kind t.entries → (j : ℕ)
      → slice_index (heads_from n t.kind k es) j < 2 ^ 32
  heads_near k [] l j = omega arith
  heads_near k (e ∷ es) l zero = free_small has_free k (omega arith)
  heads_near k (e ∷ es) l (suc j) = heads_near (k + entry_blocks t.kind e) es (omega arith) j

  -- the block of each node is a word
  pub near : (j : ℕ) → slice_index (node_blocks t n) j < 2 ^ 32
  near zero = omega (arith, small)
  near (suc j) = heads_near 0 t.entries (omega arith) j

  pub entry_sound : (j : ℕ) (e : Entry) → At t.entries j e → IsBoundedEntry e
  entry_sound j e h =
      let l : j < length t.entries = at_below t.entries j e h in
      subst IsBoundedEntry (at_index_or t.entries j e e h) (can.sound.bounds.entries j e l)

  pub fits_root : FitsRoot (planned_root t n)
  fits_root = grind (arith, common_steps, length-range_with_len, length-map-range_with_len)

  pub writes_are : AreBlocks n (writes t n)
  writes_are =
      let least = four in
      let p = reserved_parts n in
      let r = reserved_below n four in
      let b = boot_short t.letters t.kind in
      let boot = length-block_of_fields 512 ((0, boot_bytes_by t.letters t.kind) ∷ []) (omega arith) (omega arith, tt) in
      are-append n (entries_of t n) (rest_of t n)
      (are_entries has_free t 1 0 t.entries near (omega arith) (λ j e h. let b = entry_sound j e h in (b.name, b.meta.comment)))
      (are-append n (pages_of t n) (map_ext_writes n ++ ends_of t n)
      (are_parts n (page_part n (entries_blocks t.kind t.entries)) 0 (pages_needed n)
      (λ j l. (omega arith, length_page_block (page_words n (entries_blocks t.kind t.entries) j) (page_long n (entries_blocks t.kind t.entries) j))))
      (are-append n (map_ext_writes n) (ends_of t n)
      (are_parts n (map_ext_part n) 0 (map_exts_needed (pages_needed n))
      (λ j l. (omega arith, length_map_ext_block (listed_pages n j) (map_ext_or_none n (suc j)) (listed_few n j))))
      (omega arith, length_root_block (planned_root t n) fits_root, (omega arith, boot, tt))))

  writes_numbers : numbers_of (writes t n) ≡ allocated n 0 (entries_blocks t.kind t.entries)
      ++ (range_with_len (middle n + 1) (reserved n) ++ middle n ∷ 0 ∷ [])
  writes_numbers =
      let z : middle n + 1 + 0 ≡ middle n + 1 = omega arith in
      let y : middle n + 1 + pages_needed n + 0 ≡ middle n + 1 + pages_needed n = omega arith in
      let both = range_with_len-append (middle n + 1) (pages_needed n) (map_exts_needed (pages_needed n)) in
      let parts = reserved_parts n in
      let joined = append_assoc (range_with_len (middle n + 1) (pages_needed n)) (range_with_len (middle n + 1 + pages_needed n)
      (map_exts_needed (pages_needed n))) (middle n ∷ 0 ∷ []) in
      let pages = range_numbers (page_part n (entries_blocks t.kind t.entries)) (middle n + 1) 0 (pages_needed n) (λ j. refl) in
      let exts = range_numbers (map_ext_part n) (middle n + 1 + pages_needed n) 0 (map_exts_needed (pages_needed n)) (λ j. refl) in
      simp (numbers_of-append, entries_numbers) (cc)

  pub writes_once : NoneTwice (writes t n)
  writes_once =
      let least = four in
      let m : ℕ = entries_blocks t.kind t.entries in
      none_twice (writes t n) (subst Distinct (sym writes_numbers)
      (distinct-append (allocated n 0 m) (range_with_len (middle n + 1) (reserved n) ++ middle n ∷ 0 ∷ []) (distinct_allocated n 0 m)
      (distinct-append (range_with_len (middle n + 1) (reserved n)) (middle n ∷ 0 ∷ []) (distinct_range (middle n + 1) (reserved n))
      ((λ h. elim h [ inl e ↦ omega arith | inr g ↦ g ]), ((λ h. h), tt))
      (λ b i j.
      let r = in_range (middle n + 1) (reserved n) b i in
      elim j [ inl e ↦ omega arith | inr g ↦ elim g [ inl e ↦ omega arith | inr f ↦ f ] ]))
      (λ b i j.
      let s = in_allocated n 0 m b i in
      let f = free_from n s.number in
      elim (in_cases (range_with_len (middle n + 1) (reserved n)) (middle n ∷ 0 ∷ []) b j) [
        | inl k ↦ let r = in_range (middle n + 1) (reserved n) b k in free_apart n s.number (omega arith) (omega arith)
        | inr k ↦ elim k [ inl g ↦ free_apart n s.number (omega arith) (omega arith) | inr g ↦ elim g [ inl h ↦ omega arith | inr h ↦ h ] ]
      ])))

  pub volume_long : length (volume t n) ≡ n * 512
  unfolding volume
  volume_long = length-with_blocks n (replicate (n * 512) 0) (writes t n) writes_are (zeros_long n)

  pub volume_blocks : blocks (volume t n) ≡ n
  volume_blocks = let l = volume_long in omega arith

  holds_all : HoldsBlocks (volume t n) (writes t n)
  unfolding volume
  holds_all = laid_holds n (replicate (n * 512) 0) (writes t n) (writes t n) writes_are writes_once (zeros_long n) (λ q h. h)

  pub holds_entries : HoldsBlocks (volume t n) (entries_of t n)
  holds_entries = holds_left (volume t n) (entries_of t n) (rest_of t n) holds_all

  holds_rest : HoldsBlocks (volume t n) (rest_of t n)
  holds_rest = holds_right (volume t n) (entries_of t n) (rest_of t n) holds_all

  pub holds_pages : HoldsBlocks (volume t n) (pages_of t n)
  holds_pages = holds_left (volume t n) (pages_of t n) (map_ext_writes n ++ ends_of t n) holds_rest

  holds_back : HoldsBlocks (volume t n) (map_ext_writes n ++ ends_of t n)
  holds_back = holds_right (volume t n) (pages_of t n) (map_ext_writes n ++ ends_of t n) holds_rest

  pub holds_map_exts : HoldsBlocks (volume t n) (map_ext_writes n)
  holds_map_exts = holds_left (volume t n) (map_ext_writes n) (ends_of t n) holds_back

  holds_ends : HoldsBlocks (volume t n) (ends_of t n)
  holds_ends = holds_right (volume t n) (map_ext_writes n) (ends_of t n) holds_back

  pub holds_root : block (volume t n) (middle n) ≡ root_block (planned_root t n)
  holds_root = holds_ends.0

  pub holds_boot : block (volume t n) 0 ≡ block_of_fields ((0, boot_bytes_by t.letters t.kind) ∷ [])
  holds_boot = holds_ends.1.0
