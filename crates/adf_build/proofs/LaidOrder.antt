-- The order of a built volume: each part in its place, ascending without gaps, and zeros elsewhere.
use Rattle.std.proofs.Common.{◌≡◌, ℕ, zero, suc, List, [], length, ◌∷◌, ◌++◌, ◌⊎◌, inl, inr, ◌+◌, ◌-◌, ◌*◌, ◌<◌, ◌≤◌, refl, sym, ap, subst, ◌∙◌, arith}
use Rattle.std.specs.{List.range_with_len, Prelude.replicate}
use Rattle.std.proofs.{lemmas.Bool.cases_lt, lemmas.Grind.common_steps}
use Rattle.std.proofs.lemmas.List.{drop-replicate, take-replicate, FromFn.length-range_with_len}
use Rattle.adf_base.specs.Words.{block}
use Rattle.adf_tree.specs.{Tree.Tree, declared.entry.Body.TheVariants.File, declared.entry.Entry.Entry}
use Rattle.adf_names.specs.declared.kind.Kind.{Kind}
use Rattle.adf_blocks.specs.{declared.layout.TheConstants.POINTERS, Sizes.blocks, Sizes.count, Sizes.middle, Sizes.pages_needed}
use Rattle.adf_volume.specs.{declared.owner.Owner.Owner, Lists.At, Lists.In, Fits.FitsBy, Image.map_exts_needed}
use Rattle.adf_volume.specs.Layout.{EntryAt, Layout, exts_at, exts_of, owned}
use Rattle.adf_volume.proofs.{Lists.in_left, Lists.in_right, DistinctBlocks.in_block}
use Rattle.adf_build.specs.{InOrder.IsInOrder, InOrder.blocks_in_order, Writes.numbers_of, Laid.writes, Laid.volume, Laid.IsLaid}
use Rattle.adf_build.specs.Plan.{allocated, data_blocks, entries_blocks, exts_needed, nth_free, places_from, planned, reserved}
use Rattle.adf_build.proofs.AllocatedBlocks.{stretch, allocated-append, allocated_in, free_rises, in_allocated, length_allocated, range_in}
use Rattle.adf_build.proofs.{AllocatedBlocks.Stretch.low, AllocatedBlocks.Stretch.high, Planned.owned_blocks, BlockWrites.with_blocks_same}
use Rattle.adf_build.proofs.{BlockWrites.with_blocks_other, WrittenBlocks.number_in, LaidFiles.allocated_at, LaidFits.laid_fits, LaidFits.range_at}
use Rattle.adf_build.proofs.LaidWrites.{can_hold, four, writes_are, writes_once, zeros_long}

-- the free block that is b
free_is : (n k b : ℕ) → 4 ≤ n → 2 ≤ b → b ≤ nth_free n k → (b < middle n) ⊎ (middle n + reserved n < b) → (i : ℕ) × (i ≤ k) × (nth_free n i ≡ b)
free_is n k b four lo h (inl u) = elim (stretch n (b - 2)) [
  | low a e ↦ (b - 2, (let g : k < b - 2 → ⊥ = (λ l. let x = free_rises n k (b - 2) l in omega arith) in omega arith), omega arith)
  | high a e ↦ absurd (omega arith)
]
free_is n k b four lo h (inr u) = elim (stretch n (b - 3 - reserved n)) [
  | low a e ↦ absurd (omega arith)
  | high a e ↦ (
    b - 3 - reserved n,
    (let g : k < b - 3 - reserved n → ⊥ =
        (λ l. let x = free_rises n k (b - 3 - reserved n) l in omega arith) in omega arith),
    omega arith,
  )
]

-- every block from 2 up to a free one is owned
no_gap : (image : List ℕ) (t : Tree) (k b : ℕ) → 4 ≤ blocks image → k < entries_blocks t.kind t.entries → 2 ≤ b → b ≤ nth_free (blocks image) k
    → (o : Owner) × In (owned image (planned t (blocks image))) (o, b)
no_gap image t k b four lt lo h =
    let n : ℕ = blocks image in
    let m : ℕ = entries_blocks t.kind t.entries in
    in_block (owned image (planned t n)) b (subst (λ l. In l b) (sym (owned_blocks image t n refl))
    (put n m four (cases_lt b (middle n)) (cases_lt (middle n + reserved n) b) lt h))
  where
    there : (n m : ℕ) → 4 ≤ n → ((b < middle n) ⊎ (middle n + reserved n < b)) → k < m → b ≤ nth_free n k
        → In (middle n ∷ (range_with_len (middle n + 1) (reserved n) ++ allocated n 0 m)) b
    there n m four c lt h =
        let x = free_is n k b four lo h c in
        inr (in_right (range_with_len (middle n + 1) (reserved n)) (allocated n 0 m) b
        (subst (In (allocated n 0 m)) x.2 (allocated_in n 0 m x.0 (omega arith) (omega arith))))

    put : (n m : ℕ) → 4 ≤ n → (b < middle n) ⊎ (middle n ≤ b) → (middle n + reserved n < b) ⊎ (b ≤ middle n + reserved n) → k < m → b ≤ nth_free n k
        → In (middle n ∷ (range_with_len (middle n + 1) (reserved n) ++ allocated n 0 m)) b
    put n m four (inl u) c lt h = there n m four (inl u) lt h
    put n m four (inr u) (inl w) lt h = there n m four (inr w) lt h
    put n m four (inr u) (inr w) lt h = grind (arith, common_steps, four, cases_lt, in_left, range_in)

-- a part that is laid stands in its block
pub write_held : (image : List ℕ) (t : Tree) → IsLaid image t → (b : ℕ) (bytes : List ℕ) → In (writes t (blocks image)) (b, bytes)
    → block image b ≡ bytes
unfolding volume
write_held image t l b bytes h = grind (arith, common_steps, with_blocks_same, writes_are, can_hold, writes_once, zeros_long)

-- a block of zeros
zeros : (n b : ℕ) → b < n → block (replicate (n * 512) 0) b ≡ replicate 512 0
unfolding block
zeros n b lt =
    let z : b * 512 + 512 - b * 512 ≡ 512 = omega arith in
    rw (z, drop-replicate {X = ℕ} (b * 512) (n * 512) 0) (take-replicate {X = ℕ} 512 (n * 512 - b * 512) 0 (omega arith))

-- and a block in which no part stands holds zeros
pub rest_zero : (image : List ℕ) (t : Tree) → IsLaid image t → (b : ℕ) → b < blocks image → (In (numbers_of (writes t (blocks image))) b → ⊥)
    → block image b ≡ replicate 512 0
unfolding volume
rest_zero image t l b lt h = grind (arith, common_steps, zeros, with_blocks_other, writes_are, can_hold, zeros_long, number_in)

-- the blocks of entries are a run of free blocks
in_a_row : (n : ℕ) (kind : Kind) (k : ℕ) (es : List Entry) → blocks_in_order (places_from n kind k es) ≡ allocated n k (entries_blocks kind es)
in_a_row n kind k [] = refl
in_a_row n kind k (e ∷ es) =
    let c : ℕ = data_blocks kind e.body in
    let x : ℕ = exts_needed c in
    let r : ℕ = entries_blocks kind es in
    let behind : suc k + (x + c) ≡ k + (1 + x + c) = omega arith in
    let all : (1 + x + c) + r ≡ suc ((x + c) + r) = omega arith in
    let later = in_a_row n kind (k + (1 + x + c)) es in
    let parts = allocated-append n (suc k) x c in
    let whole = allocated-append n (suc k) (x + c) r in
    cc

-- the extension blocks of a planned entry
exts_planned : (n : ℕ) (kind : Kind) (k : ℕ) (es : List Entry) (i : ℕ) (e : Entry) → At es i e
    → length (exts_at (places_from n kind k es) i) ≡ exts_needed (data_blocks kind e.body)
exts_planned n kind k [] i e h = absurd h
exts_planned n kind k (x ∷ es) zero e h = grind (arith, common_steps, length_allocated)
exts_planned n kind k (x ∷ es) (suc i) e h = exts_planned n kind (k + (1 + exts_needed (data_blocks kind x.body) + data_blocks kind x.body)) es i e h

few_needed : (c m : ℕ) → c ≤ POINTERS * (1 + m) → exts_needed c ≤ m
unfolding exts_needed
few_needed c m h = omega arith

few : (t : Tree) (n i m : ℕ) (e : Entry) (bytes : List ℕ) → EntryAt t i e → e.body ≡ File bytes → count t.kind (length bytes) ≤ POINTERS * (1 + m)
    → length (exts_of (planned t n) i) ≤ m
few t n zero m e bytes h is enough = absurd h
few t n (suc i) m e bytes h is enough =
    subst (λ x. x ≤ m) (sym (exts_planned n t.kind 0 t.entries i e h ∙ ap (λ b. exts_needed (data_blocks t.kind b)) is)) (few_needed _ m enough)

planned_in_order : (image : List ℕ) (t : Tree) → IsLaid image t → IsInOrder image t (planned t (blocks image))
planned_in_order image t laid =
    let n : ℕ = blocks image in
    let row = in_a_row n t.kind 0 t.entries in
    record {
      pages = (λ k b h. (range_at (middle n + 1) (pages_needed n) k b h).1);
      map_exts = (λ j b h.
          let there = range_at (middle n + 1 + pages_needed n) (map_exts_needed (pages_needed n)) j b h in
          omega (arith, there.1, length-range_with_len (middle n + 1) (pages_needed n)));
      few = few t n;
      rise = (λ i j a b lt at_a at_b.
          let first = allocated_at n 0 (entries_blocks t.kind t.entries) i a (subst (λ bs. At bs i a) row at_a) in
          let second = allocated_at n 0 (entries_blocks t.kind t.entries) j b (subst (λ bs. At bs j b) row at_b) in
          omega (arith, first.1, second.1, free_rises n (0 + i) (0 + j) (omega arith)));
      no_gap = (λ b last is_in lo hi.
          let x = in_allocated n 0 (entries_blocks t.kind t.entries) last (subst (λ bs. In bs last) row is_in) in
          no_gap image t x.number b (four (can_hold laid)) (omega arith) lo (omega arith));
    }

-- a laid image lies in order
pub in_order : (image : List ℕ) (t : Tree) → IsLaid image t → (l : Layout) × FitsBy t.letters image t l × IsInOrder image t l
in_order image t laid = (planned t (blocks image), laid_fits image t laid, planned_in_order image t laid)
