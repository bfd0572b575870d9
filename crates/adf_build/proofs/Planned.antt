-- The blocks of a planned layout: the root, the reserved blocks and a run of free blocks.
use Rattle.std.proofs.Common.{◌≡◌, ℕ, suc, List, [], ◌∷◌, ◌++◌, inl, inr, ◌+◌, ◌-◌, ◌<◌, ◌≤◌, length, refl, sym, ap, subst, ◌∙◌, arith, append_assoc}
use Rattle.std.proofs.{Common.length-append, lemmas.List.FromFn.length-range_with_len}
use Rattle.std.specs.List.{range_with_len}
use Rattle.adf_volume.specs.{Lists.In, Lists.NoBlockTwice, Image.map_exts_needed, Layout.owned_from, Layout.owned, declared.owner.Owner.Owner}
use Rattle.adf_names.specs.declared.kind.Kind.{Kind}
use Rattle.adf_tree.specs.{declared.entry.Entry.Entry, Tree.Tree}
use Rattle.adf_blocks.specs.Sizes.{blocks, middle, pages_needed}
use Rattle.adf_volume.proofs.DistinctBlocks.{blocks_of, blocks_of-append, blocks_of-numbered, block_in, Distinct, distinct_blocks, distinct-append}
use Rattle.adf_volume.proofs.Lists.{in_cases}
use Rattle.adf_build.specs.Plan.{reserved, allocated, exts_needed, data_blocks, entries_blocks, blocks_needed, places_from, planned}
use Rattle.adf_build.proofs.AllocatedBlocks.{length_allocated, free_from, free_below, free_apart, reserved_below, in_allocated, allocated-append}
use Rattle.adf_build.proofs.AllocatedBlocks.{distinct_allocated, in_range, distinct_range, range_with_len-append}

-- the blocks of entries are a run of free blocks
blocks_of_places : (n : ℕ) (kind : Kind) (i k : ℕ) (es : List Entry) → blocks_of (owned_from i (places_from n kind k es)) ≡ allocated n k
    (entries_blocks kind es)
blocks_of_places n kind i k [] = refl
blocks_of_places n kind i k (e ∷ es) =
    let c : ℕ = data_blocks kind e.body in
    let x : ℕ = exts_needed c in
    let r : ℕ = entries_blocks kind es in
    let behind : suc k + x + c ≡ k + (1 + x + c) = omega arith in
    let at : suc k + x + c ≡ suc k + (x + c) = omega arith in
    let all : (1 + x + c) + r ≡ suc ((x + c) + r) = omega arith in
    let later = blocks_of_places n kind (suc i) (k + (1 + x + c)) es in
    let parts = allocated-append n (suc k) x c in
    let whole = allocated-append n (suc k) (x + c) r in
    simp (blocks_of-append, blocks_of-numbered) (cc)

pub owned_blocks : (image : List ℕ) (t : Tree) (n : ℕ) → blocks image ≡ n
    → blocks_of (owned image (planned t n))
    ≡ middle n ∷ (range_with_len (middle n + 1) (reserved n) ++ allocated n 0 (entries_blocks t.kind t.entries))
unfolding reserved
owned_blocks image t n e =
    let places = blocks_of_places n t.kind 1 0 t.entries in
    let both = range_with_len-append (middle n + 1) (pages_needed n) (map_exts_needed (pages_needed n)) in
    let joined = append_assoc (range_with_len (middle n + 1) (pages_needed n)) (range_with_len (middle n + 1 + pages_needed n)
    (map_exts_needed (pages_needed n))) (allocated n 0 (entries_blocks t.kind t.entries)) in
    simp (blocks_of-append, blocks_of-numbered) (cc)

-- no block twice
pub planned_once : (image : List ℕ) (t : Tree) (n : ℕ) → blocks image ≡ n → NoBlockTwice (owned image (planned t n))
planned_once image t n size =
    let total : ℕ = entries_blocks t.kind t.entries in
    let P : List ℕ → Type 0 = Distinct in
    distinct_blocks (owned image (planned t n)) (subst P (sym (owned_blocks image t n size)) (
      (λ h. elim (in_cases (range_with_len (middle n + 1) (reserved n)) (allocated n 0 total) (middle n) h) [
        | inl i ↦ let r = in_range (middle n + 1) (reserved n) (middle n) i in omega arith
        | inr i ↦ let r = in_allocated n 0 total (middle n) i in free_apart n r.number (omega arith) (omega arith)
      ]),
      distinct-append (range_with_len (middle n + 1) (reserved n)) (allocated n 0 total) (distinct_range (middle n + 1) (reserved n))
          (distinct_allocated n 0 total)
          (λ b i j.
          let r = in_range (middle n + 1) (reserved n) b i in
          let s = in_allocated n 0 total b j in
          free_apart n s.number (omega arith) (omega arith)),
    ))

-- each block lies in the volume
pub planned_range : (image : List ℕ) (t : Tree) (n : ℕ) (o : Owner) (b : ℕ) → blocks image ≡ n → 4 ≤ n → blocks_needed t n ≤ n - 2
    → In (owned image (planned t n)) (o, b) → (2 ≤ b) × (b < n)
planned_range image t n o b size h fits i =
    let total : ℕ = entries_blocks t.kind t.entries in
    let end : middle n + reserved n < n = reserved_below n h in
    let j : In (middle n ∷ (range_with_len (middle n + 1) (reserved n) ++ allocated n 0 total)) b =
    subst (λ l. In l b) (owned_blocks image t n size) (block_in (owned image (planned t n)) o b i) in
    elim j [
      | inl e ↦ (omega arith, omega arith)
      | inr k ↦ elim (in_cases (range_with_len (middle n + 1) (reserved n)) (allocated n 0 total) b k) [
        | inl r ↦ let s = in_range (middle n + 1) (reserved n) b r in (omega arith, omega arith)
        | inr r ↦
            let s = in_allocated n 0 total b r in
            let f = free_from n s.number in
            let g = free_below n s.number h (omega arith) in
            (omega arith, omega arith)
      ]
    ]

-- as many blocks as are needed
pub planned_count : (image : List ℕ) (t : Tree) (n : ℕ) → blocks image ≡ n → length (owned image (planned t n)) ≡ blocks_needed t n
planned_count image t n size =
    length_blocks (owned image (planned t n)) ∙ ap length (owned_blocks image t n size)
    ∙ simp (length-append, length-range_with_len, length_allocated) (omega arith)
  where
    length_blocks : (xs : List (Owner × ℕ)) → length xs ≡ length (blocks_of xs)
    length_blocks [] = refl
    length_blocks (x ∷ xs) = ap suc (length_blocks xs)
