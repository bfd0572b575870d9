-- Parts written one for each number: part j is f j, a block's number and its bytes.
use Rattle.std.proofs.Common.{◌≡◌, ℕ, zero, suc, List, inl, inr, ◌+◌, ◌-◌, ◌<◌, ◌≤◌, length, map, refl, arith}
use Rattle.std.proofs.{lemmas.Bool.cases_lt, lemmas.Grind.common_steps}
use Rattle.std.specs.List.{range_with_len}
use Rattle.adf_base.specs.Words.{block, with_block}
use Rattle.adf_build.specs.{Plan.allocated, Plan.nth_free, Writes.AreBlocks, Writes.HoldsBlocks, Writes.numbers_of, Writes.with_blocks}

-- one part more of m
pub part_step : (image old all bytes : List ℕ) (f : ℕ → ℕ × List ℕ) (j b m : ℕ) → j < m → b ≡ (f j).0 → bytes ≡ (f j).1
    → with_blocks old (map f (range_with_len j (m - j))) ≡ all → image ≡ with_block old b bytes
    → with_blocks image (map f (range_with_len (j + 1) (m - (j + 1)))) ≡ all
part_step image old all bytes f j b m lt at is inv w =
    let split : m - j ≡ suc (m - (j + 1)) = omega arith in
    let here = rw split at inv in
    cc

-- each is a whole block of the volume
pub are_parts : (n : ℕ) (f : ℕ → ℕ × List ℕ) (j m : ℕ) → ((i : ℕ) → i < j + m → ((f i).0 < n) × (length (f i).1 ≡ 512))
    → AreBlocks n (map f (range_with_len j m))
are_parts n f j zero h = tt
are_parts n f j (suc m) h =
    let here = h j (omega arith) in
    (here.0, here.1, are_parts n f (j + 1) m (λ i l. h i (omega arith)))

-- an image that holds them holds each
pub part_held : (v : List ℕ) (f : ℕ → ℕ × List ℕ) (j m i : ℕ) → HoldsBlocks v (map f (range_with_len j m)) → j ≤ i → i < j + m
    → block v (f i).0 ≡ (f i).1
part_held v f j zero i h a b = absurd (omega arith)
part_held v f j (suc m) i h a b = elim (cases_lt j i) [
  | inl l ↦ part_held v f (j + 1) m i h.1 (omega arith) (omega arith)
  | inr l ↦ let z : i ≡ j = omega arith in rw z h.0
]

-- their blocks, where they ascend by one, and where they are free blocks in order
pub range_numbers : (f : ℕ → ℕ × List ℕ) (b j m : ℕ) → ((i : ℕ) → (f i).0 ≡ b + i)
    → numbers_of (map f (range_with_len j m)) ≡ range_with_len (b + j) m
range_numbers f b j zero h = refl
range_numbers f b j (suc m) h = grind (arith, common_steps, range_numbers f b (j + 1) m h)

pub free_numbers : (f : ℕ → ℕ × List ℕ) (n k j m : ℕ) → ((i : ℕ) → (f i).0 ≡ nth_free n (k + i))
    → numbers_of (map f (range_with_len j m)) ≡ allocated n (k + j) m
free_numbers f n k j zero h = refl
free_numbers f n k j (suc m) h = grind (arith, common_steps, free_numbers f n k (j + 1) m h)
