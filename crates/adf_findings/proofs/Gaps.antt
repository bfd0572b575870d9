-- Gaps, one behind another.
use Rattle.std.proofs.Common.{◌≡◌, ◌≤◌, ◌<◌, ◌+◌, ◌*◌, ◌^◌, ℕ, List, [], ◌∷◌, ◌++◌, refl, ap, arith}
use Rattle.std.proofs.{lemmas.Bool.Decides.nat_tests, lemmas.Grind.common_steps}
use Rattle.adf_names.specs.declared.kind.Kind.{Kind, TheVariants.Ofs, TheVariants.Ffs}
use Rattle.adf_blocks.specs.Sizes.{chunk, count}
use Rattle.adf_volume.specs.Image.{held}
use Rattle.adf_findings.specs.{declared.remains.Gap.Gap, Remains.joined_gaps, Remains.with_gap}

-- only the last gap may go on
pub with_gap_last : (xs : List Gap) (x g : Gap) → with_gap (xs ++ x ∷ []) g ≡ xs ++ joined_gaps x g
with_gap_last [] x g = refl
with_gap_last (y ∷ []) x g = refl
with_gap_last (y ∷ z ∷ xs) x g = ap (λ ys. y ∷ ys) (with_gap_last (z ∷ xs) x g)

-- a file has few data blocks
pub blocks_few : (kind : Kind) (size : ℕ) → size < 2 ^ 32 → count kind size ≤ 2 ^ 24
unfolding count chunk
blocks_few Ofs size small = omega (arith, small)
blocks_few Ffs size small = omega (arith, small)

-- the bytes of a data block are within those of its file
pub block_within : (kind : Kind) (size k : ℕ) → k < count kind size → chunk kind * k + held kind size (k + 1) ≤ size
unfolding count chunk held
block_within Ofs size k inside = grind (arith, common_steps, nat_tests)
block_within Ffs size k inside = grind (arith, common_steps, nat_tests)
