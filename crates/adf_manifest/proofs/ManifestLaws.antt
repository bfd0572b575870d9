-- Laws of a manifest's lines and of their faults.
use Rattle.std.proofs.Common.{◌≡◌, ◌≤◌, ◌+◌, ◌==◌, ◌++◌, ◌∙◌, ℕ, List, [], ◌∷◌, refl, ap, arith, append_assoc, length, length-append}
use Rattle.std.proofs.{lemmas.List.Sums.count_by-le-length, lemmas.Grind.common_steps}
use Rattle.std.proofs.lemmas.List.Splits.{length-slice_split, slice_split_at, slice_split_none}
use Rattle.adf_manifest.specs.{Tokens.LacksByte, Manifest.between_feeds}

pub parts_cut : (text line rest : List ℕ) → text ≡ line ++ 10 ∷ rest → LacksByte 10 line → between_feeds text ≡ line ∷ between_feeds rest
parts_cut text line rest e h = ap between_feeds e ∙ slice_split_at (λ c. c == 10) line 10 rest h refl

pub parts_whole : (text : List ℕ) → LacksByte 10 text → between_feeds text ≡ text ∷ []
parts_whole text h = slice_split_none (λ c. c == 10) text h

-- there are no more lines than bytes and one
pub parts_few : (text : List ℕ) → length (between_feeds text) ≤ length text + 1
parts_few text = omega (arith, length-slice_split (λ c. c == 10) text, count_by-le-length (λ c. c == 10) text)

-- the lines read so far, and one more of those that are left
pub one_more_line : {all : List (List ℕ)} (before now left behind : List (List ℕ)) (line : List ℕ) (number : ℕ) → all ≡ before ++ left
    → number ≡ length before → left ≡ line ∷ behind → now ≡ before ++ line ∷ [] → (all ≡ now ++ behind) × (number + 1 ≡ length now)
one_more_line before now left behind line number e n l m = grind (arith, common_steps, append_assoc, length-append)
