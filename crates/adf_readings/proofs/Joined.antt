-- Blocks that are joined. Letters: xs the blocks before, n of them; v one more; ms the readings with their maps.
use Rattle.std.proofs.Common.{◌≡◌, ◌<◌, ◌≤◌, ◌+◌, ◌*◌, ◌-◌, ◌∙◌, ℕ, List, ◌++◌, ap, false, sym, subst, arith, drop, length, take, inl, inr}
use Rattle.std.proofs.{Math.Seq.drop-append_seam, lemmas.Bool.cases_lt, lemmas.List.drop-append-le, lemmas.List.length-append, lemmas.List.length-drop}
use Rattle.std.proofs.lemmas.List.{take-append-le, take_all}
use Rattle.adf_base.specs.Words.{block}
use Rattle.adf_readings.specs.{Mapped.MappedValue, Mapped.is_lacked, Merge.AreFound, Merge.HasVersion, Merge.IsMergeOf}

-- the blocks before stay
block_before : (xs v : List ℕ) (n k : ℕ) → length xs ≡ n * 512 → k < n → block (xs ++ v) k ≡ block xs k
unfolding block
block_before xs v n k long lt =
    ap (take (k * 512 + 512 - k * 512)) (drop-append-le (k * 512) xs v (omega arith))
    ∙ take-append-le (k * 512 + 512 - k * 512) (drop (k * 512) xs) v (omega (arith, length-drop (k * 512) xs))

-- and the new one follows
block_last : (xs v : List ℕ) (n : ℕ) → length xs ≡ n * 512 → length v ≡ 512 → block (xs ++ v) n ≡ v
unfolding block
block_last xs v n long one =
    ap (take (n * 512 + 512 - n * 512)) (ap (λ k. drop k (xs ++ v)) (sym long) ∙ drop-append_seam xs v)
    ∙ take_all (n * 512 + 512 - n * 512) v (omega arith)

pub merged_more : (n : ℕ) (ms : List MappedValue) (xs v : List ℕ) → IsMergeOf n ms xs → length v ≡ 512 → HasVersion ms n v
    → IsMergeOf (n + 1) ms (xs ++ v)
merged_more n ms xs v before one last = record {
  long = length-append xs v ∙ omega (arith, before.long);
  versions = λ k lt. elim (cases_lt k n) [
    | inl less ↦ subst (HasVersion ms k) (sym (block_before xs v n k before.long less)) (before.versions k less)
    | inr past ↦
        let same : n ≡ k = omega arith in
        subst (λ j. HasVersion ms j (block (xs ++ v) j)) same (subst (HasVersion ms n) (sym (block_last xs v n before.long one)) last)
  ];
}

pub found_more : (n : ℕ) (ms : List MappedValue) → AreFound n ms → is_lacked ms n ≡ false → AreFound (n + 1) ms
found_more n ms before last = λ k lt. elim (cases_lt k n) [
  | inl less ↦ before k less
  | inr past ↦ let same : n ≡ k = omega arith in subst (λ j. is_lacked ms j ≡ false) same last
]
