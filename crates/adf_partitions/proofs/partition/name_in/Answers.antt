use Rattle.std.proofs.Common.{◌≡◌, ◌+◌, ◌-◌, ℕ, List, drop, inl, inr, refl, slice_index, take, arith, min, slice_range}
use Rattle.std.proofs.{lemmas.Bool.cases_lt, lemmas.List.length-take, lemmas.List.take-take, lemmas.List.take_all}
use Rattle.adf_partitions.specs.{declared.layout.TheConstants.DRIVE_NAME, Partitions.name_at}
use Rattle.adf_partitions.proofs.partition.name_in.Goals as goal

first_bytes : (xs : List ℕ) (n : ℕ) → take (min n 31) xs ≡ take 31 (take n xs)
first_bytes xs n = elim (cases_lt 31 n) [
  | inl past ↦ let e : min n 31 ≡ 31 = omega arith in rw (e, take-take 31 n xs (omega arith)) refl
  | inr fits ↦ let e : min n 31 ≡ n = omega arith in rw (e, take_all 31 (take n xs) (omega (arith, length-take n xs))) refl
]

-- the name, cut behind 31 bytes
cut_name : (p : List ℕ) → slice_range p 37 (37 + min (slice_index p DRIVE_NAME) 31) ≡ name_at p
cut_name p =
    let n = slice_index p DRIVE_NAME in
    let e : (37 + min n 31) - 37 ≡ min n 31 = omega arith in
    let f : (37 + n) - 37 ≡ n = omega arith in
    rw (e, f) (first_bytes (drop 37 p) n)

pub returns : goal.returns
returns c = grind (arith, cut_name c.args.p.now)
