-- The volumes of a disk lie apart.
-- Letters: as in specs/Disks; p a partition block, q and r places, o the first test of a partition that fails.
use Rattle.std.proofs.Common.{◌≡◌, ◌⊎◌, inl, inr, rules, ◌<◌, ◌+◌, ◌-◌, ◌*◌, ℕ, List, [], ◌∷◌, length, get_or, refl, sym, ap, ◌∙◌, arith, Bool, true, false}
use Rattle.std.proofs.Common.{None, Some, Ok, Err, Option, Result, not, nat_le, ◌==◌, IfOk}
use Rattle.std.specs.List.{All, AllPairs}
use Rattle.std.proofs.lemmas.Bool.{false_from_ne_true, and_parts, not-true, or_parts, Decides.nat_tests}
use Rattle.std.proofs.{lemmas.List.Elements.All-push, lemmas.List.Folds.list_any_at, lemmas.Nat.mul-le, lemmas.Grind.common_steps}
use Rattle.std.proofs.lemmas.List.Quantifiers.{all_pairs_push}
use Rattle.adf_base.specs.Words.{block}
use Rattle.adf_partitions.specs.{declared.partition.Partition.Partition, declared.place.Place.Place, declared.place.PlaceFault.PlaceFault}
use Rattle.adf_partitions.specs.{declared.tables.Tables.Tables, Disks.IsDisk, Disks.IsFound, Disks.partition_at, Disks.IsFound.start, Disks.IsFound.step}
use Rattle.adf_partitions.specs.{Faults.first_failed, Volumes.ShareNoBlock, Volumes.LiesWell, Volumes.VolumeLiesWell, Volumes.VolumesAreApart}
use Rattle.adf_partitions.specs.declared.place.PlaceFault.TheVariants.{BeyondImage, NoCylinders, OverPartition, OverTables}
use Rattle.adf_partitions.specs.Partitions.{is_over, is_over_earlier, is_over_place, place_form, place_or_fault}
use Rattle.adf_partitions.specs.Places.{do_overlap, end_of, has_cylinders, is_over_tables, partition_place}
use Rattle.adf_partitions.proofs.NumberTests.{le_of, of_lt}

-- the first test holds, and the others do
first_held : {C : Type 0} (a : Bool) (x : C) (rest : List (Bool × C)) → first_failed ((a, x) ∷ rest) ≡ None → (a ≡ true) × (first_failed rest ≡ None)
first_held true x rest h = (refl, h)
first_held false x rest h = absurd cc

-- a test is one of a list
abbrev pub In : {C : Type 0} → List (Bool × C) → (Bool × C) → Type 0
In [] y = ⊥
In (x ∷ xs) y = (x ≡ y) ⊎ In xs y

pub each_held : {C : Type 0} (xs : List (Bool × C)) → first_failed xs ≡ None → (y : Bool × C) → In xs y → y.0 ≡ true
each_held [] h y i = absurd i
each_held (x ∷ xs) h y (inl e) = ap (λ z. z.0) (sym e) ∙ (first_held x.0 x.1 xs h).0
each_held (x ∷ xs) h y (inr i) = each_held xs (first_held x.0 x.1 xs h).1 y i

-- what the tests of a partition tell
pub record Passed (n : ℕ) (t : Tables) (ps : List Partition) (p : List ℕ) : Type 0 where
  pub cylinders : has_cylinders p ≡ true
  pub within : nat_le (end_of (partition_place p)) n ≡ true
  pub tables : is_over_tables (partition_place p) t ≡ false
  pub earlier : is_over_earlier (partition_place p) ps ≡ false

pub passed : (n : ℕ) (t : Tables) (ps : List Partition) (p : List ℕ) → first_failed (place_form n t ps p) ≡ None → Passed n t ps p
passed n t ps p h =
    let held = each_held (place_form n t ps p) h in
    record {
      cylinders = held (has_cylinders p, NoCylinders) (search rules);
      within = held (nat_le (end_of (partition_place p)) n, BeyondImage) (search rules);
      tables = not-true (is_over_tables (partition_place p) t) (held (not (is_over_tables (partition_place p) t), OverTables) (search rules));
      earlier = not-true (is_over_earlier (partition_place p) ps) (held (not (is_over_earlier (partition_place p) ps), OverPartition) (search rules));
    }

-- two places that do not overlap have no block in common
no_common : (q r : Place) → do_overlap q r ≡ false → ShareNoBlock r q
no_common q r h = grind (arith, common_steps, of_lt)

has_blocks : (low high c : ℕ) → nat_le low high ≡ true → not (c == 0) ≡ true → 0 < (high + 1 - low) * c
has_blocks low high c h k = grind (arith, common_steps, nat_tests, mul-le)

pub lies_well : (n : ℕ) (t : Tables) (ps : List Partition) (p : List ℕ) → Passed n t ps p → LiesWell n t (partition_place p)
lies_well n t ps p h = grind (arith, common_steps, and_parts, or_parts, has_blocks, le_of, no_common)

-- what holds of a place that has no fault
pub if_placed : (q : Place) (o : Option PlaceFault) (P : Place → Type 0) → (o ≡ None → P q) → IfOk (place_or_fault q o) P
if_placed q None P h = h refl
if_placed q (Some f) P h = tt

pub apart_from : (q : Place) (r : Result Place PlaceFault) (o : Option PlaceFault) → (o ≡ None → is_over_place q r ≡ false)
    → IfOk r (λ r. IfOk (place_or_fault q o) (ShareNoBlock r))
apart_from q (Ok r) o h = if_placed q o (ShareNoBlock r) (λ e. no_common q r (h e))
apart_from q (Err f) o h = tt

pub not_over : (q : Place) (ps : List Partition) → is_over_earlier q ps ≡ false → (k : ℕ) (d : Partition) → k < length ps
    → is_over q (get_or ps k d) ≡ false
not_over q ps h k d lt = false_from_ne_true (is_over q (get_or ps k d)) (λ over. let z = list_any_at (is_over q) ps k d lt over in absurd cc)

module _ {bytes : List ℕ} {n : ℕ} {t : Tables} where
  each_lies_well : {ps : List Partition} {a b : ℕ} → IsFound bytes n t ps a b → All (VolumeLiesWell n t) ps
  each_lies_well start = λ k d lt. absurd (omega arith)
  each_lies_well (step {ps = ps} {b = b} h some sound) =
      let p = block bytes b in
      All-push (VolumeLiesWell n t) ps (partition_at bytes n t ps b) (each_lies_well h)
      (if_placed (partition_place p) (first_failed (place_form n t ps p)) (LiesWell n t) (λ e. lies_well n t ps p (passed n t ps p e)))

  all_lie_apart : {ps : List Partition} {a b : ℕ} → IsFound bytes n t ps a b → AllPairs VolumesAreApart ps
  all_lie_apart start = λ i j d lt in_list. absurd (omega arith)
  all_lie_apart (step {ps = ps} {b = b} h some sound) =
      let p = block bytes b in
      all_pairs_push VolumesAreApart ps (partition_at bytes n t ps b) (all_lie_apart h)
      (λ k d lt. apart_from (partition_place p) (get_or ps k d).place (first_failed (place_form n t ps p))
      (λ e. not_over (partition_place p) ps (passed n t ps p e).earlier k d lt))

pub volumes_lie_well : (bytes : List ℕ) (n : ℕ) (t : Tables) (ps : List Partition) → IsDisk bytes n t ps → All (VolumeLiesWell n t) ps
volumes_lie_well bytes n t ps d = each_lies_well d.whole.1

pub volumes_lie_apart : (bytes : List ℕ) (n : ℕ) (t : Tables) (ps : List Partition) → IsDisk bytes n t ps → AllPairs VolumesAreApart ps
volumes_lie_apart bytes n t ps d = all_lie_apart d.whole.1
