-- The partitions that can be read are separate.
-- Letters: as in specs/Searches; p a partition block, q a place, o the first test of a place that fails; k a number of blocks.
use Rattle.std.proofs.Common.{◌≡◌, ◌≢◌, ◌<◌, ◌++◌, ◌∷◌, [], ℕ, zero, suc, List, Bool, true, false, None, arith, get_or, length, refl}
use Rattle.std.specs.Prelude.{if◌then◌else◌}
use Rattle.std.specs.List.{list_any}
use Rattle.std.proofs.{lemmas.Bool.and_parts, lemmas.Bool.not-true, lemmas.Bool.Decides.nat_tests, lemmas.Grind.common_steps}
use Rattle.std.proofs.lemmas.List.{length_push, Elements.All-nil, Elements.All-push, Folds.list_any_at, Quantifiers.all_pairs_push}
use Rattle.adf_base.specs.Words.{block}
use Rattle.adf_partitions.specs.{declared.layout.TheConstants.MOST_PARTITIONS, declared.layout.TheConstants.MOST_TABLES, declared.partition.Partition.Partition}
use Rattle.adf_partitions.specs.{declared.tables.Tables.Tables, Faults.first_failed, Partitions.place_form, Places.partition_place}
use Rattle.adf_partitions.specs.Disks.{IsFound, is_block_of, part_form, partition_at, IsFound.start, IsFound.step}
use Rattle.adf_partitions.specs.Searches.{AreReadable, is_lost_partition, no_tables, with_all_lost}
use Rattle.adf_partitions.specs.Searches.AreReadable.{bare, cut, other, whole}
use Rattle.adf_partitions.specs.Volumes.{AreInOtherBlocks, AreSeparate, LiesWithin, VolumeLiesWithin, VolumesAreApart}
use Rattle.adf_partitions.proofs.{NamedPartitions.is_few, NumberTests.lt_of}
use Rattle.adf_partitions.proofs.VolumesApart.{apart_from, each_held, if_placed, lies_well, not_over, passed}

none_separate : (n : ℕ) → AreSeparate n []
none_separate n = record {
  few = omega arith;
  blocks = λ i j d lt in_list. absurd (omega arith);
  within = All-nil (VolumeLiesWithin n);
  apart = λ i j d lt in_list. absurd (omega arith);
}

other_block : (ps : List Partition) (b : ℕ) → list_any (is_block_of b) ps ≡ false → (k : ℕ) (d : Partition) → k < length ps → (get_or ps k d).block ≢ b
other_block ps b none k d lt e = let z = list_any_at (is_block_of b) ps k d lt (same (get_or ps k d) e) in absurd cc
  where
    same : (p : Partition) → p.block ≡ b → is_block_of b p ≡ true
    same p e = grind (arith, nat_tests)

not_found : (bytes : List ℕ) (ps : List Partition) (a b : ℕ) → first_failed (part_form bytes ps a b) ≡ None → list_any (is_block_of b) ps ≡ false
not_found bytes ps a b sound = grind (arith, common_steps, each_held, not-true)

module _ (bytes : List ℕ) (n : ℕ) (t : Tables) where
  -- one partition more
  one_separate : (ps : List Partition) (b : ℕ) → AreSeparate n ps → list_any (is_block_of b) ps ≡ false → length ps < MOST_PARTITIONS
      → AreSeparate n (ps ++ partition_at bytes n t ps b ∷ [])
  one_separate ps b h none room =
      let p = block bytes b in record {
        few = omega (arith, room, length_push ps (partition_at bytes n t ps b));
        blocks = all_pairs_push AreInOtherBlocks ps (partition_at bytes n t ps b) h.blocks (other_block ps b none);
        within =
            All-push (VolumeLiesWithin n) ps (partition_at bytes n t ps b) h.within
            (if_placed (partition_place p) (first_failed (place_form n t ps p)) (LiesWithin n)
            (λ e. let w = lies_well n t ps p (passed n t ps p e) in record { some = w.some; within = w.within }));
        apart =
            all_pairs_push VolumesAreApart ps (partition_at bytes n t ps b) h.apart
            (λ k d lt. apart_from (partition_place p) (get_or ps k d).place (first_failed (place_form n t ps p))
            (λ e. not_over (partition_place p) ps (passed n t ps p e).earlier k d lt));
      }

  found_separate : {ps : List Partition} {a b : ℕ} → IsFound bytes n t ps a b → AreSeparate n ps
  found_separate start = none_separate n
  found_separate (step {ps = ps} {a = a} {b = b} h some sound) =
      one_separate ps b (found_separate h) (not_found bytes ps a b sound) (is_few bytes n t ps a b sound)

  lost_separate : (ps : List Partition) (b : ℕ) (lost : Bool) → is_lost_partition bytes t ps b ≡ lost → AreSeparate n ps
      → AreSeparate n (if lost then ps ++ partition_at bytes n t ps b ∷ [] else ps)
  lost_separate ps b true e h = one_separate ps b h (grind (arith, common_steps, and_parts, not-true)) (grind (arith, common_steps, and_parts, lt_of))
  lost_separate ps b false e h = h

  all_separate : (ps : List Partition) (k : ℕ) → AreSeparate n ps → AreSeparate n (with_all_lost bytes n t ps k)
  unfolding with_all_lost
  all_separate ps zero h = h
  all_separate ps (suc k) h =
      let found = with_all_lost bytes n t ps k in lost_separate found k (is_lost_partition bytes t found k) refl (all_separate ps k h)

pub are_separate : (bytes : List ℕ) (n : ℕ) (ps : List Partition) → AreReadable bytes n ps → AreSeparate n ps
are_separate bytes n ps (whole {t = t} d) = found_separate bytes n t d.whole.1
are_separate bytes n ps (cut {t = t} {ps = qs} h v) = all_separate bytes n t qs MOST_TABLES (found_separate bytes n t v.found)
are_separate bytes n ps (bare h) = all_separate bytes n no_tables [] MOST_TABLES (none_separate n)
are_separate bytes n ps (other r s) = none_separate n
