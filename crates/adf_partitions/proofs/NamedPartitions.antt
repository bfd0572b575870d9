-- If the tables of a disk name a partition, there is one that can be read. Letters: as in specs/Disks; k is the room that is left.
use Rattle.std.proofs.Common.{◌≡◌, ◌≢◌, ◌≤◌, ◌<◌, ◌+◌, [], ◌⊎◌, ℕ, zero, suc, List, Option, Some, None, arith, inl, inr, length, refl, subst}
use Rattle.std.proofs.{lemmas.Bool.cases_eq, lemmas.List.length_push, lemmas.Grind.common_steps}
use Rattle.adf_partitions.specs.{declared.fault.DiskFault.DiskFault, declared.partition.Partition.Partition, declared.tables.Tables.Tables, Faults.first_failed}
use Rattle.adf_partitions.specs.{Searches.HasReadable, Searches.with_all_lost, Searches.AreReadable.cut, Searches.AreReadable.whole, Tables.IsTables}
use Rattle.adf_partitions.specs.declared.layout.TheConstants.{MOST_PARTITIONS, MOST_TABLES, NO_BLOCK}
use Rattle.adf_partitions.specs.Disks.{IsFollowed, IsFound, NamesPartition, part_form, partition_at, IsFound.start, IsFound.step}
use Rattle.adf_partitions.proofs.{NumberTests.lt_of, Searches.pushed, Searches.some_before, VolumesApart.each_held}

pub none_or_some : {A : Type 0} (o : Option A) → (o ≡ None) ⊎ ((x : A) × (o ≡ Some x))
none_or_some None = inl refl
none_or_some (Some x) = inr (x, refl)

module _ (bytes : List ℕ) (n : ℕ) (t : Tables) where
  -- where a block passes its tests, the first one did
  pub names_one : {ps : List Partition} {a b : ℕ} → IsFound bytes n t ps a b → b ≢ NO_BLOCK → first_failed (part_form bytes ps a b) ≡ None
      → NamesPartition bytes t
  names_one start some sound = (some, sound)
  names_one (step h some sound) later passes = names_one h some sound

  pub is_few : (ps : List Partition) (a b : ℕ) → first_failed (part_form bytes ps a b) ≡ None → length ps < MOST_PARTITIONS
  is_few ps a b sound = grind (arith, common_steps, each_held, lt_of)

  -- a list has no more partitions than a disk may have
  pub no_more : {ps : List Partition} {a b : ℕ} → IsFound bytes n t ps a b → length ps ≤ MOST_PARTITIONS
  no_more start = omega arith
  no_more (step {ps = ps} {a = a} {b = b} h some sound) = grind (arith, common_steps, is_few, length_push)

  -- the list up to its end or its first fault, with a partition
  abbrev HasList : Type 0
  HasList = (ps : List Partition) × (o : Option DiskFault) × IsFollowed bytes n t ps o × (ps ≢ [])

  -- a list can be followed
  goes_on : (k : ℕ) {ps : List Partition} {a b : ℕ} → IsFound bytes n t ps a b → ps ≢ [] → MOST_PARTITIONS < length ps + k → HasList
  goes_on zero {ps} {a} {b} h some room = absurd (omega (arith, no_more h))
  goes_on (suc k) {ps} {a} {b} h some room = elim (cases_eq b NO_BLOCK) [
    | inl last ↦ (ps, None, (a, subst (IsFound bytes n t ps a) last h), some)
    | inr next ↦ elim (none_or_some (first_failed (part_form bytes ps a b))) [
      | inl sound ↦
          let p = partition_at bytes n t ps b in
          goes_on k (step h next sound) (pushed ps p) (omega (arith, length_push ps p))
      | inr fails ↦ (ps, Some fails.0, record { last = a; next = b; found = h; some = next; failed = fails.1 }, some)
    ]
  ]

  has_list : NamesPartition bytes t → HasList
  has_list (some, sound) =
      let p = partition_at bytes n t [] t.first in
      goes_on (MOST_PARTITIONS + 1) (step start some sound) (pushed [] p) (omega (arith, length_push [] p))

  -- the partitions of a list can be read
  is_read : IsTables bytes t → (ps : List Partition) (o : Option DiskFault) → IsFollowed bytes n t ps o → ps ≢ [] → HasReadable bytes n
  is_read tables ps None h some = (ps, whole (record { tables = tables; whole = h }), some)
  is_read tables ps (Some f) h some =
      (with_all_lost bytes n t ps MOST_TABLES, cut tables h, some_before bytes n t ps MOST_TABLES some)

  pub has_readable : IsTables bytes t → NamesPartition bytes t → HasReadable bytes n
  has_readable tables named = let (ps, o, h, some) = has_list named in is_read tables ps o h some
