-- Every disk has a list of partitions or a first fault.
-- Letters: as in specs/Disks; k is the room that is left, or a number of blocks.
use Rattle.std.proofs.Common.{◌≡◌, ◌<◌, ◌≤◌, ◌+◌, ◌⊎◌, ℕ, zero, suc, List, Option, Bool, true, false, None, Some, arith, inl, inr, length, refl, subst, sym}
use Rattle.std.proofs.{lemmas.Bool.cases_eq, lemmas.List.length_push}
use Rattle.adf_base.specs.Words.{block, word}
use Rattle.adf_partitions.specs.declared.fault.DiskCause.TheVariants.{BlockSize, NoRigidDisk}
use Rattle.adf_partitions.specs.{declared.fault.DiskFault.DiskFault, declared.partition.Partition.Partition, declared.tables.Tables.Tables, Disks.IsFound.start}
use Rattle.adf_partitions.specs.{Disks.IsFound.step, Faults.disk_fault, Faults.first_failed}
use Rattle.adf_partitions.specs.declared.layout.TheConstants.{BLOCK_BYTES, MOST_PARTITIONS, NO_BLOCK, RDSK_BLOCKS}
use Rattle.adf_partitions.specs.Disks.{HasListOrFault, IsFollowed, IsFound, part_form, partition_at, FirstDiskFault.at_list, FirstDiskFault.at_tables}
use Rattle.adf_partitions.specs.Tables.{HasNoRdsk, IsRdsk, IsTables, is_rdsk, tables_at}
use Rattle.adf_partitions.proofs.NamedPartitions.{no_more, none_or_some}

module _ (bytes : List ℕ) where
  -- no block below k is a rigid disk block
  abbrev NoneBelow : ℕ → Type 0
  NoneBelow k = (i : ℕ) → i < k → is_rdsk bytes i ≡ false

  one_more : (k : ℕ) → NoneBelow k → is_rdsk bytes k ≡ false → NoneBelow (suc k)
  one_more k h e i lt = elim (cases_eq i k) [ inl same ↦ subst (λ j. is_rdsk bytes j ≡ false) (sym same) e | inr less ↦ h i (omega (arith, less)) ]

  rdsk_below : (k : ℕ) → k ≤ RDSK_BLOCKS → ((b : ℕ) × IsRdsk bytes b) ⊎ NoneBelow k
  rdsk_below zero le = inr (λ i lt. absurd (omega arith))
  rdsk_below (suc k) le = elim (rdsk_below k (omega arith)) [ inl found ↦ inl found | inr none ↦ by_test (is_rdsk bytes k) refl none ]
    where
      by_test : (is : Bool) → is_rdsk bytes k ≡ is → NoneBelow k → ((b : ℕ) × IsRdsk bytes b) ⊎ NoneBelow (suc k)
      by_test true e none = inl (k, record { low = omega arith; is = e; first = none })
      by_test false e none = inr (one_more k none e)

  some_rdsk : ((b : ℕ) × IsRdsk bytes b) ⊎ HasNoRdsk bytes
  some_rdsk = rdsk_below RDSK_BLOCKS (omega arith)

  module _ (n : ℕ) where
    -- a list that was followed
    abbrev HasList : Tables → Type 0
    HasList t = (ps : List Partition) × (o : Option DiskFault) × IsFollowed bytes n t ps o

    goes_on : (t : Tables) (k : ℕ) {ps : List Partition} {a b : ℕ} → IsFound bytes n t ps a b → MOST_PARTITIONS < length ps + k → HasList t
    goes_on t zero {ps} {a} {b} h room = absurd (omega (arith, no_more bytes n t h))
    goes_on t (suc k) {ps} {a} {b} h room = elim (cases_eq b NO_BLOCK) [
      | inl last ↦ (ps, None, (a, subst (IsFound bytes n t ps a) last h))
      | inr next ↦ elim (none_or_some (first_failed (part_form bytes ps a b))) [
        | inl sound ↦ goes_on t k (step h next sound) (omega (arith, length_push ps (partition_at bytes n t ps b)))
        | inr fails ↦ (ps, Some fails.0, record { last = a; next = b; found = h; some = next; failed = fails.1 })
      ]
    ]

    has_list : (t : Tables) → HasList t
    has_list t = goes_on t (MOST_PARTITIONS + 1) start (omega arith)

    disk_of : (t : Tables) → IsTables bytes t → (ps : List Partition) (o : Option DiskFault) → IsFollowed bytes n t ps o → HasListOrFault bytes n
    disk_of t tables ps None h = inl (t, ps, record { tables = tables; whole = h })
    disk_of t tables ps (Some f) h = inr (f, at_list tables (ps, h))

    tables_of : (b : ℕ) → IsRdsk bytes b → word (block bytes b) BLOCK_BYTES ≡ 512 → IsTables bytes (tables_at bytes b)
    tables_of b r e = record { rdsk = r; size = e; same = refl }

    pub some_disk : HasListOrFault bytes n
    some_disk = elim some_rdsk [
      | inl found ↦ elim (cases_eq (word (block bytes found.0) BLOCK_BYTES) 512) [
        | inl size ↦
            let t = tables_at bytes found.0 in
            let (ps, o, h) = has_list t in
            disk_of t (tables_of found.0 found.1 size) ps o h
        | inr size ↦ inr (disk_fault found.0 BlockSize, at_tables (inr (found.1, size, refl)))
      ]
      | inr none ↦ inr (disk_fault 0 NoRigidDisk, at_tables (inl (none, refl)))
    ]
