-- A disk has one answer: a list of partitions, or a first fault.
-- Letters: as in specs/Disks; k, m the number of partitions found.
use Rattle.std.proofs.Common.{◌≡◌, ◌≢◌, ◌<◌, ◌⊎◌, inl, inr, ℕ, zero, suc, List, [], ◌∷◌, ◌++◌, length, refl, sym, ap, subst, ◌∙◌, arith, Some, None}
use Rattle.std.proofs.{lemmas.Bool.cases_lt, lemmas.List.length_push, lemmas.Grind.common_steps}
use Rattle.adf_base.specs.Words.{block, word}
use Rattle.adf_partitions.specs.declared.fault.DiskCause.TheVariants.{BlockSize, NoRigidDisk}
use Rattle.adf_partitions.specs.{declared.fault.DiskFault.DiskFault, declared.partition.Partition.Partition, declared.tables.Tables.Tables}
use Rattle.adf_partitions.specs.{Disks.FirstDiskFault.at_tables, Disks.FirstDiskFault.at_list, Faults.disk_fault, Faults.first_failed}
use Rattle.adf_partitions.specs.declared.layout.TheConstants.{BLOCK_BYTES, MOST_TABLES, NEXT_PART, NO_BLOCK}
use Rattle.adf_partitions.specs.Disks.{FirstDiskFault, IsCut, IsDisk, IsFound, IsListFault, IsWholeList, part_form, partition_at, IsFound.start, IsFound.step}
use Rattle.adf_partitions.specs.Searches.{AreReadable, with_all_lost, AreReadable.bare, AreReadable.cut, AreReadable.other, AreReadable.whole}
use Rattle.adf_partitions.specs.Tables.{HasNoRdsk, HasNoTables, IsRdsk, IsTables, tables_at}

-- a disk has one rigid disk block
one_rdsk : {bytes : List ℕ} {a b : ℕ} → IsRdsk bytes a → IsRdsk bytes b → a ≡ b
one_rdsk {a = a} {b = b} r s = grind (arith, common_steps, cases_lt)

-- and one place of its tables
pub one_tables : {bytes : List ℕ} {t u : Tables} → IsTables bytes t → IsTables bytes u → t ≡ u
one_tables {bytes} r s = r.same ∙ ap (tables_at bytes) (one_rdsk r.rdsk s.rdsk) ∙ sym s.same

pub some_tables : {bytes : List ℕ} {t : Tables} {f : DiskFault} → IsTables bytes t → HasNoTables bytes f → ⊥
some_tables {bytes} {t} r (inl h) = let n = h.0 t.rdsk r.rdsk.low in let y = r.rdsk.is in absurd cc
some_tables {bytes} r (inr h) = h.1 (ap (λ b. word (block bytes b) 4) (one_rdsk h.0 r.rdsk) ∙ r.size)

one_tables_fault : {bytes : List ℕ} {f g : DiskFault} → HasNoTables bytes f → HasNoTables bytes g → f ≡ g
one_tables_fault (inl h) (inl k) = h.1 ∙ sym k.1
one_tables_fault {g = g} (inl h) (inr k) = let n = h.0 g.block k.0.low in let y = k.0.is in absurd cc
one_tables_fault {f = f} (inr h) (inl k) = let n = k.0 f.block h.0.low in let y = h.0.is in absurd cc
one_tables_fault {f = f} {g = g} (inr h) (inr k) = ap (λ b. disk_fault b f.cause) (one_rdsk h.0 k.0) ∙ ap (disk_fault g.block) (h.2 ∙ sym k.2)

-- what is found: the partitions, the last block of the list, and the one that it names
abbrev State : Type 0
State = List Partition × ℕ × ℕ

abbrev state : List Partition → ℕ → ℕ → State
state ps a b = (ps, a, b)

module _ (bytes : List ℕ) (n : ℕ) (t : Tables) where
  -- what is found after one partition more
  abbrev after : State → State
  after s = (s.0 ++ partition_at bytes n t s.0 s.2 ∷ [], s.2, word (block bytes s.2) NEXT_PART)

  -- what is found after k partitions
  abbrev found_after : ℕ → State
  found_after zero = ([], t.rdsk, t.first)
  found_after (suc k) = after (found_after k)

  -- the next block passes its tests
  abbrev Passes : State → Type 0
  Passes s = (s.2 ≢ NO_BLOCK) × (first_failed (part_form bytes s.0 s.1 s.2) ≡ None)

  -- the list ends there, or has a fault
  abbrev Stops : State → Type 0
  Stops s = (s.2 ≡ NO_BLOCK) ⊎ ((f : DiskFault) × (first_failed (part_form bytes s.0 s.1 s.2) ≡ Some f))

  is_after : {ps : List Partition} {a b : ℕ} → IsFound bytes n t ps a b → state ps a b ≡ found_after (length ps)
  is_after start = refl
  is_after (step {ps = ps} {a = a} {b = b} h some sound) =
      let e : length (ps ++ partition_at bytes n t ps b ∷ []) ≡ suc (length ps) = omega (arith, length_push ps (partition_at bytes n t ps b)) in
      ap after (is_after h) ∙ ap found_after (sym e)

  each_passes : {ps : List Partition} {a b : ℕ} → IsFound bytes n t ps a b → (k : ℕ) → k < length ps → Passes (found_after k)
  each_passes start k lt = absurd (omega arith)
  each_passes (step {ps = ps} {a = a} {b = b} h some sound) k lt = elim (cases_lt k (length ps)) [
    | inl below ↦ each_passes h k below
    | inr from ↦
        let e : k ≡ length ps = omega (arith, length_push ps (partition_at bytes n t ps b)) in
        subst Passes (is_after h ∙ ap found_after (sym e)) (some, sound)
  ]

  not_both : (s : State) → Passes s → Stops s → ⊥
  not_both s p (inl e) = p.0 e
  not_both s p (inr q) = let x = p.1 in let y = q.1 in absurd cc

  -- a list stops once
  no_longer : {ps qs : List Partition} {a b c d : ℕ} → IsFound bytes n t ps a b → Stops (state ps a b) → IsFound bytes n t qs c d
      → length ps < length qs → ⊥
  no_longer {ps} h stops k lt = not_both (found_after (length ps)) (each_passes k (length ps) lt) (subst Stops (is_after h) stops)

  pub one_stop : {ps qs : List Partition} {a b c d : ℕ} → IsFound bytes n t ps a b → Stops (state ps a b) → IsFound bytes n t qs c d
      → Stops (state qs c d) → state ps a b ≡ state qs c d
  one_stop {ps} {qs} h stops k ends = grind (arith, common_steps, cases_lt, no_longer, is_after, found_after)

  one_list : {ps qs : List Partition} → IsWholeList bytes n t ps → IsWholeList bytes n t qs → ps ≡ qs
  one_list w v = ap (λ (s : State). s.0) (one_stop w.1 (inl refl) v.1 (inl refl))

  no_list_fault : {ps : List Partition} {f : DiskFault} → IsWholeList bytes n t ps → IsListFault bytes n t f → ⊥
  no_list_fault {f = f} w (ps, v) = v.some (ap (λ (s : State). s.2) (one_stop v.found (inr (f, v.failed)) w.1 (inl refl)))

  one_cut : {ps qs : List Partition} {f g : DiskFault} → IsCut bytes n t ps f → IsCut bytes n t qs g → ps ≡ qs
  one_cut {f = f} {g = g} w v = ap (λ (s : State). s.0) (one_stop w.found (inr (f, w.failed)) v.found (inr (g, v.failed)))

  one_list_fault : {f g : DiskFault} → IsListFault bytes n t f → IsListFault bytes n t g → f ≡ g
  one_list_fault {f = f} {g = g} (ps, w) (qs, v) = grind (arith, common_steps, one_stop)

pub one_disk : (bytes : List ℕ) (n : ℕ) (t u : Tables) (ps qs : List Partition) → IsDisk bytes n t ps → IsDisk bytes n u qs → (t ≡ u) × (ps ≡ qs)
one_disk bytes n t u ps qs d e =
    let same = one_tables d.tables e.tables in
    (same, one_list bytes n u (subst (λ t. IsWholeList bytes n t ps) same d.whole) e.whole)

pub no_fault : (bytes : List ℕ) (n : ℕ) (t : Tables) (ps : List Partition) (f : DiskFault) → FirstDiskFault bytes n f → IsDisk bytes n t ps → ⊥
no_fault bytes n t ps f (at_tables h) d = some_tables d.tables h
no_fault bytes n t ps f (at_list h v) d = no_list_fault bytes n t d.whole (subst (λ t. IsListFault bytes n t f) (one_tables h d.tables) v)

pub one_fault : (bytes : List ℕ) (n : ℕ) (f g : DiskFault) → FirstDiskFault bytes n f → FirstDiskFault bytes n g → f ≡ g
one_fault bytes n f g (at_tables h) (at_tables k) = one_tables_fault h k
one_fault bytes n f g (at_tables h) (at_list k v) = absurd (some_tables k h)
one_fault bytes n f g (at_list h v) (at_tables k) = absurd (some_tables h k)
one_fault bytes n f g (at_list h v) (at_list {t = t} k w) =
    one_list_fault bytes n t (subst (λ t. IsListFault bytes n t f) (one_tables h k) v) w

no_rdsk : {bytes : List ℕ} → HasNoRdsk bytes → HasNoTables bytes (disk_fault 0 NoRigidDisk)
no_rdsk h = inl (h, refl)

other_size : {bytes : List ℕ} {b : ℕ} → IsRdsk bytes b → word (block bytes b) BLOCK_BYTES ≢ 512 → HasNoTables bytes (disk_fault b BlockSize)
other_size r s = inr (r, s, refl)

-- a disk has one list of partitions that can be read
pub one_reading : (bytes : List ℕ) (n : ℕ) {ps qs : List Partition} → AreReadable bytes n ps → AreReadable bytes n qs → ps ≡ qs
one_reading bytes n (whole {t = t} {ps = ps} d) (whole {t = u} {ps = qs} e) = (one_disk bytes n t u ps qs d e).1
one_reading bytes n (whole {t = t} {ps = ps} d) (cut {ps = qs} {f = f} h w) = absurd (no_fault bytes n t ps f (at_list h (qs, w)) d)
one_reading bytes n (whole d) (bare h) = absurd (some_tables d.tables (no_rdsk h))
one_reading bytes n (whole d) (other r s) = absurd (some_tables d.tables (other_size r s))
one_reading bytes n (cut {ps = ps} {f = f} h w) (whole {t = t} {ps = qs} d) = absurd (no_fault bytes n t qs f (at_list h (ps, w)) d)
one_reading bytes n (cut {t = t} {ps = ps} {f = f} h w) (cut {t = u} {ps = qs} {f = g} k v) =
    let same = one_tables h k in
    ap (λ (t : Tables). with_all_lost bytes n t ps MOST_TABLES) same
    ∙ ap (λ (ps : List Partition). with_all_lost bytes n u ps MOST_TABLES)
    (one_cut bytes n u (subst (λ (t : Tables). IsCut bytes n t ps f) same w) v)
one_reading bytes n (cut h w) (bare k) = absurd (some_tables h (no_rdsk k))
one_reading bytes n (cut h w) (other r s) = absurd (some_tables h (other_size r s))
one_reading bytes n (bare h) (whole d) = absurd (some_tables d.tables (no_rdsk h))
one_reading bytes n (bare h) (cut k w) = absurd (some_tables k (no_rdsk h))
one_reading bytes n (bare h) (bare k) = refl
one_reading bytes n (bare h) (other {b = b} r s) = let x = h b r.low in let y = r.is in absurd cc
one_reading bytes n (other r s) (whole d) = absurd (some_tables d.tables (other_size r s))
one_reading bytes n (other r s) (cut h w) = absurd (some_tables h (other_size r s))
one_reading bytes n (other {b = b} r s) (bare h) = let x = h b r.low in let y = r.is in absurd cc
one_reading bytes n (other r s) (other q p) = refl
