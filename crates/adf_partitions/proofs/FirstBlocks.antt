-- The blocks that may have tables are all that is read of a disk.
-- Letters: as in specs/Searches; A, B two disks that agree in these blocks.
use Rattle.std.proofs.Common.{◌≡◌, ◌<◌, ◌≤◌, ◌*◌, inl, inr, ℕ, zero, suc, List, ◌++◌, [], ◌∷◌, length, take, drop, refl, sym, ap, subst, ◌∙◌, arith, Bool, true}
use Rattle.std.proofs.Common.{false, ◌&&◌, if◌then◌else◌, not, nat_lt, ◌↔◌}
use Rattle.std.specs.List.{list_any}
use Rattle.std.proofs.{lemmas.Bool.and_parts, lemmas.Bool.cases_lt, lemmas.Grind.common_steps}
use Rattle.std.proofs.lemmas.List.{take-append-drop, take_all, length-take-le}
use Rattle.adf_base.specs.Words.{word}
use Rattle.adf_partitions.specs.{declared.fault.DiskFault.DiskFault, declared.tables.Tables.Tables, Partitions.partition_of}
use Rattle.adf_partitions.specs.declared.layout.TheConstants.{BLOCK_BYTES, MOST_PARTITIONS, MOST_TABLES, RDSK_BLOCKS}
use Rattle.adf_partitions.specs.declared.partition.Partition.{Partition}
use Rattle.adf_partitions.specs.Disks.{FirstDiskFault, IsDisk, is_block_of, FirstDiskFault.at_list, FirstDiskFault.at_tables}
use Rattle.adf_partitions.specs.Searches.{AreReadable, is_partition_block, no_tables, with_all_lost, with_lost_partition}
use Rattle.adf_partitions.specs.Searches.AreReadable.{whole, cut, bare, other}
use Rattle.adf_partitions.proofs.TablesEnough.{StartAgrees, TablesAgree, same_cut, same_lack, same_list_fault, same_rdsk, same_tables, same_whole, start_agrees}
use Rattle.adf_partitions.proofs.TablesEnough.{start_back, tables_agree, tables_back}

-- all blocks that may have tables agree
record Agrees (A B : List ℕ) : Type 0 where
  start : StartAgrees A B
  tables : TablesAgree A B

agrees_back : {A B : List ℕ} → Agrees A B → Agrees B A
agrees_back g = record { start = start_back g.start; tables = tables_back g.tables }

-- the partitions, and that of a block with these bytes if it is lost
abbrev lost_of : ℕ → Tables → List Partition → ℕ → Bool → List ℕ → List Partition
lost_of n t ps b searched p =
    if searched && is_partition_block p && not (list_any (is_block_of b) ps) && nat_lt (length ps) MOST_PARTITIONS
    then ps ++ partition_of n t ps b p ∷ [] else ps

same_lost_of : (n : ℕ) (t : Tables) (ps : List Partition) (b : ℕ) (searched : Bool) (p q : List ℕ) → (searched ≡ true → p ≡ q)
    → lost_of n t ps b searched p ≡ lost_of n t ps b searched q
same_lost_of n t ps b true p q h = ap (lost_of n t ps b true) (h refl)
same_lost_of n t ps b false p q h = refl

module _ {A B : List ℕ} (s : TablesAgree A B) where
  same_lost : (n : ℕ) (t : Tables) (ps : List Partition) (b : ℕ) → with_lost_partition A n t ps b ≡ with_lost_partition B n t ps b
  same_lost n t ps b = grind (arith, common_steps, same_lost_of, lost_of, and_parts)

  same_all_lost : (n : ℕ) (t : Tables) (ps : List Partition) (k : ℕ) → with_all_lost A n t ps k ≡ with_all_lost B n t ps k
  unfolding with_all_lost
  same_all_lost n t ps zero = refl
  same_all_lost n t ps (suc k) = grind (arith, common_steps, same_lost, (same_all_lost n t ps k))

module _ {A B : List ℕ} (g : Agrees A B) (n : ℕ) where
  same_disk : {t : Tables} {ps : List Partition} → IsDisk A n t ps → IsDisk B n t ps
  same_disk {t} d = record { tables = same_tables g.start d.tables; whole = same_whole g.tables d.whole }

  same_fault : {f : DiskFault} → FirstDiskFault A n f → FirstDiskFault B n f
  same_fault (at_tables h) = at_tables (same_lack g.start h)
  same_fault (at_list {t} h v) = at_list (same_tables g.start h) (same_list_fault g.tables v)

  same_readable : {ps : List Partition} → AreReadable A n ps → AreReadable B n ps
  same_readable (whole d) = whole (same_disk d)
  same_readable (cut {t} {ps} {f} has v) =
      subst (AreReadable B n) (sym (same_all_lost g.tables n t ps MOST_TABLES)) (cut (same_tables g.start has) (same_cut g.tables v))
  same_readable (bare none) =
      let without : (k : ℕ) → k < RDSK_BLOCKS → _ = λ k lt. sym (g.start.rdsk k lt) ∙ none k lt in
      subst (AreReadable B n) (sym (same_all_lost g.tables n no_tables [] MOST_TABLES)) (bare without)
  same_readable (other {b} is size) =
      other (same_rdsk g.start is) (λ z. size (ap (λ p. word p BLOCK_BYTES) (g.start.blocks b is.low) ∙ z))

-- the first blocks, and the rest
all_same : (bytes : List ℕ) → Agrees bytes bytes
all_same bytes = grind (arith, common_steps)

front_agrees : (front rest : List ℕ) → MOST_TABLES * 512 ≤ length front → Agrees front (front ++ rest)
front_agrees front rest h = grind (arith, common_steps, start_agrees, tables_agree)

first_agree : (bytes : List ℕ) → Agrees (take (MOST_TABLES * 512) bytes) bytes
first_agree bytes = elim (cases_lt (length bytes) (MOST_TABLES * 512)) [
  | inl short ↦ subst (λ (l : List ℕ). Agrees l bytes) (sym (take_all (MOST_TABLES * 512) bytes (omega (arith, short)))) (all_same bytes)
  | inr long ↦
      let front : List ℕ = take (MOST_TABLES * 512) bytes in
      let held : length front ≡ MOST_TABLES * 512 = length-take-le (MOST_TABLES * 512) bytes long in
      subst (λ (l : List ℕ). Agrees front l) (take-append-drop (MOST_TABLES * 512) bytes)
      (front_agrees front (drop (MOST_TABLES * 512) bytes) (omega (arith, held)))
]

module _ (bytes : List ℕ) (n : ℕ) where
  pub first_disk : (t : Tables) (ps : List Partition) → IsDisk (take (MOST_TABLES * 512) bytes) n t ps ↔ IsDisk bytes n t ps
  first_disk t ps = let g = first_agree bytes in (same_disk g n, same_disk (agrees_back g) n)

  pub first_fault : (f : DiskFault) → FirstDiskFault (take (MOST_TABLES * 512) bytes) n f ↔ FirstDiskFault bytes n f
  first_fault f = let g = first_agree bytes in (same_fault g n, same_fault (agrees_back g) n)

  pub first_readable : (ps : List Partition) → AreReadable (take (MOST_TABLES * 512) bytes) n ps ↔ AreReadable bytes n ps
  first_readable ps = let g = first_agree bytes in (same_readable g n, same_readable (agrees_back g) n)
