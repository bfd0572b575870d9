-- What follows the tables of a disk changes nothing that is read of it.
-- Letters: as in specs/Disks; A, B two disks that agree in the blocks that may have tables, or in those that A holds.
use Rattle.std.proofs.Common.{◌≡◌, ◌<◌, ◌≤◌, ◌+◌, ◌*◌, inl, inr, ℕ, List, ◌++◌, [], ◌∷◌, length, refl, sym, ap, ◌∙◌, arith, Bool, true, false, None, ◌&&◌, ◌==◌}
use Rattle.std.proofs.Common.{not, nat_lt, length-append}
use Rattle.std.specs.List.{list_any}
use Rattle.std.proofs.{lemmas.Bool.and_parts, lemmas.List.take-append-le, lemmas.Slice.between_is, lemmas.Grind.common_steps}
use Rattle.adf_base.specs.Words.{block, word}
use Rattle.adf_partitions.specs.declared.fault.DiskCause.TheVariants.{OutOfRange, Repeated, NotPartition, BadSum, TooMany}
use Rattle.adf_partitions.specs.{declared.fault.DiskFault.DiskFault, declared.layout.TheConstants.RDSK_BLOCKS, declared.partition.Partition.Partition}
use Rattle.adf_partitions.specs.{declared.tables.Tables.Tables, Faults.disk_fault, Faults.first_failed, Summed.holds, Summed.is_summed}
use Rattle.adf_partitions.specs.declared.layout.TheConstants.{BLOCK_BYTES, FIRST_PART, HIGHEST_TABLE, LOWEST_TABLE, MARK, MOST_PARTITIONS, MOST_TABLES, PART}
use Rattle.adf_partitions.specs.Disks.{IsCut, IsDisk, IsFound, IsListFault, IsWholeList, is_block_of, part_form, IsFound.start, IsFound.step}
use Rattle.adf_partitions.specs.Tables.{HasNoTables, IsRdsk, IsTables, is_rdsk, may_be_table}
use Rattle.adf_partitions.proofs.{FoundSteps.one_more, NumberTests.le_of, NumberTests.lt_of, NumberTests.of_le}

-- the tables of a rigid disk block with these bytes
abbrev tables_of : ℕ → List ℕ → Tables
tables_of b p = record { rdsk = b; first = word p FIRST_PART; lowest = word p LOWEST_TABLE; highest = word p HIGHEST_TABLE }

-- the first 16 blocks agree
pub record StartAgrees (A B : List ℕ) : Type 0 where
  pub blocks : (b : ℕ) → b < RDSK_BLOCKS → block A b ≡ block B b
  pub rdsk : (b : ℕ) → b < RDSK_BLOCKS → is_rdsk A b ≡ is_rdsk B b

-- the blocks that may have tables agree
pub record TablesAgree (A B : List ℕ) : Type 0 where
  pub blocks : (b : ℕ) → may_be_table A b ≡ true → block A b ≡ block B b
  pub tables : (b : ℕ) → may_be_table A b ≡ may_be_table B b

pub start_back : {A B : List ℕ} → StartAgrees A B → StartAgrees B A
start_back s = record { blocks = λ b lt. sym (s.blocks b lt); rdsk = λ b lt. sym (s.rdsk b lt) }

pub tables_back : {A B : List ℕ} → TablesAgree A B → TablesAgree B A
tables_back s = record { blocks = λ b h. sym (s.blocks b (s.tables b ∙ h)); tables = λ b. sym (s.tables b) }

module _ {A B : List ℕ} (s : StartAgrees A B) where
  pub same_rdsk : {b : ℕ} → IsRdsk A b → IsRdsk B b
  same_rdsk {b} r = grind (arith, common_steps, s)

  pub same_tables : {t : Tables} → IsTables A t → IsTables B t
  same_tables {t} r = grind (arith, common_steps, s, same_rdsk)

  pub same_lack : {f : DiskFault} → HasNoTables A f → HasNoTables B f
  same_lack (inl h) = inl ((λ k lt. sym (s.rdsk k lt) ∙ h.0 k lt), h.1)
  same_lack {f} (inr h) = grind (arith, common_steps, s, same_rdsk)

-- the tests of a block, from whether it may have a table, and its bytes
abbrev form_of : List Partition → ℕ → ℕ → Bool → List ℕ → List (Bool × DiskFault)
form_of ps a b held p =
    (held, disk_fault a OutOfRange)
    ∷ (not (list_any (is_block_of b) ps), disk_fault b Repeated)
    ∷ (word p MARK == PART, disk_fault b NotPartition)
    ∷ (is_summed p, disk_fault b BadSum)
    ∷ (nat_lt (length ps) MOST_PARTITIONS, disk_fault b TooMany)
    ∷ []

same_form : (ps : List Partition) (a b : ℕ) (held : Bool) (p q : List ℕ) → (held ≡ true → p ≡ q)
    → first_failed (form_of ps a b held p) ≡ first_failed (form_of ps a b held q)
same_form ps a b true p q h = ap (λ x. first_failed (form_of ps a b true x)) (h refl)
same_form ps a b false p q h = refl

pub is_held : (ps : List Partition) (a b : ℕ) (held : Bool) (p : List ℕ) → first_failed (form_of ps a b held p) ≡ None → held ≡ true
is_held ps a b true p h = refl
is_held ps a b false p h = absurd cc

module _ {A B : List ℕ} (s : TablesAgree A B) where
  same_tests : (ps : List Partition) (a b : ℕ) → first_failed (part_form A ps a b) ≡ first_failed (part_form B ps a b)
  same_tests ps a b = grind (arith, common_steps, same_form, s, form_of)

  module _ {n : ℕ} {t : Tables} where
    pub same_found : {ps : List Partition} {a b : ℕ} → IsFound A n t ps a b → IsFound B n t ps a b
    same_found start = start
    same_found (step {ps = ps} {a = a} {b = b} h some sound) =
        let e = s.blocks b (is_held ps a b (may_be_table A b) (block A b) sound) in
        one_more (same_found h) some (sym (same_tests ps a b) ∙ sound) e refl refl refl

    pub same_whole : {ps : List Partition} → IsWholeList A n t ps → IsWholeList B n t ps
    same_whole w = (w.0, same_found w.1)

    pub same_cut : {ps : List Partition} {f : DiskFault} → IsCut A n t ps f → IsCut B n t ps f
    same_cut {ps} v = grind (arith, common_steps, same_found, same_tests)

    pub same_list_fault : {f : DiskFault} → IsListFault A n t f → IsListFault B n t f
    same_list_fault v = (v.0, same_cut v.1)

-- a block of the front
front_block : (bytes rest : List ℕ) (b : ℕ) → b * 512 + 512 ≤ length bytes → block bytes b ≡ block (bytes ++ rest) b
unfolding block
front_block bytes rest b h = grind (arith, common_steps, between_is, take-append-le)

front_holds : (bytes rest : List ℕ) (b : ℕ) → b * 512 + 512 ≤ length bytes → holds bytes b ≡ holds (bytes ++ rest) b
front_holds bytes rest b h = grind (arith, common_steps, of_le, length-append)

pub start_agrees : (bytes rest : List ℕ) → RDSK_BLOCKS * 512 ≤ length bytes → StartAgrees bytes (bytes ++ rest)
start_agrees bytes rest h = grind (arith, common_steps, front_block, front_holds)

only_last : (x u v : Bool) → (x ≡ true → u ≡ v) → (x && u) ≡ (x && v)
only_last true u v h = h refl
only_last false u v h = refl

pub tables_agree : (bytes rest : List ℕ) → MOST_TABLES * 512 ≤ length bytes → TablesAgree bytes (bytes ++ rest)
tables_agree bytes rest h = grind (arith, common_steps, and_parts, front_block, le_of, only_last, front_holds, lt_of)

module _ (bytes rest : List ℕ) (enough : RDSK_BLOCKS * 512 ≤ length bytes) where
  pub tables_tell : (t : Tables) → (IsTables bytes t → IsTables (bytes ++ rest) t) × (IsTables (bytes ++ rest) t → IsTables bytes t)
  tables_tell t = let s = start_agrees bytes rest enough in (same_tables s, same_tables (start_back s))

  pub lack_tells : (f : DiskFault) → (HasNoTables bytes f → HasNoTables (bytes ++ rest) f) × (HasNoTables (bytes ++ rest) f → HasNoTables bytes f)
  lack_tells f = let s = start_agrees bytes rest enough in (same_lack s, same_lack (start_back s))

-- the blocks that A holds are those of B
record StartsSame (A B : List ℕ) : Type 0 where
  blocks : (b : ℕ) → holds A b ≡ true → block A b ≡ block B b
  held : (b : ℕ) → holds A b ≡ true → holds B b ≡ true

starts_same : (bytes rest : List ℕ) → StartsSame bytes (bytes ++ rest)
starts_same bytes rest = grind (arith, common_steps, front_block, front_holds, le_of)

module _ {A B : List ℕ} (s : StartsSame A B) where
  -- a block below one that is held is held
  held_below : (k b : ℕ) → k < b → holds A b ≡ true → holds A k ≡ true
  held_below k b lt h = of_le (k * 512 + 512) (length A) (omega (arith, le_of (b * 512 + 512) (length A) h))

  rdsk_held : (b : ℕ) → is_rdsk A b ≡ true → holds A b ≡ true
  rdsk_held b h = grind (arith, common_steps, and_parts)

  same_is_rdsk : (b : ℕ) → holds A b ≡ true → is_rdsk A b ≡ is_rdsk B b
  same_is_rdsk b h = let e = s.blocks b h in let f = s.held b h in cc

  more_rdsk : {b : ℕ} → IsRdsk A b → IsRdsk B b
  more_rdsk {b} r =
      let h = rdsk_held b r.is in record {
        low = r.low;
        is = sym (same_is_rdsk b h) ∙ r.is;
        first = λ k lt. sym (same_is_rdsk k (held_below k b lt h)) ∙ r.first k lt;
      }

  more_tables : {t : Tables} → IsTables A t → IsTables B t
  more_tables {t} r =
      let e = s.blocks t.rdsk (rdsk_held t.rdsk r.rdsk.is) in record {
        rdsk = more_rdsk r.rdsk;
        size = ap (λ p. word p BLOCK_BYTES) (sym e) ∙ r.size;
        same = r.same ∙ ap (λ p. tables_of t.rdsk p) e;
      }

  more_held : (b : ℕ) → may_be_table A b ≡ true → holds A b ≡ true
  more_held b h = (and_parts _ _ h).1

  more_tests : (ps : List Partition) (a b : ℕ) → first_failed (part_form A ps a b) ≡ None → first_failed (part_form B ps a b) ≡ None
  more_tests ps a b sound =
      let m = is_held ps a b (may_be_table A b) (block A b) sound in
      let e = s.blocks b (more_held b m) in
      let f = s.held b (more_held b m) in
      grind (arith, common_steps, and_parts)

  more_found : {n : ℕ} {t : Tables} {ps : List Partition} {a b : ℕ} → IsFound A n t ps a b → IsFound B n t ps a b
  more_found start = start
  more_found (step {ps = ps} {a = a} {b = b} h some sound) =
      let e = s.blocks b (more_held b (is_held ps a b (may_be_table A b) (block A b) sound)) in
      one_more (more_found h) some (more_tests ps a b sound) e refl refl refl

-- all of a list stays what it is
pub disk_tells : (bytes rest : List ℕ) (n : ℕ) (t : Tables) (ps : List Partition) → IsDisk bytes n t ps → IsDisk (bytes ++ rest) n t ps
disk_tells bytes rest n t ps d =
    let s = starts_same bytes rest in record { tables = more_tables s d.tables; whole = (d.whole.0, more_found s d.whole.1) }
