-- What is told of a disk of which the blocks that may have tables and the bytes of one volume are held.
-- Letters: as in proofs/HeldTables; tables are the first t bytes of all, q is the place of the volume, f its first byte and b how many it has.
use Rattle.std.proofs.Common.{◌≡◌, ◌≤◌, ◌+◌, ◌-◌, ◌*◌, ◌/◌, ◌∙◌, ◌++◌, [], ℕ, List, Option, None, Some, IfSome, inl, inr, ap}
use Rattle.std.proofs.Common.{append-nil, arith, drop, length, length-drop, length-take, min, refl, subst, sym, take, true, false}
use Rattle.std.proofs.{Math.ListN.drop_of_length-le, Math.Seq.take-add, lemmas.Bool.and_parts, lemmas.Bool.cases_lt, lemmas.Grind.common_steps}
use Rattle.std.specs.Prelude.{◌&&◌, Bool, if◌then◌else◌}
use Rattle.std.proofs.lemmas.List.{drop-drop, drop-take, take-take, take_all}
use Rattle.adf_base.specs.Words.{block}
use Rattle.adf_partitions.proofs.NumberTests.{le_of}
use Rattle.adf_partitions.specs.{Places.blocks_from, Places.end_of, Places.partition_place}
use Rattle.adf_partitions.specs.{declared.fault.DiskFault.DiskFault, declared.partition.Partition.Partition, declared.place.Place.Place}
use Rattle.adf_runs.proofs.KnownBytes.{left_over}
use Rattle.adf_runs.specs.{Outcomes.EndsBy, Streams.IsExcerpt, Streams.TakesFirst, declared.outcome.Outcome.Outcome}
use Rattle.adf_disk_cmd.specs.{CommandLine.WantedValue, CommandLine.volume, Replies.WritesOutput, Replies.check_status, Work.HoldsVolume}
use Rattle.adf_disk_cmd.specs.{declared.list_input.TheConstants.TABLES_LEN, declared.volumes.TheConstants.MOST_DISK_BLOCKS}
use Rattle.adf_disk_cmd.specs.declared.work.TheConstants.{MOST_DISK_BYTES}
use Rattle.adf_disk_cmd.specs.Surveys.{IsSurveyed, are_faultless, stated_at, states_place, volume_at}
use Rattle.adf_disk_cmd.proofs.HeldTables.{disk_of, tables_ends}
use Rattle.adf_disk_cmd.specs.Answers.{DiskAnswer, WritesVolume, found_bytes, found_place, has_place, place_bytes, wanted_of}

-- a place that is stated ends within the largest disk
states_within : (bytes : List ℕ) (b : ℕ) → states_place bytes b ≡ true → end_of (partition_place (block bytes b)) ≤ MOST_DISK_BLOCKS
states_within bytes b e = grind (arith, common_steps, and_parts, le_of)

within_if : (is : Bool) (q : Place) → (is ≡ true → end_of q ≤ MOST_DISK_BLOCKS) → end_of (if is then q else blocks_from 0 0) ≤ MOST_DISK_BLOCKS
within_if true q h = h refl
within_if false q h = omega arith

pub stated_within : (bytes : List ℕ) (b : ℕ) → end_of (stated_at bytes b) ≤ MOST_DISK_BLOCKS
stated_within bytes b = within_if (states_place bytes b) (partition_place (block bytes b)) (states_within bytes b)

-- the first b items are those of the first c, and then the others
two_parts : (b c : ℕ) (ys : List ℕ) → take b ys ≡ take b (take c ys) ++ take (b - c) (drop c ys)
two_parts b c ys = elim (cases_lt c b) [
  | inl more ↦
      let sum : b ≡ c + (b - c) = omega (arith, more) in
      let front : take b (take c ys) ≡ take c ys = take_few b c ys (omega (arith, more)) in
      ap (λ (k : ℕ). take k ys) sum ∙ take-add c (b - c) ys ∙ ap (λ (l : List ℕ). l ++ take (b - c) (drop c ys)) (sym front)
  | inr few ↦
      let no : b - c ≡ 0 = omega (arith, few) in
      sym (append-nil (take b ys)) ∙ ap (λ (l : List ℕ). l ++ []) (sym (take-take b c ys (omega (arith, few))))
      ∙ ap (λ (k : ℕ). take b (take c ys) ++ take k (drop c ys)) (sym no)
]
  where
    take_few : (b c : ℕ) (ys : List ℕ) → c ≤ b → take b (take c ys) ≡ take c ys
    take_few b c ys h = take_all b (take c ys) (omega (arith, h, length-take c ys))

drop_cut : (f t : ℕ) (xs : List ℕ) → drop f (take t xs) ≡ take (t - f) (drop f xs)
drop_cut f t xs = elim (cases_lt f t) [
  | inl more ↦ let sum : t ≡ f + (t - f) = omega (arith, more) in ap (λ (k : ℕ). drop f (take k xs)) sum ∙ drop-take f (t - f) xs
  | inr few ↦
      let no : t - f ≡ 0 = omega (arith, few) in
      drop_of_length-le (take t xs) (omega (arith, few, length-take t xs)) ∙ ap (λ (k : ℕ). take k (drop f xs)) (sym no)
]

drop_late : (f t : ℕ) (xs : List ℕ) → drop (t - f) (drop f xs) ≡ drop (f - t) (drop t xs)
drop_late f t xs = grind (arith, common_steps, drop-drop)

-- so many items from one on are those before place t and those behind it
parts : (f b t : ℕ) (xs : List ℕ)
    → take b (drop f xs) ≡ take b (drop f (take t xs)) ++ take ((f + b - t) - (f - t)) (drop (f - t) (drop t xs))
parts f b t xs =
    let count : b - (t - f) ≡ (f + b - t) - (f - t) = omega arith in
    two_parts b (t - f) (drop f xs)
    ∙ ap (λ (l : List ℕ). take b l ++ take (b - (t - f)) (drop (t - f) (drop f xs))) (sym (drop_cut f t xs))
    ∙ ap (λ (l : List ℕ). take b (drop f (take t xs)) ++ take (b - (t - f)) l) (drop_late f t xs)
    ∙ ap (λ (k : ℕ). take b (drop f (take t xs)) ++ take k (drop (f - t) (drop t xs))) count

-- what is past the largest disk is no part of a place
pub whole_place : (f b m : ℕ) (xs : List ℕ) → f + b ≤ m → take b (drop f (take m xs)) ≡ take b (drop f xs)
whole_place f b m xs h = ap (take b) (drop_cut f m xs) ∙ take-take b (m - f) (drop f xs) (omega (arith, h))

-- a volume of which as many bytes are held as it has
pub whole_front : (f b k : ℕ) (xs : List ℕ) → length (take b (drop f (take k xs))) ≡ b → take b (drop f (take k xs)) ≡ take b (drop f xs)
whole_front f b k xs h =
    let cut = drop_cut f k xs in
    let few : b ≤ k - f = omega (arith, h, ap length (ap (take b) cut), length-take b (take (k - f) (drop f xs)), length-take (k - f) (drop f xs)) in
    ap (take b) cut ∙ take-take b (k - f) (drop f xs) few

pub whole_volume : (all bytes : List ℕ) (k : ℕ) (q : Place) → bytes ≡ take k all → length (volume_at bytes q) ≡ q.blocks * 512
    → volume_at bytes q ≡ volume_at all q
unfolding volume_at
whole_volume all bytes k q e h =
    let same : volume_at bytes q ≡ volume_at (take k all) q = ap (λ (l : List ℕ). volume_at l q) e in
    same ∙ whole_front (q.first * 512) (q.blocks * 512) k all (sym (ap length same) ∙ h)

module _ (all tables behind : List ℕ) (q : Place) (len : ℕ) (within : end_of q ≤ MOST_DISK_BLOCKS) (held : HoldsVolume all tables q behind len) where
  -- the volume is what of it is in the tables, and what is behind them
  both_parts : volume_at tables q ++ behind ≡ volume_at (disk_of all) q
  unfolding volume_at
  both_parts =
      let f : ℕ = q.first * 512 in
      let b : ℕ = q.blocks * 512 in
      let end : end_of q * 512 ≡ f + b = omega arith in
      let rest : behind ≡ take ((f + b - TABLES_LEN) - (f - TABLES_LEN)) (drop (f - TABLES_LEN) (drop TABLES_LEN all)) =
      held.1.0 ∙ ap (λ (k : ℕ). take ((k - TABLES_LEN) - (f - TABLES_LEN)) (drop (f - TABLES_LEN) (drop TABLES_LEN all))) end in
      ap (λ (l : List ℕ). take b (drop f l) ++ behind) held.0
      ∙ ap (λ (l : List ℕ). take b (drop f (take TABLES_LEN all)) ++ l) rest
      ∙ sym (parts f b TABLES_LEN all)
      ∙ sym (whole_place f b MOST_DISK_BYTES all (omega (arith, within)))

  pub few_held : length tables + len ≤ MOST_DISK_BYTES + 1
  few_held =
      let count : length tables ≡ min TABLES_LEN (length all) = ap length held.0 ∙ length-take TABLES_LEN all in
      omega (arith, count, held.1.1)

  tables_part : IsExcerpt 0 TABLES_LEN (MOST_DISK_BYTES + 1) all tables (length tables + len)
  tables_part =
      let count : length tables ≡ min TABLES_LEN (length all) = ap length held.0 ∙ length-take TABLES_LEN all in
      (held.0, omega (arith, count, held.1.1, length-drop TABLES_LEN all))

  tables_first : take TABLES_LEN (disk_of all) ≡ tables
  tables_first = take-take TABLES_LEN MOST_DISK_BYTES all (omega arith) ∙ sym held.0

  -- the bytes of the volume are written that is found at the place that was read, and none where none is found
  pub placed_ends : (found : Option Partition) (u : Option DiskFault) (bytes : List ℕ) (w : Outcome) (o o' : Option (List ℕ))
      → found_place tables found ≡ Some q → bytes ≡ volume_at tables q ++ behind
      → EndsBy (WritesOutput (check_status (are_faultless u && has_place found)) bytes) w o o' → EndsBy (WritesVolume (disk_of all) found u) w o o'
  placed_ends found u bytes w o o' at is h =
      let place : found_place (take TABLES_LEN (disk_of all)) found ≡ Some q = ap (λ (l : List ℕ). found_place l found) tables_first ∙ at in
      let same : bytes ≡ found_bytes (disk_of all) found = is ∙ (both_parts ∙ sym (ap (place_bytes (disk_of all)) place)) in
      subst (λ (l : List ℕ). EndsBy (WritesOutput (check_status (are_faultless u && has_place found)) l) w o o') same h

  pub unplaced_ends : (found : Option Partition) (u : Option DiskFault) (bytes : List ℕ) (w : Outcome) (o o' : Option (List ℕ))
      → found_place tables found ≡ None → bytes ≡ []
      → EndsBy (WritesOutput (check_status (are_faultless u && has_place found)) bytes) w o o' → EndsBy (WritesVolume (disk_of all) found u) w o o'
  unplaced_ends found u bytes w o o' at is h =
      let place : found_place (take TABLES_LEN (disk_of all)) found ≡ None = ap (λ (l : List ℕ). found_place l found) tables_first ∙ at in
      let same : bytes ≡ found_bytes (disk_of all) found = is ∙ sym (ap (place_bytes (disk_of all)) place) in
      subst (λ (l : List ℕ). EndsBy (WritesOutput (check_status (are_faultless u && has_place found)) l) w o o') same h

  pub copied_ends : (w : WantedValue) (n len_all : ℕ) → len_all ≡ length tables + len → n ≡ min len_all MOST_DISK_BYTES / 512
      → (ps : List Partition) (u : Option DiskFault) (end : Outcome) (o o' : Option (List ℕ)) → IsSurveyed tables n ps u
      → EndsBy (WritesVolume (disk_of all) (wanted_of ps w) u) end o o' → EndsBy (DiskAnswer (volume w) all) end o o'
  copied_ends w n len_all sum blocks ps u end o o' disk h =
      tables_ends all tables (length tables + len) n tables_part (blocks ∙ ap (λ (k : ℕ). min k MOST_DISK_BYTES / 512) sum) (volume w) ps u end o o' disk h

-- the part behind the tables is read of what is left of all
pub parts_read : (a b : Option (List ℕ)) (tables behind : List ℕ) (q : Place) (from to len : ℕ) → TakesFirst TABLES_LEN a b tables
    → IfSome b (λ rest. IsExcerpt from to (MOST_DISK_BYTES - TABLES_LEN + 1) rest behind len)
    → from ≡ q.first * 512 - TABLES_LEN → to ≡ end_of q * 512 - TABLES_LEN → IfSome a (λ all. HoldsVolume all tables q behind len)
parts_read None b tables behind q from to len h g e f = tt
parts_read (Some all) None tables behind q from to len h g e f = absurd h.1
parts_read (Some all) (Some rest) tables behind q from to len h g e f =
    let left = left_over TABLES_LEN all rest tables h in
    let there = subst (λ (l : List ℕ). IsExcerpt from to (MOST_DISK_BYTES - TABLES_LEN + 1) l behind len) left g in (
      h.0,
      subst (λ (k : ℕ). IsExcerpt k (end_of q * 512 - TABLES_LEN) (MOST_DISK_BYTES - TABLES_LEN + 1) (drop TABLES_LEN all) behind len) e
          (subst (λ (k : ℕ). IsExcerpt from k (MOST_DISK_BYTES - TABLES_LEN + 1) (drop TABLES_LEN all) behind len) f there),
    )
