-- What is told of a disk of which only the blocks that may have tables are held.
-- Letters: all is an input, bytes what is held of it, len how many it has; n is the number of its blocks that count.
use Rattle.std.proofs.Common.{◌≡◌, ◌+◌, ◌/◌, ◌∙◌, ℕ, false, List, Option, None, Some, IfSome, ap, arith, length, length-take, min, refl, subst, sym}
use Rattle.std.proofs.{Common.take, lemmas.List.take-take}
use Rattle.adf_disk_cmd.specs.{Answers.DiskAnswer, Answers.OfPartitions, CommandLine.DiskRequestValue, Surveys.IsSurveyed}
use Rattle.adf_disk_cmd.specs.{declared.list_input.TheConstants.TABLES_LEN, declared.work.TheConstants.MOST_DISK_BYTES}
use Rattle.adf_disk_cmd.proofs.Endings.{disk_ends, told_ends}
use Rattle.adf_partitions.proofs.FirstBlocks.{first_disk, first_fault}
use Rattle.adf_partitions.specs.{Disks.FirstDiskFault, Disks.IsDisk, Volumes.AreSeparate, declared.fault.DiskFault.DiskFault, declared.tables.Tables.Tables}
use Rattle.adf_partitions.specs.declared.partition.Partition.{Partition}
use Rattle.adf_runs.specs.{Commands.Reply, Streams.IsExcerpt, Streams.Seen, declared.outcome.Outcome.Outcome}
use Rattle.adf_runs.specs.Outcomes.{Blames, DoesOn, EndsBy}

-- the bytes that count
abbrev pub disk_of : List ℕ → List ℕ
disk_of all = take MOST_DISK_BYTES all

if_some : {P Q : List ℕ → Type 0} (o : Option (List ℕ)) → ((x : List ℕ) → P x → Q x) → IfSome o P → IfSome o Q
if_some None f h = tt
if_some (Some x) f h = f x h

-- what is done by what is held of an input is done to the input, where it did not fail
pub does_held : {P : List ℕ → Type 0} {answers : List ℕ → Reply → Type 0} {w : Outcome} {output : Seen} (input : Seen)
    → ((all : List ℕ) → P all → EndsBy (answers all) w output.before output.after) → IfSome input.before P → input.failed ≡ false
    → Blames w false output.failed → DoesOn answers w input output
does_held input f h works blames = record { ends = if_some input.before f h; read = works ∙ blames.read; written = blames.written }

-- of a disk the blocks that may have tables are held, and n is the number of its blocks that count
module _ (all bytes : List ℕ) (n : ℕ) (first : bytes ≡ take TABLES_LEN all) (blocks : n ≡ length (disk_of all) / 512) where
  first_held : bytes ≡ take TABLES_LEN (disk_of all)
  first_held = first ∙ sym (take-take TABLES_LEN MOST_DISK_BYTES all (omega arith))

  disk_held : {t : Tables} {ps : List Partition} → IsDisk bytes n t ps → IsDisk (disk_of all) (length (disk_of all) / 512) t ps
  disk_held {t} {ps} d =
      (first_disk (disk_of all) (length (disk_of all) / 512) t ps).0
      (subst (λ (l : List ℕ). IsDisk l (length (disk_of all) / 512) t ps) first_held (subst (λ (k : ℕ). IsDisk bytes k t ps) blocks d))

  fault_held : {f : DiskFault} → FirstDiskFault bytes n f → FirstDiskFault (disk_of all) (length (disk_of all) / 512) f
  fault_held {f} v =
      (first_fault (disk_of all) (length (disk_of all) / 512) f).0
      (subst (λ (l : List ℕ). FirstDiskFault l (length (disk_of all) / 512) f) first_held (subst (λ (k : ℕ). FirstDiskFault bytes k f) blocks v))

  pub surveyed_held : (ps : List Partition) (u : Option DiskFault) → IsSurveyed bytes n ps u
      → IsSurveyed (disk_of all) (length (disk_of all) / 512) ps u
  surveyed_held ps None (t, disk) = (t, disk_held disk)
  surveyed_held ps (Some f) (apart, first_is) = (subst (λ (k : ℕ). AreSeparate k ps) blocks apart, fault_held first_is)

  -- what is told of the partitions answers the request, if so it does for the bytes that count
  pub held_ends : (r : DiskRequestValue) (ps : List Partition) (u : Option DiskFault) (w : Outcome) (o o' : Option (List ℕ)) → IsSurveyed bytes n ps u
      → EndsBy (OfPartitions r (disk_of all) ps u) w o o' → EndsBy (DiskAnswer r all) w o o'
  held_ends r ps u w o o' disk h =
      disk_ends r all (disk_of all) w o o' refl (told_ends r (disk_of all) ps u w o o' (surveyed_held ps u disk) h)

-- how many blocks count of so many bytes
pub blocks_held : (all : List ℕ) (len n : ℕ) → min len MOST_DISK_BYTES ≡ min (length all) MOST_DISK_BYTES → n ≡ min len MOST_DISK_BYTES / 512
    → n ≡ length (disk_of all) / 512
blocks_held all len n counted blocks =
    let same : min len MOST_DISK_BYTES ≡ length (disk_of all) = omega (arith, counted, length-take MOST_DISK_BYTES all) in
    blocks ∙ ap (λ (k : ℕ). k / 512) same

-- the tables of a disk are read
pub tables_ends : (all bytes : List ℕ) (len n : ℕ) → IsExcerpt 0 TABLES_LEN (MOST_DISK_BYTES + 1) all bytes len → n ≡ min len MOST_DISK_BYTES / 512
    → (r : DiskRequestValue) (ps : List Partition) (u : Option DiskFault) (w : Outcome) (o o' : Option (List ℕ)) → IsSurveyed bytes n ps u
    → EndsBy (OfPartitions r (disk_of all) ps u) w o o' → EndsBy (DiskAnswer r all) w o o'
tables_ends all bytes len n held blocks r ps u w o o' disk h =
    held_ends all bytes n held.0 (blocks_held all len n (omega (arith, held.1)) blocks) r ps u w o o' disk h
