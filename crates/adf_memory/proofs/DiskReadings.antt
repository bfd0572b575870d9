-- What is read of a hard disk is what it has. ps are the partitions that were read, o is the fault that was found.
use Rattle.std.proofs.Common.{◌≡◌, ℕ, List, length, Option, Some, None, ap, ap₂}
use Rattle.adf_memory.specs.DiskTables.{IsDiskRead, table_disk}
use Rattle.adf_partitions.proofs.OneAnswer.{no_fault, one_disk, one_fault, one_reading}
use Rattle.adf_partitions.specs.{Disks.FirstDiskFault, Disks.IsDisk, Searches.AreReadable, Searches.AreReadable.whole, declared.fault.DiskFault.DiskFault}
use Rattle.adf_partitions.specs.{declared.partition.Partition.Partition, declared.tables.Tables.Tables}

module _ (bytes : List ℕ) (n : ℕ) where
  are_readable : (ps : List Partition) (o : Option DiskFault) → IsDiskRead bytes n ps o → AreReadable bytes n ps
  are_readable ps None h = whole h.1
  are_readable ps (Some f) h = h.0

  pub same_partitions : (ps qs : List Partition) (o : Option DiskFault) → IsDiskRead bytes n ps o → AreReadable bytes n qs → ps ≡ qs
  same_partitions ps qs o h r = one_reading bytes n (are_readable ps o h) r

  pub table_whole : (ps qs : List Partition) (o : Option DiskFault) (t : Tables) → IsDiskRead bytes n ps o → IsDisk bytes n t qs
      → table_disk (length ps) o ≡ table_disk (length qs) None
  table_whole ps qs None t h d = ap (λ (ps : List Partition). table_disk (length ps) None) (one_disk bytes n h.0 t ps qs h.1 d).1
  table_whole ps qs (Some f) t h d = absurd (no_fault bytes n t qs f h.1 d)

  pub table_fault : (ps qs : List Partition) (o : Option DiskFault) (f : DiskFault) → IsDiskRead bytes n ps o → AreReadable bytes n qs
      → FirstDiskFault bytes n f
      → table_disk (length ps) o ≡ table_disk (length qs) (Some f)
  table_fault ps qs None f h r first = absurd (no_fault bytes n h.0 ps f first h.1)
  table_fault ps qs (Some g) f h r first =
      ap₂ (λ (ps : List Partition) (f : DiskFault). table_disk (length ps) (Some f)) (one_reading bytes n h.0 r) (one_fault bytes n g f h.1 first)
