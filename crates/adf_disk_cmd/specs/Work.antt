-- What is done with a disk.
use Rattle.std.specs.Prelude.{◌≡◌, ◌+◌, ◌-◌, ◌*◌, ℕ, List, drop, take}
use Rattle.std.specs.String.{string_bytes}
use Rattle.adf_partitions.specs.{Places.end_of, declared.place.Place.Place}
use Rattle.adf_runs.specs.Streams.{IsExcerpt}
use Rattle.adf_disk_cmd.specs.CommandLine.{DiskRequestValue, WantedValue, check, list, name, number, volume}
use Rattle.adf_disk_cmd.specs.{declared.list_input.TheConstants.TABLES_LEN, declared.work.TheConstants.MOST_DISK_BYTES}
use Rattle.adf_disk_cmd.specs.declared.work.Sought.{Sought, TheVariants.Numbered, TheVariants.Named}
use Rattle.adf_disk_cmd.specs.declared.work.Work.{Work, TheVariants.List as ListAll, TheVariants.Check, TheVariants.Volume}

-- what is wanted, as the work keeps it
abbrev pub sought_value : Sought → WantedValue
sought_value (Numbered n) = number n
sought_value (Named text) = name (string_bytes text)

-- the work is that of a request
abbrev pub IsWorkOf : Work → DiskRequestValue → Type 0
IsWorkOf (ListAll json) r = r ≡ list json
IsWorkOf (Check json) r = r ≡ check json
IsWorkOf (Volume sought) r = r ≡ volume (sought_value sought)

-- what is held of an input: the blocks that may have tables, and behind them the bytes of the volume at q, and how many bytes are there
abbrev pub HoldsVolume : List ℕ → List ℕ → Place → List ℕ → ℕ → Type 0
HoldsVolume all tables q behind len =
    (tables ≡ take TABLES_LEN all)
    × IsExcerpt (q.first * 512 - TABLES_LEN) (end_of q * 512 - TABLES_LEN) (MOST_DISK_BYTES - TABLES_LEN + 1) (drop TABLES_LEN all) behind len
