-- The dates of a volume, and the metadata of an entry. Its fields are named here, and in the code that reads and writes its block.
use Rattle.std.specs.Prelude.{◌<◌, ◌≤◌, ◌^◌, ℕ, List, length}
use Rattle.adf_base.specs.{Dates.IsStamp, declared.dates.Stamp.Stamp}
use Rattle.adf_names.specs.{declared.meta.Meta.Meta, declared.meta.Stamps.Stamps}

-- the metadata with this comment, these protection bits and this date
abbrev pub new_meta : List ℕ → ℕ → Stamp → Meta
new_meta comment protect stamp = record { comment = comment; protect = protect; stamp = stamp }

-- each field is within its bounds
pub record IsBoundedMeta (m : Meta) : Type 0 where
  pub comment : length m.comment ≤ 79
  pub protect : m.protect < 2 ^ 32
  pub stamp : IsStamp m.stamp

-- the numbers of a volume's three dates fit in 32 bits
pub record AreStamps (s : Stamps) : Type 0 where
  pub root : IsStamp s.root
  pub altered : IsStamp s.altered
  pub created : IsStamp s.created
