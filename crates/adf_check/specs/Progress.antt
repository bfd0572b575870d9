-- The progress of a check: how many blocks it may still claim.
use Rattle.std.specs.Prelude.{◌-◌, ℕ, length}
use Rattle.adf_volume.specs.KeptOwner.{claimed_count}
use Rattle.adf_check.specs.declared.store.Store.{Store}

-- the number of blocks that may still be claimed, plus two
abbrev pub left : Store → ℕ
left s = length s.owners - claimed_count s.owners
