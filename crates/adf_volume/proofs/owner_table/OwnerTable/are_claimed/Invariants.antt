use Rattle.std.proofs.Common.{◌≡◌, ◌≤◌, ◌<◌, ℕ, IsTrue}
use Rattle.adf_volume.specs.KeptOwner.{is_claimed, kept_at}
use Rattle.adf_volume.proofs.owner_table.OwnerTable.are_claimed.Given as goal

abbrev pub invariant-loop-b : goal.invariant-loop-b
invariant-loop-b l = IsTrue l.all → (k : ℕ) → l.first ≤ k → k < l.b → is_claimed (kept_at l.self k) ≡ l.are_owned
