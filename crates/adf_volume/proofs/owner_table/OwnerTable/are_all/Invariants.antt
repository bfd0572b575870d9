use Rattle.std.proofs.Common.{◌≡◌, ◌≤◌, ◌<◌, ◌↔◌, ℕ, IsTrue}
use Rattle.adf_volume.specs.KeptOwner.{kept_at, no_owner}
use Rattle.adf_volume.proofs.owner_table.OwnerTable.are_all.Given as goal

abbrev pub invariant-loop-b : goal.invariant-loop-b
invariant-loop-b l = record {
  all : IsTrue l.all ↔ ((k : ℕ) → l.first ≤ k → k < l.b → IsTrue l.is_free ↔ (kept_at l.self k ≡ no_owner));
  inside : l.first < l.b → l.b ≤ l.end;
}
