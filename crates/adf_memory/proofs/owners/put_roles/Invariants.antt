use Rattle.std.proofs.Common.{◌≡◌, ◌≤◌, ◌<◌, ℕ, length, slice_index}
use Rattle.adf_memory.specs.OwnerNumbers.{IsOwnerNumber}
use Rattle.adf_memory.proofs.owners.put_roles.Given as goal

abbrev pub invariant-loop-b : goal.invariant-loop-b
invariant-loop-b l = record {
  roles : (k : ℕ) → k < l.b → k < length l.roles → IsOwnerNumber l.volume k (slice_index l.roles k);
  behind : (k : ℕ) → l.b ≤ k → slice_index l.roles k ≡ slice_index l.initial.roles k;
}
