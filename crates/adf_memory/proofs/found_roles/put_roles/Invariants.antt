use Rattle.std.proofs.Common.{◌≡◌, ◌≤◌, ℕ, slice_index}
use Rattle.adf_memory.proofs.found_roles.put_roles.Given as goal

abbrev pub invariant-loop-b : goal.invariant-loop-b
invariant-loop-b l = record { behind : (k : ℕ) → l.b ≤ k → slice_index l.roles k ≡ slice_index l.initial.roles k }
