use Rattle.std.proofs.Common.{◌≡◌, ◌-◌, ℕ, List, length}
use Rattle.adf_drafts.specs.ChildMap.{number_in}
use Rattle.adf_drafts.proofs.child_map.ChildMap.make_buckets.Given as goal

abbrev pub invariant-loop-alloc : goal.invariant-loop-alloc
invariant-loop-alloc l = (p : ℕ) (x : List ℕ) → number_in l.self.buckets.items p x ≡ number_in l.initial.self.buckets.items p x

abbrev pub decreases-loop-alloc : goal.decreases-loop-alloc
decreases-loop-alloc l = 1021 - length l.self.buckets.items
