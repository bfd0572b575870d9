use Rattle.std.proofs.Common.{◌≡◌, ◌+◌, length}
use Rattle.adf_keep.specs.Rescued.{IsBehind}
use Rattle.adf_keep.proofs.proposing.propose_headers.Given as goal

abbrev pub invariant-loop-header : goal.invariant-loop-header
invariant-loop-header l = IsBehind l.initial.entries.items l.entries.items × (length l.entries.items ≡ length l.initial.entries.items + l.header-index)
