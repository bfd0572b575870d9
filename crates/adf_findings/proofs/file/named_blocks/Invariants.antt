use Rattle.std.proofs.Common.{◌≡◌, ◌/◌, ◌≤◌}
use Rattle.adf_blocks.specs.declared.layout.TheConstants.{POINTERS}
use Rattle.adf_findings.specs.Files.{member_from, names_from}
use Rattle.adf_findings.proofs.file.named_blocks.Given as goal

abbrev pub invariant-loop-k : goal.invariant-loop-k
invariant-loop-k l =
    (l.blocks.items ≡ names_from l.image l.head l.k) × (l.member ≡ member_from l.image l.head (l.k / POINTERS)) × (l.k ≤ l.k-end)
