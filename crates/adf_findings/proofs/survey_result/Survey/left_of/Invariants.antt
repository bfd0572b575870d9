use Rattle.std.proofs.Common.{◌≡◌, ◌/◌}
use Rattle.adf_blocks.specs.declared.layout.TheConstants.{POINTERS}
use Rattle.adf_findings.specs.{Files.member_from, Remains.bytes_left, Remains.named_below, Remains.gaps_left}
use Rattle.adf_findings.proofs.survey_result.Survey.left_of.Given as goal

abbrev pub invariant-loop-k : goal.invariant-loop-k
invariant-loop-k l =
    (l.member ≡ member_from l.image l.head (l.k / POINTERS))
    × (l.remains.bytes.items ≡ bytes_left l.image l.size (named_below l.end l.image l.self l.n l.head) l.k)
    × (l.remains.gaps.items ≡ gaps_left l.image l.size (named_below l.end l.image l.self l.n l.head) l.k)
