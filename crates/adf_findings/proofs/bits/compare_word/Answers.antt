use Rattle.std.proofs.Common.{◌≡◌, ◌+◌, ◌*◌, min, subst, arith, map}
use Rattle.adf_blocks.specs.Sizes.{blocks}
use Rattle.adf_findings.specs.{Bits.IsPageCompared, Parts.finding_value, Found.HasReportedOn}
use Rattle.adf_findings.proofs.BitSteps.{all_agreed, bit_compared, none_compared}
use Rattle.adf_findings.proofs.bits.compare_word.Goals as goal

pub returns-in_default : goal.returns-in_default
returns-in_default c =
    let image = c.args.image.now in
    let f = c.args.found.now in
    let hs = map finding_value c.args.findings.now.items in
    none_compared image f hs c.args.i (min (2 + 32 * (c.args.i + 1)) (blocks image)) (omega arith) (omega arith) c.requires.reported
    (subst (IsPageCompared image f.pages (2 + 32 * c.args.i)) c.in_default.is c.requires.page)

pub returns-then-agree : goal.returns-then-agree
returns-then-agree c =
    let image = c.args.image.now in
    let f = c.args.found.now in
    let hs = map finding_value c.args.findings.now.items in
    let i = c.args.i in
    let end : c.min-end.result ≡ min (2 + 32 * (i + 1)) (blocks image) = omega arith in
    let page = subst (IsPageCompared image f.pages (2 + 32 * i)) c.in-Some.is c.requires.page in
    subst (HasReportedOn image f hs) end
    (all_agreed image f hs i c.min-end.result (omega arith) (omega arith) c.requires.reported c.in-Some.at c.word-word.result c.word-word.ensures
    (omega arith) page (c.agree.ensures c.if-agree.true))

pub compare_bit-requires-clause-bit : goal.compare_bit-requires-clause-bit
compare_bit-requires-clause-bit c =
    let image = c.args.image.now in
    let i = c.args.i in
    let page = subst (IsPageCompared image c.args.found.now.pages (2 + 32 * i)) c.in-Some.is c.requires.page in
    bit_compared image c.args.found.now.pages i c.in-Some.at c.word-word.result c.word-word.ensures c.loop-b.b (omega arith) (omega arith)
    c.is_set.result page c.is_set.ensures

pub returns : goal.returns
returns c =
    let image = c.args.image.now in
    let end : c.loop-b.b ≡ min (2 + 32 * (c.args.i + 1)) (blocks image) = omega (arith, c.loop-b-test.false, c.loop-b.auto.b-end) in
    subst (HasReportedOn image c.args.found.now (map finding_value c.loop-b.findings.items)) end c.loop-b.invariant
