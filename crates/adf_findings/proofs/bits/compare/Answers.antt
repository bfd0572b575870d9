use Rattle.std.proofs.Common.{◌≡◌, ◌+◌, ◌-◌, ◌*◌, ◌/◌, min, refl, subst, arith, map}
use Rattle.adf_blocks.specs.{declared.layout.TheConstants.PAGE_BITS, Sizes.blocks}
use Rattle.adf_findings.specs.{Parts.finding_value, Found.HasReportedOn}
use Rattle.adf_findings.proofs.BitSteps.{page_on, reported_first, reported_last}
use Rattle.adf_findings.proofs.bits.compare.Goals as goal

pub loop-i-init : goal.loop-i-init
loop-i-init c =
    let image = c.args.image.now in
    let hs = map finding_value c.args.findings.now.items in
    let first : 2 ≡ min (2 + 32 * 0) (blocks image) = (let e = c.blocks-2.ensures.blocks in let many = c.blocks-2.ensures.many in omega arith) in
    record {
      reported = subst (HasReportedOn image c.args.found.now hs) first (reported_first image c.args.found.now hs c.requires);
      page = λ inner. absurd (inner refl);
    }

pub compare_word-requires-clause-reported : goal.compare_word-requires-clause-reported
compare_word-requires-clause-reported c =
    let image = c.args.image.now in
    let inside : min (2 + 32 * c.loop-i.i) (blocks image) ≡ 2 + 32 * c.loop-i.i = omega arith in
    subst (HasReportedOn image c.args.found.now (map finding_value c.loop-i.findings.items)) inside c.loop-i.invariant.reported

pub loop-i-preserved : goal.loop-i-preserved
loop-i-preserved c = record {
  reported = c.in_ok-compare_word.ensures;
  page = λ inner.
      let image = c.args.image.now in
      let i = c.loop-i.i in
      let same : (2 + 32 * i - 2) / PAGE_BITS ≡ (2 + 32 * (i + 1) - 2) / PAGE_BITS = omega arith in
      page_on image c.args.found.now.pages (2 + 32 * i) (2 + 32 * (i + 1)) c.page_of-page.result same c.page_of-page.ensures;
}

pub returns : goal.returns
returns c =
    let image = c.args.image.now in
    let end : min (2 + 32 * c.loop-i.i) (blocks image) ≡ blocks image = omega arith in
    reported_last image c.args.found.now (map finding_value c.loop-i.findings.items) (min (2 + 32 * c.loop-i.i) (blocks image)) end c.loop-i.invariant.reported
