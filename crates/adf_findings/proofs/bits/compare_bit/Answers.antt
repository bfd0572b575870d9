use Rattle.std.proofs.{Common.None, Common.refl, Common.sym, Common.subst, Common.map, lemmas.Result.on_ok_weaker}
use Rattle.adf_findings.specs.{declared.finding.Finding.Finding, Parts.finding_value, Found.BitTells}
use Rattle.adf_findings.proofs.BitSteps.{bit_tells, none_on, some_on}
use Rattle.adf_findings.proofs.bits.compare_bit.Goals as goal

pub returns-in-Some : goal.returns-in-Some
returns-in-Some c =
    let image = c.args.image.now in
    let f = c.args.found.now in
    let b = c.args.b in
    let x : Finding = record { part = None; block = b; cause = c.in-Some.cause } in
    on_ok_weaker c.note.result
    (λ same. some_on image f (map finding_value c.args.findings.now.items) b c.in-Some.cause x c.requires.low refl
    (λ s v st. subst (BitTells image s b) c.in-Some.is (subst (BitTells image s b) (sym c.bit_cause.ensures)
    (rw c.is_part.ensures
    (bit_tells image f s v st b c.args.is_free c.requires.inside c.requires.bit))))
    (map finding_value c.note.new.findings.items) same c.requires.reported)
    c.note.ensures

pub returns-in-None : goal.returns-in-None
returns-in-None c =
    let image = c.args.image.now in
    let f = c.args.found.now in
    let b = c.args.b in
    none_on image f (map finding_value c.args.findings.now.items) b c.requires.low
    (λ s v st. subst (BitTells image s b) c.in-None.is (subst (BitTells image s b) (sym c.bit_cause.ensures)
    (rw c.is_part.ensures
    (bit_tells image f s v st b c.args.is_free c.requires.inside c.requires.bit))))
    c.requires.reported
