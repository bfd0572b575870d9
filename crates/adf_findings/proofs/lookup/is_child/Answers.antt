use Rattle.std.proofs.Common.{◌∙◌, ◌≡◌, ap, refl, sym, arith}
use Rattle.std.specs.Str.{bytes_eq}
use Rattle.adf_names.specs.Texts.{uppers_by}
use Rattle.adf_findings.proofs.Lookups.{child_between, child_told}
use Rattle.adf_findings.proofs.lookup.is_child.Goals as goal

pub returns-in_default : goal.returns-in_default
returns-in_default c = λ w fs h. (
  (λ e. cc),
  (λ k.
      let b = child_between c.args.survey.now.image w fs h c.args.parent c.args.n c.args.name.now k in
      let some = (c.in_default.ensures.some w fs h).1 (omega (arith, b.0), b.1) in cc),
)

pub returns-then-up-parent : goal.returns-then-up-parent
returns-then-up-parent c = λ w fs h.
    let some = (c.in-Some.ensures.some w fs h).0 refl in
    let same : c.in-Some.up ≡ c.args.parent = sym c.up.view_is ∙ c.if-up-parent.true ∙ c.parent.view_is in
    let told = ap (λ l. bytes_eq (uppers_by l c.in-Some-name.text.now) (uppers_by l c.args.name.now)) c.letters.ensures in
    child_told c.args.survey.now.image w fs h c.args.parent c.args.n c.args.name.now c.in-Some-name.text.now c.matches_by.result c.in-Some.up
    some.0 some.1 (c.in-Some.ensures.parent w fs h) same (c.in-Some-name.ensures.name w fs h) (c.matches_by.ensures ∙ told)
