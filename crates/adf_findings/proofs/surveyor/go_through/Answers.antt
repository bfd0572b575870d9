use Rattle.std.proofs.Common.{Bool, map, not, ◌≡◌, ◌&&◌, ◌++◌, ◌∙◌, ℕ, List, ap, sym, subst}
use Rattle.std.specs.List.{filter}
use Rattle.adf_findings.specs.{declared.finding.Finding.Finding, Concerned.is_contested, Files.is_light, Marks.blamed, Marks.is_blamed, Marks.is_undoubted}
use Rattle.adf_findings.specs.{Members.has_mark, Parts.finding_value, Start.boot_findings, Start.root_findings, Survey.IsCourse.start, SurveyResult.IsOfSurvey}
use Rattle.adf_findings.proofs.{Begun.on_begun, Keeping.clear_marks, Keeping.copied, Keeping.read_kept, Keeping.read_told}
use Rattle.adf_findings.proofs.surveyor.go_through.Goals as goal

pub run-requires : goal.run-requires
run-requires c =
    let image = c.args.started.now.image in
    let bs = boot_findings c.args.started.now.boot in
    let rs = root_findings c.args.started.now.root in
    let told : map finding_value c.report_root.new.findings.items ≡ bs ++ rs =
    c.in_ok-report_root.ensures
    ∙ ap (λ fs. fs ++ rs) (c.in_ok-report_boot.ensures ∙ ap (λ (xs : List Finding). map finding_value xs ++ bs) c.new.ensures.items) in
    on_begun image (bs ++ rs) _ (sym told) (start c.requires.boot c.requires.root) c.in_ok-begin.ensures.stands c.begin.ensures.few

pub invariant_of-result : goal.invariant_of-result
invariant_of-result c =
    let image = c.args.started.now.image in
    let f = c.run.new.progress.found in
    let xs : List Finding = c.compare.new.findings.items in
    let ys : List Finding = c.in_ok-graves.graves.items in
    let entries = c.in_ok-concerned.concerned.items in
    let contested = c.in_ok-contested.contested.items in
    let base = c.in_ok-sound.sound.items in
    let copy = c.in_ok-whole.whole.items in
    let sound = c.strike_blamed.new.marks.items in
    let whole = c.strike_blamed-2.new.marks.items in
    let same : copy ≡ base = copied _ (λ x y h. h) base copy c.in_ok-whole.ensures.cases.0 in
    let undoubted = subst (λ (marks : List Bool). (m : ℕ) → has_mark marks m ≡ is_undoubted image f m) (sym same) c.in_ok-sound.ensures in
    let struck =
    subst (λ (xs : List Finding). (m : ℕ) → has_mark sound m ≡ (has_mark base m && not (is_blamed f xs m))) c.deref-3.ensures.value
    c.strike_blamed.ensures in
    let struck_whole =
    subst (λ (xs : List Finding). (m : ℕ) → has_mark whole m ≡ (has_mark copy m && not (is_blamed f xs m))) c.deref-5.ensures.value
    c.strike_blamed-2.ensures in
    subst (λ (image : List ℕ). IsOfSurvey (record {
      image = image;
      findings = xs;
      concerned = entries;
      owners = f.owners.owners;
      contested = contested;
      pages = f.pages.entries;
      nodes = f.nodes.items;
      parents = f.parents.items;
      places = f.places.items;
      sound = sound;
      whole = whole;
    }))
    (sym c.bytes.ensures)
    (read_kept image f xs ys entries contested sound whole c.in_ok-compare.ensures
    (c.in_ok-concerned.ensures ∙ ap (map (λ (x : Finding). blamed f x.part)) c.deref.ensures.value)
    (subst (λ (xs : List Finding). (b : ℕ) → has_mark contested b ≡ is_contested (map finding_value xs) b) c.deref-2.ensures.value
    c.in_ok-contested.ensures)
    (clear_marks image f xs base sound c.in_ok-sound.ensures struck)
    (c.in_ok-graves.ensures ∙ ap (filter (λ (x : Finding). not (is_light (finding_value x)))) c.deref-4.ensures.value)
    (clear_marks image f ys copy whole undoubted struck_whole))

pub returns-clause-findings : goal.returns-clause-findings
returns-clause-findings c =
    read_told c.args.started.now.image c.run.new.progress.found (map finding_value c.compare.new.findings.items) c.in_ok-compare.ensures
