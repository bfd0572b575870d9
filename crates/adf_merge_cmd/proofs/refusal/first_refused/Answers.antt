use Rattle.std.proofs.Common.{rules, ◌≡◌, ◌∙◌, ◌<◌, ℕ, Bool, List, false, true, not, ap, arith, get_or, inl, inr, length, refl, subst, sym}
use Rattle.std.proofs.{lemmas.Bool.cases_lt, lemmas.List.get_or_default}
use Rattle.adf_merge_cmd.specs.Answers.{is_alike}
use Rattle.adf_merge_cmd.proofs.refusal.first_refused.Goals as goal

not_refused : (b : Bool) → false ≡ not b → b ≡ true
not_refused true e = refl
not_refused false e = cc

pub loop-i-preserved : goal.loop-i-preserved
loop-i-preserved c = λ k r lt.
    let rs : List (List ℕ) = c.args.readings.now in
    let within : c.loop-i.i < length rs = search rules in
    let at : c.bytes.result.now ≡ get_or rs c.loop-i.i r =
    c.bytes.ensures ∙ (c.index-readings-i.is ∙ get_or_default rs c.loop-i.i c.index-readings-i.result r within) in
    let here : is_alike c.args.first.now (get_or rs c.loop-i.i r) ≡ true =
    subst (λ x. is_alike c.args.first.now x ≡ true) at (not_refused _ c.in_default.ensures) in
    elim (cases_lt k c.loop-i.i) [
      | inl less ↦ c.loop-i.invariant k r less
      | inr past ↦ let same : c.loop-i.i ≡ k = omega (arith, lt, past) in subst (λ j. is_alike c.args.first.now (get_or rs j r) ≡ true) same here
    ]
