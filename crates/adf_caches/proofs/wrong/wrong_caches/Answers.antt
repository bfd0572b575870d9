use Rattle.std.proofs.Common.{[], ◌∙◌, ap, sym}
use Rattle.adf_caches.specs.Caches.{has_caches}
use Rattle.adf_caches.proofs.Wrongness.{all_judged, none_judged}
use Rattle.adf_caches.proofs.wrong.wrong_caches.Goals as goal

pub returns-clause-wrong : goal.returns-clause-wrong
returns-clause-wrong c = λ w fs survey d.
    let image = c.args.survey.now.image in
    let none = c.in_ok-marks.marks in
    let ensures = c.in_ok-marks.ensures in
    let start = none_judged image w 0 none none [] ensures.blocks (ensures.entries w fs survey) ensures.free ensures.unnamed in
    let caches = sym (ap has_caches c.image.ensures) ∙ (sym c.has_caches.ensures ∙ c.if-not-has_caches.false) in
    all_judged image w c.judge_each.new.marks c.in_ok-wrong.wrong.items c.mark_lacking.new.wrong.items (c.in_ok-wrong.ensures w fs survey start)
    (c.mark_lacking.ensures w fs survey) caches d

pub returns-clause-size : goal.returns-clause-size
returns-clause-size c = λ w fs survey.
    let none = c.in_ok-marks.marks in
    let ensures = c.in_ok-marks.ensures in
    let start = none_judged c.args.survey.now.image w 0 none none [] ensures.blocks (ensures.entries w fs survey) ensures.free ensures.unnamed in
    let judged = c.in_ok-wrong.ensures w fs survey start in
    let lacking = c.mark_lacking.ensures w fs survey in
    lacking.size ∙ judged.size
