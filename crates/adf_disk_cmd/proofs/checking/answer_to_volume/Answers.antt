use Rattle.std.proofs.Common.{◌∙◌, List, ℕ, IfOk, ap, refl, subst, sym, arith, length, option_copied}
use Rattle.adf_disk_cmd.proofs.{HeldChecks.found_answer, HeldVolume.whole_volume}
use Rattle.adf_disk_cmd.specs.Checks.{IsVolumeAnswer}
use Rattle.adf_disk_cmd.proofs.checking.answer_to_volume.Goals as goal

pub returns-in_ok-line-in-Some : goal.returns-in_ok-line-in-Some
returns-in_ok-line-in-Some c = λ all knows.
    found_answer all c.args.checked.now c.args.place c.in-Some.volume.now
    (record { sound = c.in-Some.volume.now.answer.sound; line = c.in_ok-line-in-Some.line })
    (sym c.volume_checked.ensures ∙ ap option_copied c.in-Some.is) knows.answered refl c.in_ok-line-in-Some.ensures.cases

pub returns-else-volume-saturating_mul : goal.returns-else-volume-saturating_mul
returns-else-volume-saturating_mul c = λ all knows.
    let same = whole_volume all c.args.bytes.now knows.count c.args.place knows.front
    (omega (arith, c.saturating_mul.ensures, c.volume_at-volume.type_inv, ap length c.volume_at-volume.ensures)) in
    subst (λ (l : List ℕ). IfOk c.verdict_of.result (IsVolumeAnswer l)) (c.volume_at-volume.ensures ∙ same) c.verdict_of.ensures
