use Rattle.std.proofs.Common.{◌≡◌, ◌&&◌, ◌+◌, ◌∙◌, arith, drop, subst}
use Rattle.std.proofs.{lemmas.List.drop_all, lemmas.Grind.common_steps}
use Rattle.adf_disk_cmd.proofs.CheckedVolumes.{Continues, ended, split_at, stepped}
use Rattle.adf_disk_cmd.proofs.checking.check_partitions.Goals as goal
use Rattle.adf_disk_cmd.proofs.checking.check_partitions.Goals.{then-sound, else-sound}

pub loop-partition-preserved : goal.loop-partition-preserved
loop-partition-preserved c = λ all knows.
    let ps = c.args.partitions.now in
    let i = c.loop-partition.partition-index in
    let p = c.partition-item.result in
    let one = c.in_ok-answer.answer.sound in
    let split = split_at ps i p c.loop-partition-test.true c.partition-item.is in
    let before = subst (λ left. Continues all ps left c.loop-partition.sound) split (c.loop-partition.invariant all knows) in
    let sound : c.if-sound.sound ≡ (c.loop-partition.sound && one) =
    elim c.if-sound.branch [ then-sound w ↦ rw w.if-sound.true w.sound-is | else-sound w ↦ rw w.if-sound.false (w.sound-is ∙ w.if-sound.false) ] in
    stepped all ps (drop (i + 1) ps) p c.loop-partition.sound one c.if-sound.sound before (c.in_ok-answer.ensures all knows) sound

pub returns : goal.returns
returns c = grind (arith, common_steps, drop_all, ended)
