use Rattle.std.proofs.Common.{◌≡◌, ◌++◌, ◌∙◌, [], List, ℕ, None, Some, Option, ap, ap₂, option_copied, refl, subst, sym}
use Rattle.adf_disk_cmd.proofs.{HeldChecks.same_place, HeldTables.disk_of, HeldVolume.placed_ends, HeldVolume.unplaced_ends}
use Rattle.adf_disk_cmd.specs.{Answers.WritesVolume, Answers.found_place, Surveys.volume_at}
use Rattle.adf_partitions.specs.declared.partition.Partition.{Partition}
use Rattle.adf_runs.specs.Outcomes.{EndsBy}
use Rattle.adf_disk_cmd.proofs.copy_input.write_held.Goals as goal

pub returns-in-None-clause-ends : goal.returns-in-None-clause-ends
returns-in-None-clause-ends g c = λ all holds.
    let held = c.args.held.now in
    let u = c.args.disk.now.fault in
    let found : Option Partition = option_copied c.in-Ok.found in
    let at : found_place held.tables.items found ≡ None = sym (rw c.deref-2.ensures.value at c.found_place.ensures) ∙ c.in-None.is in
    subst (λ (f : Option Partition). EndsBy (WritesVolume (disk_of all) f u) c.write_beside.result (g.W.Sink.held c.args.output.now)
    (g.W.Sink.held c.write_beside.new.output)) (rw c.deref.ensures.value at c.in-Ok.ensures)
    (unplaced_ends all held.tables.items held.behind.bytes.items held.place held.behind.len c.requires.within holds found u [] _ _ _ at refl
    (rw c.is_whole-sound.ensures at c.write_beside.ensures.ends))

pub returns-in-Some-clause-ends : goal.returns-in-Some-clause-ends
returns-in-Some-clause-ends g c = λ all holds.
    let held = c.args.held.now in
    let u = c.args.disk.now.fault in
    let found : Option Partition = option_copied c.in-Ok.found in
    let here = same_place c.in-Some.place held.place (sym c.eq.ensures ∙ c.if-eq.true) in
    let at : found_place held.tables.items found ≡ Some held.place =
    sym (rw c.deref-2.ensures.value at c.found_place.ensures) ∙ (c.in-Some.is ∙ ap Some here) in
    let bytes : (c.volume_at-front.result.now ++ c.deref-in-Some-2.result.now) ≡ volume_at held.tables.items held.place ++ held.behind.bytes.items =
    ap₂ (λ (x y : List ℕ). x ++ y) (c.volume_at-front.ensures ∙ ap (λ (l : List ℕ). volume_at l held.place) c.deref-in-Some.ensures.value)
    c.deref-in-Some-2.ensures.value in
    subst (λ (f : Option Partition). EndsBy (WritesVolume (disk_of all) f u) c.write_beside-in-Some.result (g.W.Sink.held c.args.output.now)
    (g.W.Sink.held c.write_beside-in-Some.new.output)) (rw c.deref.ensures.value at c.in-Ok.ensures)
    (placed_ends all held.tables.items held.behind.bytes.items held.place held.behind.len c.requires.within holds found u _ _ _ _ at bytes
    (rw c.is_whole-sound.ensures at c.write_beside-in-Some.ensures.ends))
