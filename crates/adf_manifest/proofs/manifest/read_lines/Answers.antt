use Rattle.std.proofs.Common.{arith, option_map, ap, length-append, List, ℕ, Bor, Option, ◌∙◌}
use Rattle.std.proofs.lemmas.Grind.{common_steps}
use Rattle.adf_manifest.specs.Manifest.{manifest_lines, lines_behind}
use Rattle.adf_manifest.proofs.ManifestLaws.{one_more_line, parts_few}
use Rattle.adf_manifest.proofs.manifest.read_lines.Goals as goal

pub overflow_add-number : goal.overflow_add-number
overflow_add-number c = grind (arith, common_steps, length-append, option_map, parts_few c.args.text.now)

pub loop-left-preserved : goal.loop-left-preserved
loop-left-preserved c =
    let so_far = c.loop-left.invariant in
    let more = c.in-Ok-next_state.ensures.lines so_far.0 so_far.1 so_far.2 in
    let behind : Option (Bor (List ℕ)) → List (List ℕ) = λ o. lines_behind (option_map (λ rest. rest.now) o) in
    let left = ap behind c.in-Some.is ∙ c.next_line-in-Some.ensures in
    let read = one_more_line (manifest_lines so_far.0) (manifest_lines more.0) (behind c.loop-left.left) (behind c.next_line-in-Some.result.1)
    c.next_line-in-Some.result.0.now c.loop-left.number so_far.3 so_far.4 left more.3 in
    (more.0, more.1, more.2, read.0, read.1)
