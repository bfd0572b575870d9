use Rattle.std.proofs.Common.{◌≡◌, arith, true}
use Rattle.std.proofs.lemmas.Grind.{common_steps}
use Rattle.adf_edits.proofs.IndexEdits.{nothing_in_file}
use Rattle.adf_edits.proofs.indexed.is_empty_at.Goals as goal

pub returns-then-is_file_at : goal.returns-then-is_file_at
returns-then-is_file_at c = λ _.
    let file : c.is_file_at.result ≡ true = grind (arith, common_steps) in
    nothing_in_file c.args.places.now c.args.path.now c.args.place c.requires (c.is_file_at.ensures file)
