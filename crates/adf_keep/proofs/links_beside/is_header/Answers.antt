use Rattle.std.proofs.Common.{◌≤◌, ◌∙◌, arith}
use Rattle.std.proofs.lemmas.Bool.Decides.{nat_tests}
use Rattle.adf_keep.proofs.LinksBeside.{placed_header, root_header}
use Rattle.adf_keep.proofs.links_beside.is_header.Goals as goal

pub returns-then-b-root_of : goal.returns-then-b-root_of
returns-then-b-root_of c = λ are yes. root_header c.args.x.now.volume.now c.args.b (c.if-b-root_of.true ∙ c.root_of.ensures)

pub returns-else-b-root_of : goal.returns-else-b-root_of
returns-else-b-root_of c = λ are yes.
    let low : 1 ≤ c.place_of_header.result.directory = grind (arith, nat_tests) in
    placed_header c.args.x.now.volume.now c.args.x.now.places.now c.args.b c.place_of_header.result are c.place_of_header.ensures low
