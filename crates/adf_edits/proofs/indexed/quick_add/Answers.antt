use Rattle.std.proofs.Common.{◌≡◌, arith, subst, true}
use Rattle.std.proofs.lemmas.Grind.{common_steps}
use Rattle.adf_edits.specs.Index.{HasRoom}
use Rattle.adf_edits.proofs.IndexEdits.{add_step}
use Rattle.adf_edits.proofs.indexed.quick_add.Goals as goal

pub returns-clause-step : goal.returns-clause-step
returns-clause-step c =
    let path : c.deref-else-is_deep.result.now ≡ c.args.item.path = grind (arith, common_steps) in
    let has : c.in_ok-has_room.field-0 ≡ true = grind (arith, common_steps) in
    let room : HasRoom c.args.places.now c.args.item.path = subst (HasRoom c.args.places.now) path (c.in_ok-has_room.ensures has) in
    let whole : c.args.places.now.is_whole ≡ true = grind (arith, common_steps) in
    add_step c.args.places.now c.push.new.self c.args.item c.requires whole room c.in_ok-push.ensures.entry
