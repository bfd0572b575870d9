use Rattle.std.proofs.Common.{arith, subst}
use Rattle.std.proofs.lemmas.Grind.{common_steps}
use Rattle.adf_edits.specs.Index.{IsIndexedAt, StandsAt}
use Rattle.adf_edits.proofs.IndexEdits.{change_step}
use Rattle.adf_edits.proofs.indexed.quick_change.Goals as goal

pub returns-in-Some-clause-step : goal.returns-in-Some-clause-step
returns-in-Some-clause-step c =
    let found : IsIndexedAt c.args.places.now c.in-Some.place c.args.path.now = record {
      whole = grind (arith, common_steps);
      sound = c.requires;
      entry = subst (StandsAt c.args.places.now.entries.items c.args.path.now) c.in-Some.is c.in_ok-place.ensures;
    } in
    (change_step c.args.places.now c.change.new.self c.args.path.now c.in-Some.place found c.change.ensures.rest c.args.change.now c.change.ensures.entries).0

pub returns-in-Some-clause-sound : goal.returns-in-Some-clause-sound
returns-in-Some-clause-sound c =
    let found : IsIndexedAt c.args.places.now c.in-Some.place c.args.path.now = record {
      whole = grind (arith, common_steps);
      sound = c.requires;
      entry = subst (StandsAt c.args.places.now.entries.items c.args.path.now) c.in-Some.is c.in_ok-place.ensures;
    } in
    (change_step c.args.places.now c.change.new.self c.args.path.now c.in-Some.place found c.change.ensures.rest c.args.change.now c.change.ensures.entries).1
