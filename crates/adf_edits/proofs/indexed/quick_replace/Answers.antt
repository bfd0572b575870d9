use Rattle.std.proofs.Common.{◌≡◌, arith, subst, true}
use Rattle.std.proofs.lemmas.Grind.{common_steps}
use Rattle.adf_edits.specs.Index.{IsIndexedAt, StandsAt}
use Rattle.adf_edits.proofs.IndexEdits.{replace_step}
use Rattle.adf_edits.proofs.indexed.quick_replace.Goals as goal

pub returns-in_ok-refill-in-Some-clause-step : goal.returns-in_ok-refill-in-Some-clause-step
returns-in_ok-refill-in-Some-clause-step c =
    let found : IsIndexedAt c.args.places.now c.in-Some.place c.args.path.now = record {
      whole = grind (arith, common_steps);
      sound = c.requires;
      entry = subst (StandsAt c.args.places.now.entries.items c.args.path.now) c.in-Some.is c.in_ok-place.ensures;
    } in
    let file : c.is_file_at.result ≡ true = grind (arith, common_steps) in
    (replace_step c.args.places.now c.refill.new.self c.args.path.now c.in-Some.place found c.in_ok-refill-in-Some.ensures.rest c.args.bytes.now
    (c.is_file_at.ensures file) c.in_ok-refill-in-Some.ensures.entries).0

pub returns-in_ok-refill-in-Some-clause-sound : goal.returns-in_ok-refill-in-Some-clause-sound
returns-in_ok-refill-in-Some-clause-sound c =
    let found : IsIndexedAt c.args.places.now c.in-Some.place c.args.path.now = record {
      whole = grind (arith, common_steps);
      sound = c.requires;
      entry = subst (StandsAt c.args.places.now.entries.items c.args.path.now) c.in-Some.is c.in_ok-place.ensures;
    } in
    let file : c.is_file_at.result ≡ true = grind (arith, common_steps) in
    (replace_step c.args.places.now c.refill.new.self c.args.path.now c.in-Some.place found c.in_ok-refill-in-Some.ensures.rest c.args.bytes.now
    (c.is_file_at.ensures file) c.in_ok-refill-in-Some.ensures.entries).1
