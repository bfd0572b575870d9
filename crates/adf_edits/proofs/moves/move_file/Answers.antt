use Rattle.std.proofs.Common.{◌≡◌, ◌∙◌, ◌++◌, ◌∷◌, [], List, Option, Some, ap, arith, subst, sym, true}
use Rattle.std.proofs.lemmas.Grind.{common_steps}
use Rattle.adf_tree.specs.Additions.{Addition}
use Rattle.adf_edits.specs.Index.{HasRoom, standing}
use Rattle.adf_edits.proofs.IndexEdits.{move_step, put_back_is, put_back_sound, room_moved, taken_sound}
use Rattle.adf_edits.proofs.moves.move_file.Goals as goal

pub returns-then-is_deep-clause-step : goal.returns-then-is_deep-clause-step
returns-then-is_deep-clause-step c =
    ap standing (put_back_is c.args.places.now c.take.new.self c.args.from.now c.args.place c.requires.found c.in-Some.ensures.rest
    c.requires.file c.in-Some.ensures.entries c.in-Some.item c.in-Some.ensures.item c.args.to.now c.put_back.new.self.entries.items c.put_back.ensures.entries)

pub returns-then-is_deep-clause-sound : goal.returns-then-is_deep-clause-sound
returns-then-is_deep-clause-sound c =
    put_back_sound c.args.places.now c.take.new.self c.args.from.now c.args.place c.requires.found c.in-Some.ensures.rest
    c.requires.file c.in-Some.ensures.entries c.in-Some.item c.in-Some.ensures.item c.args.to.now c.put_back.new.self
    c.put_back.ensures.entries c.put_back.ensures.rest

pub push-requires-clause-room : goal.push-requires-clause-room
push-requires-clause-room c = λ t.
    let has : c.in_ok-has_room.field-0 ≡ true = grind (arith, common_steps) in
    subst (λ (y : Addition). HasRoom c.take.new.self y.path) (sym c.in_ok-item.ensures)
    (room_moved c.args.places.now c.take.new.self c.args.from.now c.args.place c.requires.found c.in-Some.ensures.rest
    c.requires.file c.in-Some.ensures.entries c.in-Some.item c.in-Some.ensures.item c.args.to.now (c.in_ok-has_room.ensures has))

pub push-requires-clause-sound : goal.push-requires-clause-sound
push-requires-clause-sound c =
    taken_sound c.args.places.now c.take.new.self c.args.from.now c.args.place c.requires.found c.in-Some.ensures.rest c.requires.file
    c.in-Some.ensures.entries

pub returns-clause-step : goal.returns-clause-step
returns-clause-step c =
    let has : c.in_ok-has_room.field-0 ≡ true = grind (arith, common_steps) in
    let same : c.forget.new.self.entries.items ≡ c.push.new.self.entries.items = grind (arith, common_steps) in
    move_step c.args.places.now c.take.new.self c.args.from.now c.args.place c.requires.found c.in-Some.ensures.rest
    c.requires.file c.in-Some.ensures.entries c.in-Some.item c.in-Some.ensures.item c.args.to.now
    (c.in_ok-has_room.ensures has) c.push.new.self.entries.items
    (c.in_ok-push.ensures.entry ∙ ap (λ (y : Addition). c.take.new.self.entries.items ++ Some y ∷ []) c.in_ok-item.ensures)
    ∙ ap (λ (qs : List (Option Addition)). Some (standing qs)) (sym same)
