use Rattle.std.proofs.Common.{◌≡◌, arith, true}
use Rattle.std.proofs.{lemmas.Grind.common_steps, lemmas.List.Elements.filter_passes}
use Rattle.adf_edits.specs.{Edits.is_within, Index.left_without, Index.standing}
use Rattle.adf_edits.proofs.{IndexEdits.sound_by, LeftPlaces.directory_step, LeftPlaces.indexed_left}
use Rattle.adf_edits.proofs.moves.move_directory.Goals as goal

pub push_moved-requires-clause-within : goal.push_moved-requires-clause-within
push_moved-requires-clause-within c =
    rw c.in_ok-within.ensures.taken (filter_passes (is_within c.args.from.now) (standing c.args.places.now.entries.items))

pub push_moved-requires-clause-sound : goal.push_moved-requires-clause-sound
push_moved-requires-clause-sound c = λ whole.
    sound_by c.args.places.now c.take_within.new.self (left_without c.args.from.now c.args.places.now.entries.items)
    (indexed_left c.args.from.now c.args.places.now.entries.items c.args.places.now.index (c.requires.found.sound c.requires.found.whole))
    c.in_ok-within.ensures.entries c.in_ok-within.ensures.rest

pub returns-clause-step : goal.returns-clause-step
returns-clause-step c =
    let has : c.in_ok-has_room_but.field-0 ≡ true = grind (arith, common_steps) in
    directory_step c.args.places.now c.args.place c.args.from.now c.args.to.now c.requires.found c.requires.apart (c.in_ok-has_room_but.ensures has)
    c.take_within.new.self.entries.items c.in_ok-within.ensures.entries c.in_ok-within.within.items c.in_ok-within.ensures.taken
    (standing c.push_moved.new.places.entries.items) c.in_ok-push_moved.ensures.standing
