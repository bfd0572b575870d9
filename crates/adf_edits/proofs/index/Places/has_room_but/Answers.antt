use Rattle.std.proofs.Common.{◌≡◌, arith, true}
use Rattle.std.proofs.lemmas.Grind.{common_steps}
use Rattle.adf_edits.proofs.LeftPlaces.{rooted_left}
use Rattle.adf_edits.proofs.index.Places.has_room_but.Goals as goal

pub returns-in_ok-is_free_but : goal.returns-in_ok-is_free_but
returns-in_ok-is_free_but c = λ room.
    let is : c.in_ok-is_rooted.field-0 ≡ true = grind (arith, common_steps) in
    record {
      rooted = rooted_left c.args.from.now c.args.to.now c.args.self.now.entries.items c.requires (c.in_ok-is_rooted.ensures is);
      free = c.in_ok-is_free_but.ensures room;
    }
