use Rattle.std.proofs.Common.{◌≡◌, ◌&&◌, List, Option, arith, length, subst, sym, true}
use Rattle.std.proofs.lemmas.Grind.{common_steps}
use Rattle.adf_tree.specs.Additions.{Addition}
use Rattle.adf_edits.specs.Index.{HasPlaceMore, IsIndexed, path_key}
use Rattle.adf_edits.proofs.IndexSteps.{sound_more}
use Rattle.adf_edits.proofs.index.Places.push.Goals as goal
use Rattle.adf_edits.proofs.index.Places.push.Goals.{then-self, else-self}

pub returns-clause-sound : goal.returns-clause-sound
returns-clause-sound c = λ whole.
    let key_is : c.in_ok-key.key.items ≡ path_key c.args.item.path = grind (arith, common_steps) in
    let put : HasPlaceMore c.args.self.now.index c.put_key.new.index c.in_ok-key.key (length c.args.self.now.entries.items) =
    grind (arith, common_steps) in
    let both : (c.args.self.now.is_whole && c.args.has_room) ≡ true =
    elim c.if-self.branch [ then-self w ↦ grind (arith, common_steps) | else-self w ↦ grind (arith, common_steps) ] in
    subst (λ (ps : List (Option Addition)). IsIndexed ps c.put_key.new.index) (sym c.in_ok-push.ensures.items)
    (sound_more c.args.self.now c.put_key.new.index c.args.item c.in_ok-key.key c.args.has_room c.requires.sound c.requires.room key_is put both)
