use Rattle.adf_edits.proofs.IndexSteps.{sound_less}
use Rattle.adf_edits.proofs.index.Places.forget_key.Goals as goal

pub returns-clause-sound : goal.returns-clause-sound
returns-clause-sound c = λ whole.
    sound_less c.args.self.now c.remove_key.new.index c.args.key.now c.requires.sound c.requires.free c.remove_key.ensures whole
