use Rattle.adf_edits.proofs.EditsKept.{edit_kept, outline_kept}
use Rattle.adf_edits.proofs.laws.edits_keep_room.Goals as goal

pub returns-clause-additions : goal.returns-clause-additions
returns-clause-additions c = edit_kept

pub returns-clause-outline : goal.returns-clause-outline
returns-clause-outline c = outline_kept
