use Rattle.std.proofs.Common.{inl, refl}
use Rattle.adf_cmd.specs.Answers.{BuildsOrIsFull}
use Rattle.adf_runs.proofs.Endings.{front_ends}
use Rattle.adf_cmd.proofs.AnswerLaws.{is_built}
use Rattle.adf_cmd.proofs.building.build_tree.Goals as goal

pub returns-in-Ok : goal.returns-in-Ok
returns-in-Ok g c =
    let e = c.in-Ok.ensures in
    front_ends c.in-Err.fault _ (BuildsOrIsFull c.args.lines c.args.tree.now c.args.blocks) _ c.after_writing.ensures c.in-Err.ensures.failed
    (_, inl (is_built _ _ _ e.bytes e.room e.size e.laid c.requires.letters e.fits, refl), rw (c.deref.ensures.value, e.bytes) at c.in-Err.ensures.err)
