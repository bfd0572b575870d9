use Rattle.std.proofs.Common.{◌∙◌, arith}
use Rattle.std.proofs.{lemmas.Result.IfOk-weaker, lemmas.Grind.common_steps}
use Rattle.adf_manifest.proofs.StateLaws.{bare_tree, closed_tree, reading_letters}
use Rattle.adf_manifest.proofs.reader.finish.Goals as goal

pub returns-in-Preamble-clause-told : goal.returns-in-Preamble-clause-told
returns-in-Preamble-clause-told c = grind (arith, common_steps, IfOk-weaker, bare_tree)

pub returns-in_ok-close-in-Entries-clause-told : goal.returns-in_ok-close-in-Entries-clause-told
returns-in_ok-close-in-Entries-clause-told c = λ m w t.
    let g = rw c.in-Entries.is at t in
    let is = closed_tree c.in-Entries.reading m g.0 c.close.new.draft.tree g.1 (c.in_ok-close-in-Entries.ensures.tree g.0.last g.1.last g.1.room) in
    IfOk-weaker c.finished-in-Entries.result _ _ (λ r h. (h.0 ∙ is, h.1 ∙ g.1.blocks)) c.finished-in-Entries.ensures.told

pub close-requires-clause-letters : goal.close-requires-clause-letters
close-requires-clause-letters c = grind (arith, common_steps, reading_letters)
