use Rattle.std.proofs.Common.{◌≡◌, ◌∙◌, [], ap}
use Rattle.std.specs.{Option.unwrap_or, Global.Vec}
use Rattle.adf_manifest.specs.Items.{body_of_sort}
use Rattle.adf_manifest.proofs.StateLaws.{closed_is}
use Rattle.adf_manifest.proofs.reader.close.Goals as goal

pub returns-in-Ok-clause-tree : goal.returns-in-Ok-clause-tree
returns-in-Ok-clause-tree c = λ i is room.
    let o = c.args.last.now in
    let note : c.note_or_none.result ≡ unwrap_or o.note [] = c.note_or_none.ensures ∙ ap (λ n. unwrap_or n []) c.take.ensures.value in
    let body : c.body_of_sort-body.result ≡ body_of_sort o.sort o.bytes.items =
    c.body_of_sort-body.ensures ∙ ap (λ (v : Vec _). body_of_sort o.sort v.items) c.replace-bytes.ensures.value in
    rw c.new-meta.ensures at (c.in-Ok.ensures.tree i.path room)
    ∙ closed_is c.args.draft.now.tree o i c.note_or_none.result c.body_of_sort-body.result c.requires.letters is note body
