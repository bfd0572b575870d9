use Rattle.std.proofs.Common.{inl, inr, sym, ◌∙◌, arith}
use Rattle.std.proofs.lemmas.Grind.{common_steps}
use Rattle.adf_findings.proofs.CoursePlaces.{dir_begins, dir_there, file_there, nothing_there}
use Rattle.adf_findings.proofs.course.go_through_node.Goals as goal

pub go_through_dir-requires : goal.go_through_dir-requires
go_through_dir-requires c =
    let h = c.requires.at.1 in
    dir_begins c.args.node c.node_block-b.result h
    (dir_there h c.requires.some c.node_block-b.ensures
    (elim c.if-kind-eq-ST_DIR.either [ inl e ↦ inl e | inr e ↦ inr (sym c.word-kind.ensures ∙ e.1) ]))

pub go_through_exts-requires : goal.go_through_exts-requires
go_through_exts-requires c = grind (arith, common_steps, file_there)

pub returns-else-kind : goal.returns-else-kind
returns-else-kind c = grind (arith, common_steps, nothing_there)
