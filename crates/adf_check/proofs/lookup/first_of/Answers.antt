use Rattle.std.proofs.Common.{◌≡◌, ◌≢◌, ◌+◌, map, ap, subst, sym, ◌∙◌}
use Rattle.adf_blocks.specs.declared.layout.TheConstants.{FIRST_SLOT, NEXT_IN_CHAIN, SECONDARY_TYPE, ST_DIR}
use Rattle.adf_base.specs.Words.{word}
use Rattle.adf_volume.specs.{Image.word_in, Layout.at_node, Layout.chain_nodes_by, Lists.Spelled}
use Rattle.adf_check.proofs.{HeaderBodies.dir_type, HeaderBodies.file_words, ChainLookups.directory_chain, ChainLookups.file_chain, StoreStands.stands}
use Rattle.adf_check.proofs.lookup.first_of.Goals as goal
use Rattle.adf_check.proofs.lookup.first_of.Goals.{in_default-via-in-File+else-parent-ne0, in_default-via-in_default}

pub returns-in-File : goal.returns-in-File
returns-in-File c = λ letters t l fits.
    let image = c.args.image.now in
    let up : c.block_of-up.result ≡ at_node image l c.args.parent = c.block_of-up.ensures.block letters t l fits in
    let told = file_words c.args.image.now c.block_of-up.result c.body.ensures.body c.in-File.is in
    file_chain (stands c.requires.tells fits) c.args.parent c.args.slot (λ z. c.if-parent-ne0.true (c.parent.view_is ∙ z))
    (subst (λ b. word_in image b SECONDARY_TYPE ≢ ST_DIR) up told.0)

pub returns-in_default : goal.returns-in_default
returns-in_default c = λ letters t l fits.
    let image = c.args.image.now in
    let up : c.block_of-up.result ≡ at_node image l c.args.parent = c.block_of-up.ensures.block letters t l fits in
    let type : c.args.parent ≢ 0 → word_in image (at_node image l c.args.parent) SECONDARY_TYPE ≡ ST_DIR = λ ne. elim c.in_default.branch [
      | in_default-via-in-File+else-parent-ne0 w ↦ absurd (ne (sym c.parent.view_is ∙ w.if-parent-ne0.false))
      | in_default-via-in_default w ↦ subst (λ b. word_in image b SECONDARY_TYPE ≡ ST_DIR) up
          (dir_type c.args.image.now c.block_of-up.result c.body.ensures.body w.in_default.is)
    ] in
    let slot : c.slot.result ≡ word_in image (at_node image l c.args.parent) (FIRST_SLOT + c.args.slot) =
    c.slot.ensures ∙ ap (λ b. word b (FIRST_SLOT + c.args.slot)) c.directory.ensures ∙ ap (λ b. word_in image b (FIRST_SLOT + c.args.slot)) up in
    subst (λ w. Spelled (λ b. word_in image b NEXT_IN_CHAIN) w (map (at_node image l) (chain_nodes_by t.letters t c.args.parent c.args.slot))) (sym slot)
    (directory_chain (stands c.requires.tells fits) c.args.parent c.args.slot c.requires.slot c.requires.node type)
