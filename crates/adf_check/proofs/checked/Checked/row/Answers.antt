use Rattle.std.proofs.Common.{◌≡◌, ◌-◌, ◌∙◌, suc, ap, subst, sym, arith}
use Rattle.std.proofs.lemmas.Grind.{common_steps}
use Rattle.adf_base.specs.Words.{block}
use Rattle.adf_blocks.specs.HeadBlock.{IsHead}
use Rattle.adf_check.specs.Store.{store_value}
use Rattle.adf_volume.specs.Rows.{row_in}
use Rattle.adf_check.proofs.{FilePieces.past_entry, VolumeCounts.header_inside, NodeSteps.header_here, StoreStands.stands_as}
use Rattle.adf_check.proofs.RowLaws.{entry_told, header_is_head}
use Rattle.adf_check.proofs.checked.Checked.row.Goals as goal

pub block-requires : goal.block-requires
block-requires c =
    let found = c.in_ok-kept.ensures.lookup in
    header_inside c.self.invariant.tells (c.n.inside.0 - 1) c.in_ok-kept.kept.now (header_here _ _ _ c.deref.ensures.value found.3.0 found.1)

pub over-head-requires : goal.over-head-requires
over-head-requires c =
    let found = c.in_ok-kept.ensures.lookup in
    subst IsHead (sym c.block.ensures.block)
    (header_is_head c.self.invariant.tells (c.n.inside.0 - 1) c.in_ok-kept.kept.now (header_here _ _ _ c.deref.ensures.value found.3.0 found.1))

pub returns : goal.returns
returns c = λ letters t l fits.
    let kept = c.in_ok-kept.kept.now in
    let found = c.in_ok-kept.ensures.lookup in
    let node : c.args.n ≡ suc (c.n.inside.0 - 1) = omega (arith, c.n.view_is, c.if-n-eq0.false) in
    let told : c.row_of.result ≡ row_in kept.parent (block c.self.inside.image kept.head) =
    c.row_of.ensures ∙ ap (row_in kept.parent) (c.over-head.ensures ∙ c.block.ensures.block) in
    let here = stands_as c.self.invariant.tells c.self.view_is fits in
    entry_told c.self.inside.image (store_value c.self.inside.store) t.letters t l here
    c.args.n (c.n.inside.0 - 1) kept c.row_of.result node (header_here _ _ _ c.deref.ensures.value found.3.0 found.1) told

pub returns-in_err-kept : goal.returns-in_err-kept
returns-in_err-kept c = λ letters t l fits.
    let count = (stands_as c.self.invariant.tells c.self.view_is fits).headers.count in
    grind (arith, common_steps, past_entry, count)
