use Rattle.std.proofs.Common.{◌≡◌, length, take, drop, ap, sym, ◌∙◌}
use Rattle.std.proofs.lemmas.List.{nil_from_length}
use Rattle.adf_blocks.specs.Sizes.{count}
use Rattle.adf_volume.specs.{Layout.datas_of, Made.layout_in, Made.tree_in_by, Image.letters_of}
use Rattle.adf_check.specs.Store.{store_value}
use Rattle.adf_check.proofs.{StoreStands.keeps, StoreStands.stands, FilePieces.part_inside, FilePieces.part_is}
use Rattle.adf_check.proofs.pieces.datas_of.Goals as goal

pub part-requires : goal.part-requires
part-requires c =
    let tells = c.requires.tells in
    let k = keeps c.args.image.now (store_value c.args.store.now) tells in
    let long = c.requires.size (letters_of c.args.image.now) (tree_in_by (letters_of c.args.image.now) c.args.image.now tells.walk) (layout_in tells.walk) tells.fits in
    rw c.deref.ensures.value
    (part_inside k c.args.size c.requires.node c.n.view_is c.index.ensures long c.kind.ensures.kind c.count_of-count.ensures c.if-count-eq0.false)

pub returns : goal.returns
returns c = λ letters t l fits.
    c.part.ensures ∙ ap (λ ds. take c.count_of-count.result (drop c.index.result.now.datas ds)) c.deref.ensures.value
    ∙ part_is (stands c.requires.tells fits) c.args.size c.requires.node c.n.view_is c.index.ensures (c.requires.size letters t l fits) c.kind.ensures.kind c.count_of-count.ensures

pub returns-then-count-eq0 : goal.returns-then-count-eq0
returns-then-count-eq0 c = λ letters t l fits.
    let none : length (datas_of l c.args.n) ≡ 0 =
    c.requires.size letters t l fits ∙ ap (λ kind. count kind c.args.size) (sym c.kind.ensures.kind) ∙ sym c.count_of-count.ensures ∙ c.if-count-eq0.true in
    sym (nil_from_length (datas_of l c.args.n) none)
