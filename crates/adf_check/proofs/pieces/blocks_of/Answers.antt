use Rattle.std.proofs.Common.{ap, sym, ◌∙◌, arith}
use Rattle.adf_blocks.specs.Sizes.{count}
use Rattle.adf_volume.specs.Image.{kind_of}
use Rattle.adf_check.proofs.{HeaderBodies.dir_type, HeaderBodies.file_words, StoreStands.stands}
use Rattle.adf_check.proofs.FilePieces.{data_count_is, dir_datas, is_entry, past_datas, root_datas}
use Rattle.adf_check.proofs.pieces.blocks_of.Goals as goal

pub returns-then-n-eq0 : goal.returns-then-n-eq0
returns-then-n-eq0 c = λ letters t l fits. root_datas l c.args.n c.n.inside.0 c.n.view_is c.if-n-eq0.true

pub returns-then-len-n : goal.returns-then-len-n
returns-then-len-n c = λ letters t l fits. past_datas (stands c.requires fits) c.args.n (omega (arith, c.n.view_is, c.if-len-n.true, c.len.ensures))

pub datas_of-requires-clause-size : goal.datas_of-requires-clause-size
datas_of-requires-clause-size c = λ letters t l fits.
    let file = file_words c.args.image.now c.block_of.result c.body.ensures.body c.in-File.is in
    data_count_is (is_entry c.block_of.ensures.block c.n.view_is c.if-n-eq0.false (omega (arith, c.n.view_is, c.if-len-n.false, c.len.ensures))) t.letters t l
    (stands c.requires fits) file.0 ∙ ap (count (kind_of c.args.image.now)) (sym file.1)

pub returns-in-Dir : goal.returns-in-Dir
returns-in-Dir c = λ letters t l fits.
    dir_datas (is_entry c.block_of.ensures.block c.n.view_is c.if-n-eq0.false (omega (arith, c.n.view_is, c.if-len-n.false, c.len.ensures))) t.letters t l
    (stands c.requires fits) (dir_type c.args.image.now c.block_of.result c.body.ensures.body c.in-Dir.is)
