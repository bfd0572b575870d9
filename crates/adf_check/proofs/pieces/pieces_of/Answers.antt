use Rattle.std.proofs.lemmas.Grind.{common_steps}
use Rattle.std.proofs.Common.{length, ap, sym, ◌∙◌, arith}
use Rattle.adf_blocks.specs.Sizes.{count}
use Rattle.adf_volume.specs.Image.{kind_of}
use Rattle.adf_volume.proofs.PieceBytes.{pieces_length}
use Rattle.adf_check.proofs.{HeaderBodies.dir_type, HeaderBodies.file_words, StoreStands.stands}
use Rattle.adf_check.proofs.FilePieces.{data_count_is, dir_bytes, dir_pieces, is_entry, made_exact, made_inside, made_joined, made_some, past_entry}
use Rattle.adf_check.proofs.pieces.pieces_of.Goals as goal

pub returns-in_default-clause-joined : goal.returns-in_default-clause-joined
returns-in_default-clause-joined c = λ letters t l fits.
    dir_bytes (is_entry c.block_of-head.ensures.block c.n.view_is c.if-n-eq0.false (omega (arith, c.n.view_is, c.if-len-n.false, c.len.ensures))) t.letters t l
    (stands c.requires fits) (dir_type c.args.image.now c.block_of-head.result c.body.ensures.body c.in_default.is)

pub returns-in_default-clause-exact : goal.returns-in_default-clause-exact
returns-in_default-clause-exact c = λ letters t l fits.
    dir_pieces (is_entry c.block_of-head.ensures.block c.n.view_is c.if-n-eq0.false (omega (arith, c.n.view_is, c.if-len-n.false, c.len.ensures))) t.letters t l
    (stands c.requires fits) (dir_type c.args.image.now c.block_of-head.result c.body.ensures.body c.in_default.is)

pub datas_of-datas-requires-clause-size : goal.datas_of-datas-requires-clause-size
datas_of-datas-requires-clause-size c = λ letters t l fits.
    let file = file_words c.args.image.now c.block_of-head.result c.body.ensures.body c.in-File.is in
    data_count_is (is_entry c.block_of-head.ensures.block c.n.view_is c.if-n-eq0.false (omega (arith, c.n.view_is, c.if-len-n.false, c.len.ensures)))
    t.letters t l (stands c.requires fits) file.0 ∙ ap (count (kind_of c.args.image.now)) (sym file.1)

pub new-requires : goal.new-requires
new-requires c =
    let file = file_words c.args.image.now c.block_of-head.result c.body.ensures.body c.in-File.is in
    made_inside (is_entry c.block_of-head.ensures.block c.n.view_is c.if-n-eq0.false (omega (arith, c.n.view_is, c.if-len-n.false, c.len.ensures)))
    c.requires
    file.0 c.bytes.ensures.bytes c.kind.ensures.kind file.1
    c.datas_of-datas.ensures (omega arith)

pub returns : goal.returns
returns c =
    let file = file_words c.args.image.now c.block_of-head.result c.body.ensures.body c.in-File.is in
    let entry = is_entry c.block_of-head.ensures.block c.n.view_is c.if-n-eq0.false (omega (arith, c.n.view_is, c.if-len-n.false, c.len.ensures)) in
    record {
      exact =
          made_exact entry c.requires file.0 c.bytes.ensures.bytes c.kind.ensures.kind file.1 c.datas_of-datas.ensures c.new.ensures;
      joined =
          made_joined entry c.requires file.0 c.bytes.ensures.bytes c.kind.ensures.kind file.1 c.datas_of-datas.ensures c.new.ensures;
      one_each = (λ letters t l fits. ap length c.new.ensures ∙ pieces_length c.bytes.result.now c.kind.result c.in-File.size 1 c.datas_of-datas.result.now
          ∙ ap length (c.datas_of-datas.ensures letters t l fits));
      some = made_some entry c.requires file.0 c.bytes.ensures.bytes c.kind.ensures.kind file.1 c.datas_of-datas.ensures c.new.ensures;
    }

pub returns-then-n-eq0-clause-exact : goal.returns-then-n-eq0-clause-exact
returns-then-n-eq0-clause-exact c = λ letters t l fits.
    grind (arith, common_steps, past_entry, (stands c.requires fits).headers.count)

pub returns-then-n-eq0-clause-joined : goal.returns-then-n-eq0-clause-joined
returns-then-n-eq0-clause-joined c = λ letters t l fits.
    grind (arith, common_steps, past_entry, (stands c.requires fits).headers.count)
