use Rattle.std.proofs.Common.{ap, suc, sym, ◌∙◌, refl, ◌++◌, ◌/◌, ◌%◌, get_or, drop, length-take, length-drop, arith}
use Rattle.std.proofs.lemmas.List.{take_rest}
use Rattle.adf_volume.specs.Image.{area, joined}
use Rattle.adf_memory.specs.Areas.{front_blocks}
use Rattle.adf_memory.proofs.TableBytes.{area_size, bytes_here}
use Rattle.adf_memory.proofs.reading.part_at.Goals as goal

pub returns-clause-part : goal.returns-clause-part
returns-clause-part c =
    let size = c.chunk_len-size.result in
    let held = c.area.result.now in
    let rest = joined c.args.image.now c.args.kind (front_blocks c.args.image.now (drop (suc (c.args.at / size)) c.args.datas.now)) in (
      rest,
      bytes_here c.args.image.now c.args.datas.now held c.args.kind c.args.at size c.chunk_len-size.ensures.exact (omega arith)
          (c.in_ok-block.ensures.whole.0 refl) (c.area.ensures ∙ ap (area c.args.kind) c.in_ok-block.ensures.bytes)
          ∙ ap (λ xs. xs ++ rest) (sym (take_rest held (c.args.at % size))),
    )

pub slice_bounds-result-count : goal.slice_bounds-result-count
slice_bounds-result-count c =
    omega (
      arith,
      area_size c.args.image.now c.area.result.now c.in_ok-block.block c.args.kind (get_or c.args.datas.now (c.args.at / c.chunk_len-size.result) 0)
          c.chunk_len-size.result c.area.ensures c.in_ok-block.ensures.bytes (c.in_ok-block.ensures.whole.0 refl) c.chunk_len-size.ensures.exact,
    )

pub slice_bounds-result-start : goal.slice_bounds-result-start
slice_bounds-result-start c =
    omega (
      arith,
      area_size c.args.image.now c.area.result.now c.in_ok-block.block c.args.kind (get_or c.args.datas.now (c.args.at / c.chunk_len-size.result) 0)
          c.chunk_len-size.result c.area.ensures c.in_ok-block.ensures.bytes (c.in_ok-block.ensures.whole.0 refl) c.chunk_len-size.ensures.exact,
    )

pub returns-clause-some : goal.returns-clause-some
returns-clause-some c =
    let long = area_size c.args.image.now c.area.result.now c.in_ok-block.block c.args.kind
    (get_or c.args.datas.now (c.args.at / c.chunk_len-size.result) 0)
    c.chunk_len-size.result c.area.ensures c.in_ok-block.ensures.bytes (c.in_ok-block.ensures.whole.0 refl) c.chunk_len-size.ensures.exact in
    simp (length-take, length-drop) (omega (arith, long, c.chunk_len-size.ensures.low))
