use Rattle.std.proofs.Common.{ap, ◌∙◌, ◌++◌, ◌-◌, drop, length, min, take}
use Rattle.adf_volume.specs.Image.{kind_of}
use Rattle.adf_memory.specs.{Areas.bytes_from, Rooms.filled}
use Rattle.adf_memory.proofs.{Filled.filled_within, TableBytes.count_within, TableBytes.kind_read}
use Rattle.adf_memory.proofs.reading.read_sized.Goals as goal

pub returns-clause-count : goal.returns-clause-count
returns-clause-count c =
    let part = take c.min-count.result c.args.room.now in
    let image = c.args.image.now in
    count_within c.min-count.result (c.args.size - c.args.offset) c.put_bytes.result
    (bytes_from image (kind_of image) c.args.datas.now c.args.offset) c.args.room.now c.min-count.ensures
    (c.put_bytes.ensures.count ∙ ap (λ xs. min (length part) (length xs))
    (kind_read image c.args.datas.now c.kind_of.result c.args.offset c.kind_of.ensures))

pub returns-clause-bytes : goal.returns-clause-bytes
returns-clause-bytes c =
    let m = c.min-count.result in
    let room = c.args.room.now in
    let image = c.args.image.now in
    ap (λ xs. xs ++ drop m room)
    (c.put_bytes.ensures.bytes ∙ ap (λ xs. filled xs (take m room))
    (kind_read image c.args.datas.now c.kind_of.result c.args.offset c.kind_of.ensures))
    ∙ filled_within m (c.args.size - c.args.offset) (bytes_from image (kind_of image) c.args.datas.now c.args.offset) room c.min-count.ensures
