use Rattle.std.proofs.Common.{◌∙◌, ap, length, min, rules}
use Rattle.adf_memory.specs.Rooms.{filled}
use Rattle.adf_memory.proofs.{Filled.behind_filled, Readings.node_read}
use Rattle.adf_memory.proofs.reading.read_bytes.Goals as goal

pub returns : goal.returns
returns c =
    let image = c.args.image.now in
    let entries = c.args.entries.now in
    let blocks = c.args.blocks.now in
    let room = c.args.room.now in
    record {
      within = search rules;
      count = λ t (ls, l, fits, is, tables). c.read_node.ensures.count
          ∙ ap (λ bytes. min (length room) (length bytes)) (node_read image blocks t l entries c.args.node c.args.offset fits is tables);
      bytes = λ t (ls, l, fits, is, tables). c.read_node.ensures.bytes
          ∙ ap (λ bytes. filled bytes room) (node_read image blocks t l entries c.args.node c.args.offset fits is tables);
      any_count = c.read_node.ensures.count;
      any_bytes = c.read_node.ensures.bytes;
      behind = behind_filled _ _ _ _ c.read_node.ensures.count c.read_node.ensures.bytes;
    }
