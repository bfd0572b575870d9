use Rattle.std.proofs.Common.{◌∙◌, List, ℕ, ap, length, min}
use Rattle.adf_memory.specs.Rooms.{filled}
use Rattle.adf_memory_types.proofs.ReadInPlace.{node_in_place}
use Rattle.adf_memory_types.proofs.reading.read_bytes_types.Goals as goal

pub returns : goal.returns
returns c =
    let room = c.args.room.now in
    let told = node_in_place c.args.image.now c.args.entries.now c.args.blocks.now in
    record {
      reads = c.read_bytes.ensures;
      cached_count = λ t tables. c.read_bytes.ensures.any_count
          ∙ ap (λ (bytes : List ℕ). min (length room) (length bytes)) (told t c.args.node c.args.offset tables);
      cached_bytes = λ t tables. c.read_bytes.ensures.any_bytes
          ∙ ap (λ (bytes : List ℕ). filled bytes room) (told t c.args.node c.args.offset tables);
    }
