use Rattle.adf_merge_cmd.proofs.Readings.{file_bytes}
use Rattle.adf_merge_cmd.proofs.names.read_one.Goals as goal

pub returns-in-Ok-read_all : goal.returns-in-Ok-read_all
returns-in-Ok-read_all g c =
    file_bytes (g.F.Files.bytes_of c.args.files.now c.args.name.now) (g.F.Opened.Source.left c.in-Ok.source) _
    (rw c.as_bytes.ensures.value at c.in-Ok.ensures.bytes) c.in-Ok-read_all.ensures.all
