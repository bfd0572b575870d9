use Rattle.adf_boot_cmd.proofs.Endings.{file_front}
use Rattle.adf_boot_cmd.proofs.boot_file.boot_of.Goals as goal

pub returns-in-Ok-read_first : goal.returns-in-Ok-read_first
returns-in-Ok-read_first g c =
    file_front (g.F.Files.bytes_of c.args.files.now c.args.name.now) (g.F.Opened.Source.left c.in-Ok.source) _
    (rw c.as_bytes.ensures.value at c.in-Ok.ensures.bytes) c.in-Ok-read_first.ensures.first.0
