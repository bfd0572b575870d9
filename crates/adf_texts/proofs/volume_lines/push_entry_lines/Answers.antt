use Rattle.adf_texts.proofs.VolumeTexts.{row_lines_told}
use Rattle.adf_texts.proofs.volume_lines.push_entry_lines.Goals as goal

pub returns : goal.returns
returns c = λ date e dates told. rw (row_lines_told date c.args.path.now c.args.row.now e told) at (c.push_row_lines.ensures date dates)
