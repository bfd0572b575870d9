-- The rows of entries.
use Rattle.std.specs.Prelude.{ℕ, List, length}
use Rattle.adf_blocks.specs.{declared.layout.TheConstants.NAME, Forms.text_at, HeadBlock.body_at, HeadBlock.meta_at}
use Rattle.adf_tree.specs.declared.entry.Body.{Body, TheVariants.Dir as ADir, TheVariants.File as AFile}
use Rattle.adf_tree.specs.declared.entry.Entry.{Entry}
use Rattle.adf_blocks.specs.declared.head.HeadBody.{HeadBody, TheVariants.Dir as HeadDir, TheVariants.File as HeadFile}
use Rattle.adf_volume.specs.{declared.row.Row.Row, declared.row.RowBody.RowBody, declared.row.RowBody.TheVariants.Dir, declared.row.RowBody.TheVariants.File}

-- the body of a row, from the body of a header
abbrev pub row_body : HeadBody → RowBody
row_body HeadDir = Dir
row_body (HeadFile size ext) = File size

-- the row of an entry, from its header
abbrev pub row_in : ℕ → List ℕ → Row
row_in parent b = record { parent = parent; name = text_at b NAME; meta = meta_at b; body = row_body (body_at b) }

-- the body of a row: a directory, or a file with its number of bytes
abbrev pub row_of_body : Body → RowBody
row_of_body ADir = Dir
row_of_body (AFile bytes) = File (length bytes)

-- the row of an entry: its parent, name, comment, protection bits, date and kind
abbrev pub row_of_entry : Entry → Row
row_of_entry e = record { parent = e.parent; name = e.name; meta = e.meta; body = row_of_body e.body }
