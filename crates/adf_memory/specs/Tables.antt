-- The tables of a volume: an entry for each entry of its tree, and the data blocks of its files.
-- Letters: t a tree; l its layout; e an entry, and es entries; xs a table of entries; h the block of a header; q the place of an entry, and qs places;
-- k a count of data blocks.
use Rattle.std.specs.Prelude.{◌≡◌, ℕ, List, [], ◌∷◌, ◌++◌, ◌+◌, ◌-◌, Option, Some, None, length, replicate}
use Rattle.adf_base.specs.{declared.dates.Stamp.Stamp, declared.hash.Letters.Letters}
use Rattle.adf_names.specs.VolumeTypes.{type_number}
use Rattle.adf_tree.specs.declared.entry.Body.{Body, TheVariants.Dir, TheVariants.File}
use Rattle.adf_tree.specs.{declared.entry.Entry.Entry, Tree.Tree, Tree.entry}
use Rattle.adf_blocks.specs.Sizes.{blocks}
use Rattle.adf_volume.specs.{Fits.FitsBy, Layout.Layout, Layout.Place, Layout.owned}
use Rattle.adf_memory.specs.{declared.tables.Contents.Contents, declared.tables.Date.Date, declared.tables.TableEntry.TableEntry, Rooms.filled}

-- a text in a field of so many bytes, with zeros behind it
abbrev pub field : ℕ → List ℕ → List ℕ
field n text = filled text (replicate n 0)

-- a date
abbrev pub date_of : Stamp → Date
date_of s = record { days = s.days; mins = s.mins; ticks = s.ticks }

-- 1 for a file, 0 for a directory
abbrev pub file_number : Body → ℕ
file_number Dir = 0
file_number (File bytes) = 1

-- the bytes of a file; a directory has none
abbrev pub bytes_of_body : Body → List ℕ
bytes_of_body Dir = []
bytes_of_body (File bytes) = bytes

-- entry e, whose header is block h, where k data blocks are of files before it
abbrev pub table_entry : ℕ → ℕ → Entry → TableEntry
table_entry h k e = record {
  parent = e.parent;
  header = h;
  size = length (bytes_of_body e.body);
  first = k;
  protection = e.meta.protect;
  date = date_of e.meta.stamp;
  is_file = file_number e.body;
  name_length = length e.name;
  name = field 30 e.name;
  comment_length = length e.meta.comment;
  comment = field 79 e.meta.comment;
}

-- entries and where they lie, where k data blocks are of files before them
abbrev pub table_entries : ℕ → List Entry → List Place → List TableEntry
table_entries k [] qs = []
table_entries k (e ∷ es) [] = []
table_entries k (e ∷ es) (q ∷ qs) = table_entry q.head k e ∷ table_entries (k + length q.datas) es qs

-- the table of all entries
abbrev pub entry_table : Tree → Layout → List TableEntry
entry_table t l = table_entries 0 t.entries l.places

-- the table is that of a volume of this tree, whose names have these letters, wherever its parts lie
abbrev pub IsTableOfBy : Letters → List TableEntry → Tree → Type 0
IsTableOfBy letters xs t = (image : List ℕ) × (l : Layout) × FitsBy letters image t l × (xs ≡ entry_table t l)

-- the data blocks of files, one file after the other
abbrev pub all_datas : List Place → List ℕ
all_datas [] = []
all_datas (q ∷ qs) = q.datas ++ all_datas qs

-- the table of all data blocks of files
abbrev pub block_table : Layout → List ℕ
block_table l = all_datas l.places

-- what is told of an accepted image beside the tables
abbrev pub contents_of : List ℕ → Tree → Layout → Contents
contents_of image t l = record {
  kind = type_number t.letters t.kind;
  blocks = blocks image;
  used = length (owned image l);
  free = blocks image - 2 - length (owned image l);
  entries = length t.entries;
  data_blocks = length (block_table l);
  block = 0;
  root = date_of t.stamps.root;
  altered = date_of t.stamps.altered;
  created = date_of t.stamps.created;
  label_length = length t.label;
  label = field 30 t.label;
}

-- and of a refused one: the block of its fault
abbrev pub refused_at : ℕ → Contents
refused_at b = record {
  kind = 0;
  blocks = 0;
  used = 0;
  free = 0;
  entries = 0;
  data_blocks = 0;
  block = b;
  root = record { days = 0; mins = 0; ticks = 0 };
  altered = record { days = 0; mins = 0; ticks = 0 };
  created = record { days = 0; mins = 0; ticks = 0 };
  label_length = 0;
  label = field 30 [];
}

-- the bytes of what may be an entry
abbrev pub bytes_told : Option Entry → List ℕ
bytes_told None = []
bytes_told (Some e) = bytes_of_body e.body

-- the bytes of the file with this number; none of the root, a directory and what is past the last entry
abbrev pub bytes_at : Tree → ℕ → List ℕ
bytes_at t n = bytes_told (entry t.entries n)
