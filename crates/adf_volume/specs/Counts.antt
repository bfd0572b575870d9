-- What a volume has in all.
use Rattle.std.specs.Prelude.{◌-◌, ℕ, Bool, not, List, length, count_by}
use Rattle.adf_tree.specs.{declared.entry.Entry.Entry, Tree.Tree, Tree.is_dir_body}
use Rattle.adf_blocks.specs.Sizes.{blocks}
use Rattle.adf_volume.specs.{Layout.Layout, Layout.owned, declared.counts.Counts.Counts}

-- whether an entry is a directory
abbrev pub is_directory : Entry → Bool
is_directory e = is_dir_body e.body

-- the counts of a volume: owned blocks are used; the others, except the two boot blocks, are free
abbrev pub counts_of : List ℕ → Tree → Layout → Counts
counts_of image t l = record {
  kind = t.kind;
  blocks = blocks image;
  used = length (owned image l);
  free = blocks image - 2 - length (owned image l);
  dirs = count_by is_directory t.entries;
  files = count_by (λ e. not (is_directory e)) t.entries;
}
