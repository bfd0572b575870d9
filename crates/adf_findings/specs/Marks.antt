-- The entries that findings concern, by number.
-- Letters: f a state; b a block; k a number of blocks, or of a part; m, n, p nodes;
-- s, j a slot and a position in its chain.
use Rattle.std.specs.Prelude.{◌==◌, ◌||◌, ◌&&◌, ◌-◌, ℕ, Bool, false, cond, not, nat_lt, List, [], ◌∷◌, length, slice_get, slice_index, slice_index_or, Option}
use Rattle.std.specs.{Prelude.Some, Prelude.None, Option.option_map}
use Rattle.std.proofs.Common.{zero, suc}
use Rattle.adf_names.specs.declared.kind.Kind.{Kind, TheVariants.Ofs, TheVariants.Ffs}
use Rattle.adf_blocks.specs.Sizes.{blocks}
use Rattle.adf_volume.specs.{Image.kind_of, Parts.entry_of}
use Rattle.adf_volume.specs.declared.part.Part.{Part, TheVariants.Head as HeadPart, TheVariants.Ext as ExtPart, TheVariants.Data as DataPart}
use Rattle.adf_findings.specs.{declared.finding.Finding.Finding, declared.found.Found.Found, WalkOwners.data_number_of, Concerned.node_of, Sound.says_data_of}
use Rattle.adf_findings.specs.declared.found.ChainPlace.{ChainPlace}
use Rattle.adf_findings.specs.declared.concern.Concern.{Concern, TheVariants.Entry, TheVariants.Within}
use Rattle.adf_volume.specs.Owners.{owner_at}

-- whether a position is this one
abbrev pub is_place : Option ChainPlace → ℕ → ℕ → Bool
is_place None s j = false
is_place (Some c) s j = (c.slot == s) && (c.place == j)

-- whether node n is the header at position j of the chain of slot s of directory p
abbrev pub is_header : Found → ℕ → ℕ → ℕ → ℕ → Bool
is_header f n p s j = not (n == 0) && ((slice_index f.parents.items n == p) && is_place (slice_get f.places.items (n - 1)) s j)

-- what a finding of the part concerns
abbrev pub blamed : Found → Option Part → Option Concern
blamed f (Some (HeadPart n p s j)) = Some (cond (is_header f n p s j) (Entry n) (Within p))
blamed f (Some (ExtPart n k)) = Some (Entry n)
blamed f (Some (DataPart n k)) = Some (Entry n)
blamed f _ = None

-- whether the node is this one
abbrev pub is_node : Option ℕ → ℕ → Bool
is_node None m = false
is_node (Some n) m = n == m

-- whether a finding concerns the entry, or what is within it
abbrev pub is_blamed : Found → List Finding → ℕ → Bool
is_blamed f [] m = false
is_blamed f (x ∷ xs) m = is_node (option_map node_of (blamed f x.part)) m || is_blamed f xs m

-- the number of the entry that has block b, and that of the data block that it is; 0 if there is none
abbrev pub entry_in_block : Found → ℕ → ℕ
entry_in_block f b = entry_of (owner_at f.owners.owners b)

abbrev pub number_in_block : Found → ℕ → ℕ
number_in_block f b = data_number_of (owner_at f.owners.owners b)

-- whether the data block at block b says that it is an OFS one of its file
abbrev pub is_said : List ℕ → Found → ℕ → Bool
is_said image f b = says_data_of image (slice_index f.nodes.items (entry_in_block f b)) (number_in_block f b) b

-- the file of the data block at block b, if the block was also skipped, or says that it is an OFS one; none of other blocks
abbrev pub doubted : List ℕ → Found → ℕ → Option ℕ
doubted image f b =
    cond (number_in_block f b == 0) None
    (cond (slice_index_or f.skipped.items b false || is_said image f b) (Some (entry_in_block f b)) None)

-- whether that is so of a data block of the file among the first k blocks
abbrev pub is_doubted : List ℕ → Found → ℕ → ℕ → Bool
is_doubted image f zero m = false
is_doubted image f (suc k) m = is_doubted image f k m || is_node (doubted image f k) m

-- whether that makes the file unsound: only FFS, as an OFS data block identifies its file
abbrev pub is_doubtful : Kind → List ℕ → Found → ℕ → Bool
is_doubtful Ofs image f m = false
is_doubtful Ffs image f m = is_doubted image f (blocks image) m

-- whether the node exists and is not made unsound so
abbrev pub is_undoubted : List ℕ → Found → ℕ → Bool
is_undoubted image f m = nat_lt m (length f.nodes.items) && not (is_doubtful (kind_of image) image f m)

-- whether the node exists, is not made unsound so, and none of these findings concerns it
abbrev pub is_clear : List ℕ → Found → List Finding → ℕ → Bool
is_clear image f xs m =
    nat_lt m (length f.nodes.items) && (not (is_blamed f xs m) && not (is_doubtful (kind_of image) image f m))
