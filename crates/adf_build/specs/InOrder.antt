-- The order of the parts of a built volume: ascending, without gaps.
use Rattle.std.specs.Prelude.{◌≡◌, ◌+◌, ◌*◌, ◌<◌, ◌≤◌, ℕ, List, [], ◌∷◌, ◌++◌, length}
use Rattle.adf_tree.specs.{declared.entry.Body.TheVariants.File, declared.entry.Entry.Entry, Tree.Tree}
use Rattle.adf_blocks.specs.{Sizes.blocks, Sizes.count, Sizes.middle, declared.layout.TheConstants.POINTERS}
use Rattle.adf_volume.specs.{declared.owner.Owner.Owner, Lists.At, Lists.In, Layout.EntryAt, Layout.Layout, Layout.Place, Layout.exts_of, Layout.owned}

-- the blocks of entries in order: for each its header, its extension blocks and its data blocks
abbrev pub blocks_in_order : List Place → List ℕ
blocks_in_order [] = []
blocks_in_order (q ∷ qs) = q.head ∷ ((q.exts ++ q.datas) ++ blocks_in_order qs)

-- The pages ascend by one from the block after the root, the bitmap extension blocks follow, each file has the fewest
-- extension blocks for its table, the blocks of the entries ascend, and every block from 2 to their last is owned.
pub record IsInOrder (image : List ℕ) (t : Tree) (l : Layout) : Type 0 where
  pub pages : (k b : ℕ) → At l.pages k b → b ≡ middle (blocks image) + 1 + k
  pub map_exts : (j b : ℕ) → At l.map_exts j b → b ≡ middle (blocks image) + 1 + length l.pages + j
  pub few : (n m : ℕ) (e : Entry) (bytes : List ℕ) → EntryAt t n e → e.body ≡ File bytes → count t.kind (length bytes) ≤ POINTERS * (1 + m)
      → length (exts_of l n) ≤ m
  pub rise : (i j a b : ℕ) → i < j → At (blocks_in_order l.places) i a → At (blocks_in_order l.places) j b → a < b
  pub no_gap : (b last : ℕ) → In (blocks_in_order l.places) last → 2 ≤ b → b ≤ last → (o : Owner) × In (owned image l) (o, b)
