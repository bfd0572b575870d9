-- The plan of a tree in a volume of n blocks: the root in the middle, then the pages, then the bitmap extension
-- blocks. The other blocks from 2 on are free for the entries, in ascending order: the k-th is `nth_free n k`.
use Rattle.std.specs.Prelude.{ℕ, List, [], ◌∷◌, ◌≤◌, ◌+◌, ◌-◌, ◌/◌, nat_lt, cond, length}
use Rattle.std.specs.List.{range_with_len}
use Rattle.std.proofs.Common.{zero, suc}
use Rattle.adf_names.specs.declared.kind.Kind.{Kind}
use Rattle.adf_tree.specs.declared.entry.Body.{Body, TheVariants.Dir, TheVariants.File}
use Rattle.adf_tree.specs.{declared.entry.Entry.Entry, Tree.Tree}
use Rattle.adf_blocks.specs.{Sizes.count, Sizes.middle, Sizes.pages_needed, declared.layout.TheConstants.POINTERS}
use Rattle.adf_volume.specs.{Image.map_exts_needed, Layout.Place, Layout.Layout}

-- the number of extension blocks for this many data blocks: the header and each of them point to up to POINTERS
unfoldable pub exts_needed : ℕ → ℕ
exts_needed c = (c - POINTERS + (POINTERS - 1)) / POINTERS

-- the number of data blocks of a body
abbrev pub data_blocks : Kind → Body → ℕ
data_blocks kind Dir = 0
data_blocks kind (File bytes) = count kind (length bytes)

-- the number of blocks of an entry: its header, its extension blocks and its data blocks
abbrev pub entry_blocks : Kind → Entry → ℕ
entry_blocks kind e = 1 + exts_needed (data_blocks kind e.body) + data_blocks kind e.body

-- the number of blocks of entries
abbrev pub entries_blocks : Kind → List Entry → ℕ
entries_blocks kind [] = 0
entries_blocks kind (e ∷ es) = entry_blocks kind e + entries_blocks kind es

-- the number of reserved blocks after the root of a volume of n blocks: pages and bitmap extension blocks
unfoldable pub reserved : ℕ → ℕ
reserved n = pages_needed n + map_exts_needed (pages_needed n)

-- the number of blocks that a tree needs in a volume of n blocks: root, reserved blocks and entries
abbrev pub blocks_needed : Tree → ℕ → ℕ
blocks_needed t n = 1 + reserved n + entries_blocks t.kind t.entries

-- a volume of n blocks has k free blocks
abbrev pub HasFree : ℕ → ℕ → Type 0
HasFree n k = 1 + reserved n + k ≤ n - 2

-- the k-th block that is free for entries
unfoldable pub nth_free : ℕ → ℕ → ℕ
nth_free n k = cond (nat_lt (2 + k) (middle n)) (2 + k) (3 + k + reserved n)

-- m free blocks, from the k-th on
abbrev pub allocated : ℕ → ℕ → ℕ → List ℕ
allocated n k zero = []
allocated n k (suc m) = nth_free n k ∷ allocated n (suc k) m

-- the place of an entry with this body and its header in the k-th free block
abbrev pub place_of : ℕ → Kind → ℕ → Body → Place
place_of n kind k body = record {
  head = nth_free n k;
  exts = allocated n (suc k) (exts_needed (data_blocks kind body));
  datas = allocated n (suc k + exts_needed (data_blocks kind body)) (data_blocks kind body);
}

-- the places of entries, the first from the k-th free block on
abbrev pub places_from : ℕ → Kind → ℕ → List Entry → List Place
places_from n kind k [] = []
places_from n kind k (e ∷ es) = place_of n kind k e.body ∷ places_from n kind (k + entry_blocks kind e) es

-- the layout that the builder gives to a tree
abbrev pub planned : Tree → ℕ → Layout
planned t n = record {
  pages = range_with_len (middle n + 1) (pages_needed n);
  map_exts = range_with_len (middle n + 1 + pages_needed n) (map_exts_needed (pages_needed n));
  places = places_from n t.kind 0 t.entries;
}
