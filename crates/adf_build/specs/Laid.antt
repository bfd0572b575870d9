-- The image that the builder makes: each part of the volume in its place, and zeros elsewhere. n is the number of
-- blocks of the volume, t its tree, i the number of an entry, e that entry, k the index of its header's free block,
-- c the number of data blocks of a file.
use Rattle.std.specs.Prelude.{◌≡◌, ◌≤◌, ℕ, List, [], ◌∷◌, ◌++◌, ◌+◌, ◌-◌, ◌*◌, nat_lt, cond, length, take, drop, map, replicate, slice_index, min, true}
use Rattle.std.specs.List.{range_with_len}
use Rattle.std.proofs.Common.{suc}
use Rattle.adf_base.specs.{declared.hash.Letters.Letters, Hash.slot_by}
use Rattle.adf_names.specs.{VolumeTypes.type_number, declared.kind.Kind.Kind, declared.kind.Kind.TheVariants.Ofs, declared.kind.Kind.TheVariants.Ffs}
use Rattle.adf_tree.specs.declared.entry.Body.{Body, TheVariants.Dir, TheVariants.File}
use Rattle.adf_tree.specs.{declared.entry.Entry.Entry, Bounds.IsBounded, Tree.Tree, Tree.IsTreeBy}
use Rattle.adf_blocks.specs.Sizes.{blocks, chunk, count, is_allowed, middle, pages_needed}
use Rattle.adf_blocks.specs.declared.layout.TheConstants.{MAP_EXT_PAGES, POINTERS, ROOT_PAGES, SLOTS}
use Rattle.adf_blocks.specs.{Fields.block_of_fields, RootBlock.RootFields, RootBlock.root_block, PageBlock.page_block, MapExtBlock.map_ext_block}
use Rattle.adf_blocks.specs.{ExtBlock.ExtFields, ExtBlock.ext_block, DataBlock.DataFields, DataBlock.data_block}
use Rattle.adf_blocks.specs.HeadBlock.{BodyFields, HeadFields, head_block, BodyFields.DirFields, BodyFields.FileFields}
use Rattle.adf_volume.specs.{Image.map_exts_needed, Layout.nodes_from_by}
use Rattle.adf_build.specs.Plan.{exts_needed, entry_blocks, entries_blocks, blocks_needed, nth_free, allocated}
use Rattle.adf_build.specs.{Writes.with_blocks, Bits.page_words, declared.heads.Spot.Spot}

-- the block of the first node of a chain, or 0
abbrev pub first_block : (ℕ → ℕ) → List ℕ → ℕ
first_block at [] = 0
first_block at (n ∷ ns) = at n

-- the k-th free block, or 0 if m is 0: a table word or next word for the first of m blocks
abbrev pub nth_free_or_none : ℕ → ℕ → ℕ → ℕ
nth_free_or_none n k m = cond (nat_lt 0 m) (nth_free n k) 0

-- the bytes of a data block: those of the file, and for OFS the words before them
abbrev pub data_bytes : Kind → DataFields → List ℕ
data_bytes Ofs d = data_block d
data_bytes Ffs d = block_of_fields ((0, d.bytes) ∷ [])

-- the fields of data block j of a file
abbrev pub planned_data : ℕ → Kind → ℕ → List ℕ → ℕ → DataFields
planned_data n kind k bytes j =
    let c = count kind (length bytes) in
    record {
      head = nth_free n k;
      number = suc j;
      next = nth_free_or_none n (suc k + exts_needed c + suc j) (c - suc j);
      bytes = take (chunk kind) (drop (chunk kind * j) bytes);
    }

-- data block j of a file, after its header and its extension blocks
abbrev pub data_part : ℕ → Kind → ℕ → List ℕ → ℕ → ℕ × List ℕ
data_part n kind k bytes j = (nth_free n (suc k + exts_needed (count kind (length bytes)) + j), data_bytes kind (planned_data n kind k bytes j))

-- the data blocks of a file
abbrev pub data_writes : ℕ → Kind → ℕ → List ℕ → List (ℕ × List ℕ)
data_writes n kind k bytes = map (data_part n kind k bytes) (range_with_len 0 (count kind (length bytes)))

-- the fields of extension block j of a file: it points to up to POINTERS data blocks, after those of earlier blocks
abbrev pub planned_ext : ℕ → ℕ → ℕ → ℕ → ExtFields
planned_ext n k c j = record {
  own = nth_free n (suc k + j);
  head = nth_free n k;
  table = allocated n (suc k + exts_needed c + POINTERS * suc j) (min POINTERS (c - POINTERS * suc j));
  next = nth_free_or_none n (suc k + suc j) (exts_needed c - suc j);
}

-- extension block j of a file, after its header
abbrev pub ext_part : ℕ → ℕ → ℕ → ℕ → ℕ × List ℕ
ext_part n k c j = (nth_free n (suc k + j), ext_block (planned_ext n k c j))

-- the extension blocks of a file
abbrev pub ext_writes : ℕ → ℕ → ℕ → List (ℕ × List ℕ)
ext_writes n k c = map (ext_part n k c) (range_with_len 0 (exts_needed c))

-- the slots of node p, where names have these letters: the block of the first member of each chain, or 0
abbrev pub slots_by : Letters → List ℕ → List Entry → ℕ → List ℕ
slots_by letters nodes es p = map (λ s. first_block (slice_index nodes) (nodes_from_by letters 1 es p s)) (range_with_len 0 SLOTS)

-- the fields of a header that depend on its body
abbrev pub planned_body : ℕ → ℕ → Kind → List ℕ → Body → BodyFields
planned_body n k kind slots Dir = DirFields slots
planned_body n k kind slots (File bytes) =
    let c = count kind (length bytes) in
    FileFields (length bytes) (allocated n (suc k + exts_needed c) (min POINTERS c)) (nth_free_or_none n (suc k) (exts_needed c))

-- the fields of a header
abbrev pub planned_head : ℕ → Spot → BodyFields → Entry → HeadFields
planned_head n spot body e = record { own = nth_free n spot.k; parent = spot.parent; next = spot.next; name = e.name; meta = e.meta; body = body }

-- the blocks of a body, after its header
abbrev pub body_writes : ℕ → Kind → ℕ → Body → List (ℕ × List ℕ)
body_writes n kind k Dir = []
body_writes n kind k (File bytes) = ext_writes n k (count kind (length bytes)) ++ data_writes n kind k bytes

-- the blocks of an entry with these slots
abbrev pub entry_writes : ℕ → Kind → Spot → List ℕ → Entry → List (ℕ × List ℕ)
entry_writes n kind spot slots e =
    (nth_free n spot.k, head_block (planned_head n spot (planned_body n spot.k kind slots e.body) e)) ∷ body_writes n kind spot.k e.body

-- the blocks of the headers of entries, the first at the k-th free block
abbrev pub heads_from : ℕ → Kind → ℕ → List Entry → List ℕ
heads_from n kind k [] = []
heads_from n kind k (e ∷ es) = nth_free n k ∷ heads_from n kind (k + entry_blocks kind e) es

-- the blocks of all nodes, the root's first
abbrev pub node_blocks : Tree → ℕ → List ℕ
node_blocks t n = middle n ∷ heads_from n t.kind 0 t.entries

-- the place and the pointers of the header of entry i; es are the entries after it
abbrev pub planned_spot : ℕ → Tree → ℕ → ℕ → Entry → List Entry → Spot
planned_spot n t i k e es =
    let at = slice_index (node_blocks t n) in
    record { k = k; parent = at e.parent; next = first_block at (nodes_from_by t.letters (suc i) es e.parent (slot_by t.letters e.name)) }

-- the blocks of entries, the first with number i
abbrev pub entries_writes : ℕ → Tree → ℕ → ℕ → List Entry → List (ℕ × List ℕ)
entries_writes n t i k [] = []
entries_writes n t i k (e ∷ es) =
    entry_writes n t.kind (planned_spot n t i k e es) (slots_by t.letters (node_blocks t n) t.entries i) e
    ++ entries_writes n t (suc i) (k + entry_blocks t.kind e) es

-- page j; the first `total` free blocks are used
abbrev pub page_part : ℕ → ℕ → ℕ → ℕ × List ℕ
page_part n total j = (middle n + 1 + j, page_block (page_words n total j))

-- the pointer to bitmap extension block j: its block, or 0 if there is none
abbrev pub map_ext_or_none : ℕ → ℕ → ℕ
map_ext_or_none n j = cond (nat_lt j (map_exts_needed (pages_needed n))) (middle n + 1 + pages_needed n + j) 0

-- the pages of bitmap extension block j: up to MAP_EXT_PAGES, after those of the root and of earlier extension blocks
abbrev pub listed_pages : ℕ → ℕ → List ℕ
listed_pages n j =
    range_with_len (middle n + 1 + (ROOT_PAGES + MAP_EXT_PAGES * j)) (min MAP_EXT_PAGES (pages_needed n - (ROOT_PAGES + MAP_EXT_PAGES * j)))

-- bitmap extension block j
abbrev pub map_ext_part : ℕ → ℕ → ℕ × List ℕ
map_ext_part n j = (middle n + 1 + pages_needed n + j, map_ext_block (listed_pages n j) (map_ext_or_none n (suc j)))

-- the pages
abbrev pub page_writes : ℕ → ℕ → List (ℕ × List ℕ)
page_writes n total = map (page_part n total) (range_with_len 0 (pages_needed n))

-- the bitmap extension blocks
abbrev pub map_ext_writes : ℕ → List (ℕ × List ℕ)
map_ext_writes n = map (map_ext_part n) (range_with_len 0 (map_exts_needed (pages_needed n)))

-- the boot block starts with `DOS` and the type: 0 for OFS, 1 for FFS, and 2 more where names have international letters
abbrev pub boot_bytes_by : Letters → Kind → List ℕ
boot_bytes_by letters kind = 0x44 ∷ 0x4F ∷ 0x53 ∷ type_number letters kind ∷ []

-- the fields of the root: it points to its first headers, to ROOT_PAGES pages and to the first bitmap extension block
abbrev pub planned_root : Tree → ℕ → RootFields
planned_root t n = record {
  slots = slots_by t.letters (node_blocks t n) t.entries 0;
  pages = range_with_len (middle n + 1) (min ROOT_PAGES (pages_needed n));
  map_ext = map_ext_or_none n 0;
  label = t.label;
  stamps = t.stamps;
}

-- every block that is written, with its bytes
abbrev pub writes : Tree → ℕ → List (ℕ × List ℕ)
writes t n =
    entries_writes n t 1 0 t.entries
    ++ (page_writes n (entries_blocks t.kind t.entries)
    ++ (map_ext_writes n
    ++ (middle n, root_block (planned_root t n)) ∷ (0, block_of_fields ((0, boot_bytes_by t.letters t.kind) ∷ [])) ∷ []))

-- the volume of n blocks that the builder makes for a tree
unfoldable pub volume : Tree → ℕ → List ℕ
volume t n = with_blocks (replicate (n * 512) 0) (writes t n)

-- what holds of every tree: the invariant of its entries by its letters, and the bounds of its fields, so that they fit in blocks
pub record IsWellFormed (t : Tree) : Type 0 where
  pub tree : IsTreeBy t.letters t.entries
  pub bounds : IsBounded t

-- the image is what the builder makes for the tree, whose fields fit, in an allowed size with room for it
pub record IsLaid (image : List ℕ) (t : Tree) : Type 0 where
  pub sound : IsWellFormed t
  pub size : is_allowed (blocks image) ≡ true
  pub room : blocks_needed t (blocks image) ≤ blocks image - 2
  pub bytes : image ≡ volume t (blocks image)
