-- The state of a check: the owner of each block, a header for each entry, and the blocks of files in two flat lists.
-- Letters: w a walk; r, q roles; b a block; n, m nodes; p a directory's node; s a slot; j a position in a chain;
-- k the number of a page or of a part of a file.
use Rattle.std.specs.Prelude.{◌≡◌, ◌≢◌, ◌==◌, ℕ, Bool, false, Option, Some, None, List, [], ◌∷◌, ◌++◌, ◌<◌, ◌≤◌, cond, count_by, is_some, nat_lt, length, set}
use Rattle.std.proofs.Common.{suc}
use Rattle.adf_blocks.specs.{declared.layout.TheConstants.SECONDARY_TYPE, declared.layout.TheConstants.ST_DIR, Sizes.blocks}
use Rattle.adf_volume.specs.{Image.word_in, Lists.At, LayoutRoles.owner_of, Made.picked}
use Rattle.adf_volume.specs.Walk.{Role, Has, heads, Walk, Role.Head, Role.Ext, Role.Data}
use Rattle.adf_volume.specs.{KeptOwner.boot_owner, KeptOwner.claimed_count, KeptOwner.kept_at, KeptOwner.no_owner, declared.kept_owner.KeptOwner.KeptOwner}
use Rattle.adf_volume.specs.{Places.kept_by, declared.kept_header.KeptHeader.KeptHeader, declared.node_start.NodeStart.NodeStart}
use Rattle.adf_volume.specs.declared.owner_class.OwnerClass.TheVariants as class
use Rattle.adf_check.specs.declared.store.Store.{Store}

-- the value of a store: headers of nodes 1, 2, ..; how many are of directories; starts of nodes 0, 1, ..; the number of blocks with an owner
pub record StoreValue : Type 0 where
  pub owners : List KeptOwner
  pub headers : List KeptHeader
  pub dirs : ℕ
  pub starts : List NodeStart
  pub exts : List ℕ
  pub datas : List ℕ
  pub used : ℕ

-- the value of a store in the code
abbrev pub store_value : Store → StoreValue
store_value s = record {
  owners = s.owners;
  headers = s.headers.items;
  dirs = s.dirs;
  starts = s.starts.items;
  exts = s.exts.items;
  datas = s.datas.items;
  used = claimed_count s.owners;
}

-- the headers, with one more if the role is a header
abbrev pub push_header : Role → ℕ → List KeptHeader → List KeptHeader
push_header (Head n p s j) b headers = headers ++ record { parent = p; head = b } ∷ []
push_header _ b headers = headers

-- whether a kept header is that of a directory
abbrev pub is_dir_at : List ℕ → KeptHeader → Bool
is_dir_at image h = word_in image h.head SECONDARY_TYPE == ST_DIR

-- the file of an extension block, by its role
abbrev pub ext_file : Role → Option ℕ
ext_file (Ext n k) = Some n
ext_file _ = None

-- the file of a data block, by its role
abbrev pub data_file : Role → Option ℕ
data_file (Data n k) = Some n
data_file _ = None

-- the blocks of files in a walk, in order; `ext_file` or `data_file` selects them
abbrev pub file_blocks : (Role → Option ℕ) → Walk → List ℕ
file_blocks file w = picked (λ r. is_some (file r)) w

-- the same with one more member of the walk
abbrev pub push_block : (Role → Option ℕ) → Role → ℕ → List ℕ → List ℕ
push_block file r b bs = cond (is_some (file r)) (bs ++ b ∷ []) bs

-- the node is below m
abbrev pub is_below : ℕ → Option ℕ → Bool
is_below m None = false
is_below m (Some n) = nat_lt n m

-- the number of blocks of files with nodes below m
abbrev pub blocks_before : (Role → Option ℕ) → Walk → ℕ → ℕ
blocks_before file w m = length (picked (λ r. is_below m (file r)) w)

-- the owner that is kept of the next block, which is read in this role
abbrev pub next_kept : StoreValue → Role → KeptOwner
next_kept store r = kept_by (λ n k. length store.exts) (λ n k. length store.datas) (owner_of r)

-- the store after block b is read in this role
abbrev pub stored : List ℕ → StoreValue → Role → ℕ → StoreValue
stored image store r b = record {
  owners = set store.owners b (next_kept store r);
  headers = push_header r b store.headers;
  dirs = count_by (is_dir_at image) (push_header r b store.headers);
  starts = store.starts;
  exts = push_block ext_file r b store.exts;
  datas = push_block data_file r b store.datas;
  used = suc store.used;
}

-- the store after the next node is begun
abbrev pub entered : StoreValue → StoreValue
entered store = record store { starts = store.starts ++ record { exts = length store.exts; datas = length store.datas } ∷ [] }

-- the kept owner is that of block b in role r: it has the place of an extension block or a data block among those of all files
abbrev pub IsKeptOwner : Walk → Role → ℕ → KeptOwner → Type 0
IsKeptOwner w (Ext n k) b o = (i : ℕ) × At (file_blocks ext_file w) i b × (o ≡ record { class = class.Ext; place = i })
IsKeptOwner w (Data n k) b o = (i : ℕ) × At (file_blocks data_file w) i b × (o ≡ record { class = class.Data; place = i })
IsKeptOwner w r b o = o ≡ kept_by (λ n k. 0) (λ n k. 0) (owner_of r)

-- the table has the owner of each block of the walk, and no others
pub record Owns (image : List ℕ) (owners : List KeptOwner) (w : Walk) : Type 0 where
  pub size : length owners ≡ blocks image
  pub boot : (b : ℕ) → b < 2 → b < blocks image → kept_at owners b ≡ boot_owner
  pub assigned : (q : Role) (b : ℕ) → Has w q b → IsKeptOwner w q b (kept_at owners b)
  pub owned : (b : ℕ) → 2 ≤ b → b < blocks image → kept_at owners b ≢ no_owner → (q : Role) × Has w q b

-- header i is that of node i + 1
pub record KeepsHeaders (headers : List KeptHeader) (w : Walk) : Type 0 where
  pub count : length headers ≡ heads w
  pub header : (i p s j b : ℕ) → Has w (Head (suc i) p s j) b → At headers i (record { parent = p; head = b })

-- the store matches the walk
pub record StoreMatches (image : List ℕ) (store : StoreValue) (w : Walk) : Type 0 where
  pub owns : Owns image store.owners w
  pub headers : KeepsHeaders store.headers w
  pub dirs : store.dirs ≡ count_by (is_dir_at image) store.headers
  pub exts : store.exts ≡ file_blocks ext_file w
  pub datas : store.datas ≡ file_blocks data_file w
  pub used : store.used ≡ length w
  pub starts : (m : ℕ) (x : NodeStart) → At store.starts m x → (x.exts ≡ blocks_before ext_file w m) × (x.datas ≡ blocks_before data_file w m)
