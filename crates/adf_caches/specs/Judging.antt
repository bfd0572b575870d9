-- What marks tell of the chain of a directory's cache.
-- Letters: w the walk of an image's survey; d, p directories, n an entry, by their nodes; b, c blocks, bs those of a chain;
-- old, new marks; i a number of directories.
use Rattle.std.specs.Prelude.{◌≡◌, ◌≤◌, ◌<◌, ◌+◌, ◌⊎◌, ℕ, Bool, true, false, cond, List, Some, None, count_by, is_some, length}
use Rattle.std.specs.List.{list_all}
use Rattle.adf_blocks.specs.Sizes.{blocks}
use Rattle.adf_volume.specs.Walk.{Walk, heads}
use Rattle.adf_findings.specs.Members.{has_mark, parent_node}
use Rattle.adf_caches.specs.Entries.{is_entry_at}
use Rattle.adf_caches.specs.declared.chains.CacheMarks.{CacheMarks}
use Rattle.adf_caches.specs.Caches.{agree, cache_chain, is_entry_of, is_found_directory}
use Rattle.adf_caches.specs.Caches.{directory_named, entries_named, entries_recorded, is_cache_block, next_cache}
use Rattle.adf_caches.specs.Marking.{mark_each, mark_one}
use Rattle.adf_caches.specs.Paths.{IsPath}

-- the blocks lead from b to c, each a cache block of directory d
abbrev pub Leads : List ℕ → Walk → (d b : ℕ) → List ℕ → (c : ℕ) → Type 0
Leads image w d = IsPath (is_cache_block image w d) (next_cache image)

-- each block has a mark, and no block has one that names directory d
pub record AreFresh (image : List ℕ) (w : Walk) (d : ℕ) (marks : List Bool) : Type 0 where
  pub size : length marks ≡ blocks image
  pub fresh : (c : ℕ) → has_mark marks c ≡ true → directory_named image w c ≡ Some d → ⊥

-- what is marked was marked, or names directory d
pub record MarksNamed (image : List ℕ) (w : Walk) (d : ℕ) (old new : List Bool) : Type 0 where
  pub size : length new ≡ length old
  pub named : (c : ℕ) → has_mark new c ≡ true → (has_mark old c ≡ true) ⊎ (directory_named image w c ≡ Some d)

-- block b is a cache block of directory d, and is marked with the entries that its records name
pub record Passes (image : List ℕ) (w : Walk) (d b : ℕ) (old new : CacheMarks) : Type 0 where
  pub is : is_cache_block image w d b ≡ true
  pub block : mark_one (Some b) old.blocks.items ≡ Some new.blocks.items
  pub entries : mark_each (entries_named image w d b) old.entries.items ≡ Some new.entries.items

-- it is none, or was marked, or a record of it is not right about an entry that had no mark
pub data StopsChain (image : List ℕ) (w : Walk) (d b : ℕ) (old : CacheMarks) : Type 0 where
  no_cache : is_cache_block image w d b ≡ false → StopsChain image w d b old
  known : is_cache_block image w d b ≡ true → mark_one (Some b) old.blocks.items ≡ None → StopsChain image w d b old
  unlike : mark_each (entries_named image w d b) old.entries.items ≡ None → StopsChain image w d b old

-- blocks lead from b to 0, and the entries that their records name are marked
pub record IsRightChain (image : List ℕ) (w : Walk) (d b : ℕ) (old new : CacheMarks) : Type 0 where
  pub chain : List ℕ
  pub way : Leads image w d b chain 0
  pub few : length chain ≤ blocks image
  pub entries : mark_each (entries_recorded image w d chain) old.entries.items ≡ Some new.entries.items

-- no blocks do, of whose records each is right about an entry that had no mark
abbrev pub IsWrongChain : List ℕ → Walk → (d b : ℕ) → CacheMarks → Type 0
IsWrongChain image w d b old =
    (bs : List ℕ) → Leads image w d b bs 0 → mark_each (entries_recorded image w d bs) old.entries.items ≡ None

-- each entry and the root has a mark, and no entry of directory d has one that is set
pub record AreUnnamed (w : Walk) (d : ℕ) (marks : List Bool) : Type 0 where
  pub size : length marks ≡ heads w + 1
  pub unnamed : (n : ℕ) → has_mark marks n ≡ true → parent_node w n ≡ d → ⊥

-- what is told of directory d, but for entries that no record names: nothing, if there is no such directory;
-- that its chain is right, each record is right about an entry, and the marks are of the entries that have one; or that it is wrong
pub data IsToldOfCache (image : List ℕ) (w : Walk) (d : ℕ) (marks : List Bool) : Bool → Type 0 where
  no_directory : is_found_directory image w d ≡ false → IsToldOfCache image w d marks false
  right : (bs : List ℕ) → is_found_directory image w d ≡ true → cache_chain image w d ≡ Some bs
      → list_all is_some (entries_recorded image w d bs) ≡ true
      → ((n : ℕ) → is_entry_of w d n ≡ true → count_by (is_entry_at n) (entries_recorded image w d bs) ≡ cond (has_mark marks n) 1 0)
      → IsToldOfCache image w d marks false
  wrong : is_found_directory image w d ≡ true → agree image w d (cache_chain image w d) ≡ false → IsToldOfCache image w d marks true

-- the first i directories are judged
pub record AreJudged (image : List ℕ) (w : Walk) (i : ℕ) (marks : CacheMarks) (wrong : List Bool) : Type 0 where
  pub size : length wrong ≡ i
  pub block_size : length marks.blocks.items ≡ blocks image
  pub entry_size : length marks.entries.items ≡ heads w + 1
  pub blocks : (c : ℕ) → has_mark marks.blocks.items c ≡ true → (p : ℕ) × (p < i) × (directory_named image w c ≡ Some p)
  pub entries : (n : ℕ) → has_mark marks.entries.items n ≡ true → parent_node w n < i
  pub judged : (p : ℕ) → p < i → IsToldOfCache image w p marks.entries.items (has_mark wrong p)

-- an entry in directory d, from a to before e, has no mark
pub record LacksRecord (image : List ℕ) (w : Walk) (named : List Bool) (a e d : ℕ) : Type 0 where
  pub entry : ℕ
  pub from : a ≤ entry
  pub before : entry < e
  pub unnamed : has_mark named entry ≡ false
  pub within : parent_node w entry ≡ d
  pub found : is_found_directory image w d ≡ true

-- each directory is marked as before, or if an entry in it lacks a mark
pub record AreLacking (image : List ℕ) (w : Walk) (named : List Bool) (a e : ℕ) (old new : List Bool) : Type 0 where
  pub size : length new ≡ length old
  pub kept : (d : ℕ) → has_mark old d ≡ true → has_mark new d ≡ true
  pub marked : (d : ℕ) → has_mark new d ≡ true → (has_mark old d ≡ true) ⊎ LacksRecord image w named a e d
  pub all : (d : ℕ) → LacksRecord image w named a e d → d < length old → has_mark new d ≡ true
