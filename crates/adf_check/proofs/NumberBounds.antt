-- The numbers of blocks and nodes fit in 29 bits, and so do the places of the blocks of files.
use Rattle.std.proofs.Common.{◌≡◌, ℕ, List, ◌+◌, ◌^◌, ◌<◌, ◌≤◌, length, arith}
use Rattle.std.proofs.{lemmas.List.Sums.count_by-le-length, lemmas.Grind.common_steps}
use Rattle.adf_blocks.specs.{declared.layout.TheConstants.MOST_BLOCKS, Sizes.blocks, Sizes.pages_needed}
use Rattle.adf_volume.specs.{Walk.heads, Walk.Walk, Positions.Position, Start.IsOwnBegun}
use Rattle.adf_volume.proofs.{Sizes.size_high, Sizes.size_low, Gathered.dir_number, Walks.of_walk, WalkMembers.picked_within, WalkLengths.heads_within}
use Rattle.adf_check.specs.{Reading.HasRead, Reading.IsInChain, declared.chains.Chain.Chain, declared.claims.Link.Link, Store.StoreValue, Store.StoreMatches}
use Rattle.adf_volume.specs.KeptOwner.{claimed_count}

-- there are at least 4 blocks
pub many_blocks : (image : List ℕ) → IsOwnBegun image → 4 ≤ blocks image
many_blocks image begun = size_low (blocks image) begun.0.1

-- there are few pages
pub pages_few : (image : List ℕ) → IsOwnBegun image → pages_needed (blocks image) < 2 ^ 29
pages_few image begun = omega (arith, size_high (blocks image) begun.0.1)

-- a walk has no more members than there are blocks
walk_within : {image : List ℕ} {store : StoreValue} → store.used ≡ claimed_count store.owners → {w : Walk} → StoreMatches image store w
    → length w ≤ blocks image
walk_within {store = store} used {w = w} tells = grind (arith, common_steps, count_by-le-length)

-- nor are there more headers
pub headers_within : {image : List ℕ} {store : StoreValue} → store.used ≡ claimed_count store.owners → {w : Walk} {n : ℕ} {at : Position}
    → HasRead image store w n at → length store.headers ≤ blocks image
headers_within used {w = w} read = omega (arith, walk_within used read.tells, heads_within w, read.tells.headers.count)

module _ {image : List ℕ} {store : StoreValue} (used : store.used ≡ claimed_count store.owners) where
  walk_short : {w : Walk} {n : ℕ} {at : Position} → HasRead image store w n at → length w ≤ MOST_BLOCKS
  walk_short read = omega (arith, walk_within used read.tells, size_high (blocks image) read.begun.0.1)

  -- the lists of all extension blocks and of all data blocks are short
  pub lists_short : {w : Walk} {n : ℕ} {at : Position} → HasRead image store w n at
      → (length store.exts < 2 ^ 29) × (length store.datas < 2 ^ 29)
  lists_short {w = w} read = grind (arith, common_steps, walk_short, picked_within)

  heads_short : {w : Walk} {n : ℕ} {at : Position} → HasRead image store w n at → heads w + 1 < 2 ^ 29
  heads_short {w = w} read = omega (arith, walk_short read, heads_within w)

  -- the number of a directory is short
  pub parent_short : {chain : Chain} {link : Link} {seen : List ℕ → Type 0} → IsInChain image store chain link seen → chain.parent < 2 ^ 29
  parent_short {chain = chain} st = grind (arith, heads_short, dir_number, of_walk)

  -- the number of a header that is due is short
  pub entry_short : {chain : Chain} {link : Link} {seen : List ℕ → Type 0} → IsInChain image store chain link seen → length store.headers + 1 < 2 ^ 29
  entry_short st = omega (arith, heads_short st.read, st.read.tells.headers.count)
