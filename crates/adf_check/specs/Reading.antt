-- The states of a check along the order of roles: the walk so far, and the position in the order.
-- Letters: w a walk; r a role; a a block with a word that points to block b; n a node, h its header; p a directory's node, up its block;
-- s a slot; j a position in a chain, or the number of a bitmap extension block; k the number of a page or of a data block.
use Rattle.std.specs.Prelude.{◌≡◌, ℕ, List, [], ◌+◌, ◌-◌, ◌/◌, ◌%◌, ◌≤◌, cond, nat_lt, length, true}
use Rattle.std.proofs.Common.{zero, suc}
use Rattle.adf_blocks.specs.declared.layout.TheConstants.{EXTENSION, FIRST_MAP_EXT, FIRST_PAGE, MAP_EXT_NEXT, MAP_EXT_PAGES, ROOT_PAGES, SIZE}
use Rattle.adf_tree.specs.NameSet.{has, Names}
use Rattle.adf_names.specs.Texts.{uppers_by}
use Rattle.adf_volume.specs.{Lists.At, Demands.AllHold, Fits.FitsBy, Start.IsOwnBegun, Made.tree_in_by, Made.layout_in}
use Rattle.adf_volume.specs.Image.{letters_of, word_in, root_of, name_of}
use Rattle.adf_volume.specs.Walk.{Has, DirAt, FileAt, MemberAt, NamesPage, ext_count, IsWhole, bitmap_demands, Walk, Role.Page, Role.Head, Role.Ext, Role.Data}
use Rattle.adf_volume.specs.Positions.{Position, IsLink, IsPageHolder, IsUpTo, before_node, before_page, position_of, word_of_page}
use Rattle.adf_check.specs.{Own.IsOwnWalk, declared.chains.Chain.Chain, declared.claims.Link.Link, declared.file.File.File}
use Rattle.adf_check.specs.Store.{StoreValue, StoreMatches}

-- the image begins as a volume; the walk has all parts before the position and none after it; n nodes are begun, each the root or one
-- with a header; the store matches the walk
pub record HasRead (image : List ℕ) (store : StoreValue) (w : Walk) (n : ℕ) (at : Position) : Type 0 where
  pub begun : IsOwnBegun image
  pub tells : StoreMatches image store w
  pub started : length store.starts ≡ n
  pub within : n ≤ suc (length store.headers)
  pub is_walk : IsOwnWalk image w
  pub up_to : IsUpTo image w [] at

-- the check is at a position, with n nodes begun
pub record IsAt (image : List ℕ) (store : StoreValue) (n : ℕ) (at : Position) : Type 0 where
  pub walk : Walk
  pub read : HasRead image store walk n at

-- the nodes below n have been read
abbrev pub IsAtNode : List ℕ → StoreValue → ℕ → Type 0
IsAtNode image store n = IsAt image store n (before_node n)

-- node n has been begun, and none of its parts has been read
abbrev pub IsInNode : List ℕ → StoreValue → ℕ → Type 0
IsInNode image store n = IsAt image store (suc n) (before_node n)

-- everything before slot s of directory p, at block up, has been read
pub record IsAtSlot (image : List ℕ) (store : StoreValue) (p up s : ℕ) : Type 0 where
  pub walk : Walk
  pub read : HasRead image store walk (suc p) (position_of (Head 0 p s 0))
  pub dir : DirAt image walk p up

-- `seen` holds for the upper-case names, by the letters of the image, of the headers that the walk has in a chain, and for no others
pub record Sees (image : List ℕ) (w : Walk) (p s : ℕ) (seen : List ℕ → Type 0) : Type 0 where
  pub all : (m k c : ℕ) → Has w (Head m p s k) c → seen (uppers_by (letters_of image) (name_of image c))
  pub only : (x : List ℕ) → seen x → (m k c : ℕ) × Has w (Head m p s k) c × (uppers_by (letters_of image) (name_of image c) ≡ x)

-- the names in the set
abbrev pub sees_of : Names → List ℕ → Type 0
sees_of names x = has names x ≡ true

-- in the chain, the next pointer is this link, and `seen` holds for the names read so far
pub record IsInChain (image : List ℕ) (store : StoreValue) (chain : Chain) (link : Link) (seen : List ℕ → Type 0) : Type 0 where
  pub walk : Walk
  pub place : ℕ
  pub read : HasRead image store walk (suc chain.parent) (position_of (Head 0 chain.parent chain.slot place))
  pub dir : DirAt image walk chain.parent chain.up
  pub index : ℕ
  pub pointer : IsLink image walk chain.parent chain.slot place link.holder index
  pub named : word_in image link.holder index ≡ link.block
  pub sees : Sees image walk chain.parent chain.slot seen

-- the pages below k and their bitmap extension blocks have been read; block a points to the last one, or is the root
pub record IsBeforePage (image : List ℕ) (store : StoreValue) (k a : ℕ) : Type 0 where
  pub walk : Walk
  pub read : HasRead image store walk 0 (before_page k)
  pub holder : IsPageHolder image walk k a

-- everything before page k has been read, and a word of block a points to it
pub record IsAtPage (image : List ℕ) (store : StoreValue) (k a : ℕ) : Type 0 where
  pub walk : Walk
  pub read : HasRead image store walk 0 (position_of (Page k))
  pub named : NamesPage image walk k a (word_of_page k)

-- the block of bitmap extension block j, from the pointers alone
abbrev pub block_of_map_ext : List ℕ → ℕ → ℕ
block_of_map_ext image zero = word_in image (root_of image) FIRST_MAP_EXT
block_of_map_ext image (suc j) = word_in image (block_of_map_ext image j) MAP_EXT_NEXT

-- the block of page k, from the pointers alone
abbrev pub block_of_page : List ℕ → ℕ → ℕ
block_of_page image k =
    cond (nat_lt k ROOT_PAGES) (word_in image (root_of image) (FIRST_PAGE + k))
    (word_in image (block_of_map_ext image ((k - ROOT_PAGES) / MAP_EXT_PAGES)) ((k - ROOT_PAGES) % MAP_EXT_PAGES))

-- the list has the blocks of pages 0 to k - 1
pub record IsListed (image : List ℕ) (list : List ℕ) (k : ℕ) : Type 0 where
  pub size : length list ≡ k
  pub pages : (i b : ℕ) → At list i b → block_of_page image i ≡ b

-- the table has the header of the file, then the extension blocks in the walk
pub record HasExtTable (image : List ℕ) (w : Walk) (file : File) (table : List ℕ) : Type 0 where
  pub head : FileAt image w file.node file.head
  pub size : file.size ≡ word_in image file.head SIZE
  pub members : (m c : ℕ) → At table m c → MemberAt image w file.node m c
  pub counted : length table ≡ suc (ext_count w file.node)

-- the table has the extension blocks of the file read so far, and the next pointer is this link
pub record IsInExts (image : List ℕ) (store : StoreValue) (file : File) (table : List ℕ) (link : Link) : Type 0 where
  pub walk : Walk
  pub extra : ℕ
  pub read : HasRead image store walk (suc file.node) (position_of (Ext file.node (suc extra)))
  pub holds : HasExtTable image walk file table
  pub counted : ext_count walk file.node ≡ extra
  pub member : MemberAt image walk file.node extra link.holder
  pub named : word_in image link.holder EXTENSION ≡ link.block

-- the table has all extension blocks of the file, and k of its data blocks have been read
pub record IsInDatas (image : List ℕ) (store : StoreValue) (file : File) (table : List ℕ) (k : ℕ) : Type 0 where
  pub walk : Walk
  pub read : HasRead image store walk (suc file.node) (position_of (Data file.node (suc k)))
  pub holds : HasExtTable image walk file table

-- the walk has all that it asks for, and the store matches the walk
pub record HasReadAll (image : List ℕ) (store : StoreValue) (w : Walk) : Type 0 where
  pub tells : StoreMatches image store w
  pub started : length store.starts ≡ suc (length store.headers)
  pub is_walk : IsOwnWalk image w
  pub whole : IsWhole image w

-- everything has been read
pub record IsRead (image : List ℕ) (store : StoreValue) : Type 0 where
  pub walk : Walk
  pub read : HasReadAll image store walk

-- everything has been read, and the bitmap agrees with the owners below block b
pub record IsMapped (image : List ℕ) (store : StoreValue) (b : ℕ) : Type 0 where
  pub walk : Walk
  pub read : HasReadAll image store walk
  pub low : 2 ≤ b
  pub agrees : AllHold (bitmap_demands image walk 2 (b - 2))

-- the store matches a whole walk whose tree and layout fit, by the letters of the image
pub record StoreFits (image : List ℕ) (store : StoreValue) : Type 0 where
  pub walk : Walk
  pub read : HasReadAll image store walk
  pub fits : FitsBy (letters_of image) image (tree_in_by (letters_of image) image walk) (layout_in walk)
