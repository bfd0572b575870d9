-- The blocks of the parts of a volume.
use Rattle.std.specs.Prelude.{◌≡◌, ℕ, List, [], ◌∷◌, ◌++◌, cond}
use Rattle.std.proofs.Common.{zero, suc}
use Rattle.adf_base.specs.declared.hash.Letters.{Letters, TheVariants.Ascii}
use Rattle.adf_tree.specs.{declared.entry.Entry.Entry, declared.entry.Body.TheVariants.File, Tree.Tree, Chain.in_chain_by}
use Rattle.adf_volume.specs.{Lists.At, Lists.numbered, Image.root_of, declared.owner.Owner.Owner}
use Rattle.adf_volume.specs.declared.owner.Owner.TheVariants.{Root, Page, MapExt, Head, Ext, Data}

-- entry n of a tree, counted from 1
abbrev pub EntryAt : Tree → ℕ → Entry → Type 0
EntryAt t zero e = ⊥
EntryAt t (suc i) e = At t.entries i e

-- the numbers of the entries with this parent and slot, in order, where names have these letters
abbrev pub nodes_from_by : Letters → ℕ → List Entry → ℕ → ℕ → List ℕ
nodes_from_by letters n [] p s = []
nodes_from_by letters n (e ∷ es) p s =
    cond (in_chain_by letters p s e) (n ∷ nodes_from_by letters (suc n) es p s) (nodes_from_by letters (suc n) es p s)

-- the chain of slot s of directory p, as the numbers of its entries; names have these letters
abbrev pub chain_nodes_by : Letters → Tree → ℕ → ℕ → List ℕ
chain_nodes_by letters t p s = nodes_from_by letters 1 t.entries p s

-- the same on volumes of types 0 and 1
abbrev pub chain_nodes : Tree → ℕ → ℕ → List ℕ
chain_nodes = chain_nodes_by Ascii

-- entry n is a file
pub record IsFile (t : Tree) (n : ℕ) : Type 0 where
  pub entry : Entry
  pub bytes : List ℕ
  pub at : EntryAt t n entry
  pub body : entry.body ≡ File bytes

-- the blocks of an entry: its header, its extension blocks and its data blocks
pub record Place : Type 0 where
  pub head : ℕ
  pub exts : List ℕ
  pub datas : List ℕ

-- the blocks of a volume: its pages, its bitmap extension blocks and its entries
pub record Layout : Type 0 where
  pub pages : List ℕ
  pub map_exts : List ℕ
  pub places : List Place

-- the header at index i, 0 past the last
abbrev pub head_at : List Place → ℕ → ℕ
head_at [] i = 0
head_at (q ∷ qs) zero = q.head
head_at (q ∷ qs) (suc i) = head_at qs i

-- the extension blocks at index i, none past the last
abbrev pub exts_at : List Place → ℕ → List ℕ
exts_at [] i = []
exts_at (q ∷ qs) zero = q.exts
exts_at (q ∷ qs) (suc i) = exts_at qs i

-- the data blocks at index i, none past the last
abbrev pub datas_at : List Place → ℕ → List ℕ
datas_at [] i = []
datas_at (q ∷ qs) zero = q.datas
datas_at (q ∷ qs) (suc i) = datas_at qs i

-- the block of node n: the root, or the header of an entry
abbrev pub at_node : List ℕ → Layout → ℕ → ℕ
at_node image l zero = root_of image
at_node image l (suc i) = head_at l.places i

-- the extension blocks of entry n
abbrev pub exts_of : Layout → ℕ → List ℕ
exts_of l zero = []
exts_of l (suc i) = exts_at l.places i

-- the data blocks of entry n
abbrev pub datas_of : Layout → ℕ → List ℕ
datas_of l zero = []
datas_of l (suc i) = datas_at l.places i

-- the blocks of the entries from number n on, each with its owner
abbrev pub owned_from : ℕ → List Place → List (Owner × ℕ)
owned_from n [] = []
owned_from n (q ∷ qs) = (Head n, q.head) ∷ ((numbered (Ext n) 1 q.exts ++ numbered (Data n) 1 q.datas) ++ owned_from (suc n) qs)

-- the parts of a volume: root, pages, bitmap extension blocks; then for each entry its header, extension, data blocks
abbrev pub owned : List ℕ → Layout → List (Owner × ℕ)
owned image l = (Root, root_of image) ∷ (numbered Page 0 l.pages ++ (numbered MapExt 0 l.map_exts ++ owned_from 1 l.places))
