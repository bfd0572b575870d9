-- Sound entries.
-- Letters: w the walk of a survey, fs its findings; n an entry's node, h its header's block, g its position; up its
-- directory's block; q, r roles; b the block of one; a, i the block and the word that point to it; k a part's number.
use Rattle.std.specs.Prelude.{◌≡◌, ◌<◌, ◌≤◌, ◌/◌, ◌==◌, ◌&&◌, ◌↔◌, ℕ, Bool, false, List, Some}
use Rattle.std.proofs.Common.{suc}
use Rattle.adf_base.specs.Words.{block, long_sum}
use Rattle.adf_blocks.specs.declared.layout.TheConstants.{DATA_HEAD, DATA_NUMBER, POINTERS, SIZE, TYPE, T_DATA}
use Rattle.adf_volume.specs.{Demands.AllHold, Demands.data_demands, Demands.ext_demands, Lists.At, Lists.In, Made.datas_in}
use Rattle.adf_names.specs.declared.kind.Kind.TheVariants.{Ffs}
use Rattle.adf_volume.specs.Image.{held, kind_of, table_word, word_in}
use Rattle.adf_volume.specs.Walk.{Role, Same, Has, HeadAt, NodeAt, MemberAt, data_count, Asks, node_block, Walk, Role.Head, Role.Ext, Role.Data}
use Rattle.adf_findings.specs.{Demands.head_demands_in, Survey.FindingValue}

-- no finding concerns the part
abbrev pub IsUnreported : List FindingValue → Role → Type 0
IsUnreported fs r = (f : FindingValue) (q : Role) → In fs f → f.part ≡ Some q → Same q r → ⊥

-- block b says of itself that it is OFS data block k of the file with its header at block h: by its type, words 1 and 2, and its sum
abbrev pub says_data_of : List ℕ → ℕ → ℕ → ℕ → Bool
says_data_of image h k b =
    (word_in image b TYPE == T_DATA)
    && (word_in image b DATA_HEAD == h)
    && (word_in image b DATA_NUMBER == k)
    && (long_sum (block image b) == 0)

-- no data block of an FFS volume says that it is an OFS one of its file
abbrev pub IsOfItsKind : List ℕ → Walk → Type 0
IsOfItsKind image w = kind_of image ≡ Ffs → (n k b : ℕ) → Has w (Data n k) b → says_data_of image (node_block w n) k b ≡ false

-- The header of the entry is in the walk, and no finding concerns it or an extension or data block of the entry. Of a directory, each
-- header that a finding concerns was taken, so that no chain of it is broken.
-- An FFS data block does not identify its file, so no other part may ask for its block, nor may it say that it is an OFS one.
pub record IsSound (image : List ℕ) (w : Walk) (fs : List FindingValue) (n h : ℕ) : Type 0 where
  pub header : HeadAt w n h
  pub unreported : IsUnreported fs (Head n header.parent header.slot header.place)
  pub exts : (k : ℕ) → IsUnreported fs (Ext n k)
  pub datas : (k : ℕ) → IsUnreported fs (Data n k)
  pub chains : (f : FindingValue) (m s j : ℕ) → In fs f → f.part ≡ Some (Head m n s j) → (b : ℕ) × Has w (Head m n s j) b
  pub alone : kind_of image ≡ Ffs → (k b : ℕ) → Has w (Data n k) b → (q : Role) (a i : ℕ) → Asks image w q a i → word_in image a i ≡ b → Same q (Data n k)
  pub own : kind_of image ≡ Ffs → (k b : ℕ) → Has w (Data n k) b → says_data_of image h k b ≡ false

-- the header of the entry, at block h, has its form in its chain
abbrev pub HeaderHolds : List ℕ → Walk → ℕ → ℕ → Type 0
HeaderHolds image w n h = (g : HeadAt w n h) (up : ℕ) → NodeAt w g.parent up → AllHold (head_demands_in image (kind_of image) h up g.slot)

-- the block that data block k of the file names as the next one: that of data block k + 1 if the size asks for one more, else 0
pub record IsNextData (image : List ℕ) (w : Walk) (n h k next : ℕ) : Type 0 where
  pub inner : k < data_count image h → Has w (Data n (suc k)) next
  pub last : data_count image h ≤ k → next ≡ 0

-- Each data block, by the size of the file, is in the walk, at the block in the table;
-- its extension blocks and data blocks have their forms, the latter with the next data block.
pub record FileHolds (image : List ℕ) (w : Walk) (n h : ℕ) : Type 0 where
  pub named : (k : ℕ) → k < data_count image h
      → (a b : ℕ) × MemberAt image w n (k / POINTERS) a × (word_in image a (table_word k) ≡ b) × Has w (Data n (suc k)) b
  pub exts : (k b : ℕ) → Has w (Ext n k) b → AllHold (ext_demands image b h)
  pub datas : (k b : ℕ) → Has w (Data n (suc k)) b
      → (next : ℕ) × IsNextData image w n h (suc k) next
      × AllHold (data_demands image (kind_of image) b h (suc k) (held (kind_of image) (word_in image h SIZE) (suc k)) next)

-- data block k + 1 of the file, counted from 1, is at index k of those in the walk
abbrev pub DatasInOrder : Walk → ℕ → Type 0
DatasInOrder w n = (k b : ℕ) → At (datas_in w n) k b ↔ Has w (Data n (suc k)) b
