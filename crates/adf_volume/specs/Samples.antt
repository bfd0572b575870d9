-- Small images, for trying the definitions.
use Rattle.std.specs.Prelude.{ℕ, List, [], ◌∷◌, ◌++◌, replicate}
use Rattle.std.specs.List.{concat}
use Rattle.adf_base.specs.{Words.with_word, declared.dates.Stamp.Stamp, declared.hash.Letters.Letters, declared.hash.Letters.TheVariants.Ascii}
use Rattle.adf_names.specs.{declared.kind.Kind.TheVariants.Ofs, declared.kind.Kind.TheVariants.Ffs, Meta.new_meta, declared.meta.Stamps.Stamps}
use Rattle.adf_tree.specs.{declared.entry.Body.TheVariants.File, declared.entry.Entry.Entry, Tree.Tree}
use Rattle.adf_volume.specs.Layout.{Layout}

-- the root of an empty volume of 4 blocks: words 0, 3, 5, 78, 79 and 127
unfoldable pub tiny_root : List ℕ
tiny_root =
    (0 ∷ 0 ∷ 0 ∷ 2 ∷ []) ++ (replicate 8 0
    ++ ((0 ∷ 0 ∷ 0 ∷ 0x48 ∷ []) ++ (replicate 4 0
    ++ ((0xFF ∷ 0xFF ∷ 0xFF ∷ 0xB3 ∷ []) ++ (replicate 288 0
    ++ ((0xFF ∷ 0xFF ∷ 0xFF ∷ 0xFF ∷ []) ++ ((0 ∷ 0 ∷ 0 ∷ 3 ∷ []) ++ (replicate 188 0 ++ (0 ∷ 0 ∷ 0 ∷ 1 ∷ [])))))))))

-- an empty volume of this type and 4 blocks: the boot blocks, the root, and a page without a free block
unfoldable pub tiny : ℕ → List ℕ
tiny type = (0x44 ∷ 0x4F ∷ 0x53 ∷ type ∷ []) ++ (replicate 1020 0 ++ (tiny_root ++ replicate 512 0))

-- the earliest date
abbrev no_stamp : Stamp
no_stamp = record { days = 0; mins = 0; ticks = 0 }

-- the dates of the samples
abbrev no_stamps : Stamps
no_stamps = record { root = no_stamp; altered = no_stamp; created = no_stamp }

-- the tree of the smallest FFS volume with these letters
abbrev pub tiny_tree : Letters → Tree
tiny_tree letters = record { kind = Ffs; letters = letters; label = []; stamps = no_stamps; entries = [] }

-- the blocks of the smallest volume
abbrev pub tiny_layout : Layout
tiny_layout = record { pages = 3 ∷ []; map_exts = []; places = [] }

-- a block of zeros but for these words, each behind its number
abbrev pub block_with : List (ℕ × ℕ) → List ℕ
block_with [] = replicate 512 0
block_with (x ∷ xs) = with_word (block_with xs) x.0 x.1

-- an OFS volume of 6 blocks with a file `a` of one byte: its header, block 2; the root, with it in slot 6; the page, without a free block; and
-- its data block, block 5
unfoldable pub one_file : List ℕ
one_file = concat (
    block_with ((0, 0x444F5300) ∷ [])
    ∷ block_with []
    ∷ block_with ((0, 2) ∷ (1, 2) ∷ (2, 1) ∷ (4, 5) ∷ (5, 0xFE9EFFF0) ∷ (77, 5) ∷ (81, 1) ∷ (108, 0x01610000) ∷ (125, 3) ∷ (127, 0xFFFFFFFD) ∷ [])
    ∷ block_with ((0, 2) ∷ (3, 0x48) ∷ (5, 0xFFFFFFB0) ∷ (12, 2) ∷ (78, 0xFFFFFFFF) ∷ (79, 4) ∷ (127, 1) ∷ [])
    ∷ block_with []
    ∷ block_with ((0, 8) ∷ (1, 2) ∷ (2, 1) ∷ (3, 1) ∷ (5, 0xBEFFFFF4) ∷ (6, 0x41000000) ∷ [])
    ∷ []
    )

-- the file
abbrev pub file_a : Entry
file_a = record { parent = 0; name = 0x61 ∷ []; meta = new_meta [] 0 no_stamp; body = File (0x41 ∷ []) }

-- its tree
abbrev pub one_file_tree : Tree
one_file_tree = record { kind = Ofs; letters = Ascii; label = []; stamps = no_stamps; entries = file_a ∷ [] }

-- its blocks
abbrev pub one_file_layout : Layout
one_file_layout = record { pages = 4 ∷ []; map_exts = []; places = record { head = 2; exts = []; datas = 5 ∷ [] } ∷ [] }

-- an empty FFS volume of 6 blocks: the root is block 3, and its page, block 4, tells block 2 alone as free; so block 5 is lost
unfoldable pub one_lost : List ℕ
one_lost = concat (
    block_with ((0, 0x444F5301) ∷ [])
    ∷ block_with [] ∷ block_with []
    ∷ block_with ((0, 2) ∷ (3, 0x48) ∷ (5, 0xFFFFFFB2) ∷ (78, 0xFFFFFFFF) ∷ (79, 4) ∷ (127, 1) ∷ [])
    ∷ block_with ((0, 0xFFFFFFFF) ∷ (1, 1) ∷ [])
    ∷ block_with [] ∷ []
    )
