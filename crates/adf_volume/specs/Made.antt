-- The tree and the layout of a whole walk.
use Rattle.std.specs.Prelude.{Bool, true, false, ℕ, List, [], ◌∷◌, ◌++◌, cond, ◌==◌}
use Rattle.adf_base.specs.declared.hash.Letters.{Letters, TheVariants.Ascii}
use Rattle.adf_blocks.specs.declared.layout.TheConstants.{SECONDARY_TYPE, ST_DIR}
use Rattle.adf_volume.specs.Image.{word_in, root_of, kind_of, name_of, meta_of, stamps_of, content}
use Rattle.adf_tree.specs.declared.entry.Body.{Body, TheVariants.Dir, TheVariants.File}
use Rattle.adf_tree.specs.{declared.entry.Entry.Entry, Tree.Tree}
use Rattle.adf_volume.specs.{Layout.Place, Layout.Layout, Walk.Role, Walk.Walk, Walk.Role.Page, Walk.Role.MapExt, Walk.Role.Head, Walk.Role.Ext, Walk.Role.Data}

-- the blocks of the members that satisfy a test, in order
abbrev pub picked : (Role → Bool) → Walk → List ℕ
picked f [] = []
picked f (x ∷ w) = cond (f x.0) (picked f w ++ x.1 ∷ []) (picked f w)

-- whether a role is a page
abbrev pub is_page : Role → Bool
is_page (Page i) = true
is_page _ = false

-- whether a role is a bitmap extension block
abbrev pub is_map_ext : Role → Bool
is_map_ext (MapExt j) = true
is_map_ext _ = false

-- whether a role is an extension block of file n
abbrev pub is_ext_of : ℕ → Role → Bool
is_ext_of n (Ext m k) = n == m
is_ext_of n _ = false

-- whether a role is a data block of file n
abbrev pub is_data_of : ℕ → Role → Bool
is_data_of n (Data m k) = n == m
is_data_of n _ = false

-- the pages of a walk
abbrev pub pages_in : Walk → List ℕ
pages_in w = picked is_page w

-- the bitmap extension blocks of a walk
abbrev pub map_exts_in : Walk → List ℕ
map_exts_in w = picked is_map_ext w

-- the extension blocks of file n in a walk
abbrev pub exts_in : Walk → ℕ → List ℕ
exts_in w n = picked (is_ext_of n) w

-- the list with the block appended if it is an extension block of file n
abbrev pub push_ext : ℕ → Role → ℕ → List ℕ → List ℕ
push_ext n r b bs = cond (is_ext_of n r) (bs ++ b ∷ []) bs

-- the data blocks of file n in a walk
abbrev pub datas_in : Walk → ℕ → List ℕ
datas_in w n = picked (is_data_of n) w

-- the body of node n, with its header at block b
abbrev pub body_in : List ℕ → Walk → ℕ → ℕ → Body
body_in image w n b = cond (word_in image b SECONDARY_TYPE == ST_DIR) Dir (File (content image (kind_of image) b (datas_in w n)))

-- the entry of node n in directory p, with its header at block b
abbrev pub entry_in : List ℕ → Walk → ℕ → ℕ → ℕ → Entry
entry_in image w n p b = record { parent = p; name = name_of image b; meta = meta_of image b; body = body_in image w n b }

-- the blocks of node n, with its header at block b
abbrev pub place_in : Walk → ℕ → ℕ → Place
place_in w n b = record { head = b; exts = exts_in w n; datas = datas_in w n }

-- the list with f of the header's node, parent and block appended, if the role is a header
abbrev pub push_head : {X : Type 0} → (ℕ → ℕ → ℕ → X) → Role → ℕ → List X → List X
push_head f (Head n p s j) b xs = xs ++ f n p b ∷ []
push_head f _ b xs = xs

-- f of each header of a walk, in the order in which they were read
abbrev pub of_heads : {X : Type 0} → (ℕ → ℕ → ℕ → X) → Walk → List X
of_heads f [] = []
of_heads f (x ∷ w) = push_head f x.0 x.1 (of_heads f w)

-- the entries of the headers of w, a part of the whole walk `full`
abbrev pub entries_in : List ℕ → Walk → Walk → List Entry
entries_in image full w = of_heads (entry_in image full) w

-- the blocks of the headers of w, a part of the whole walk `full`
abbrev pub places_in : Walk → Walk → List Place
places_in full w = of_heads (λ n p b. place_in full n b) w

-- the tree of a whole walk; names have these letters
abbrev pub tree_in_by : Letters → List ℕ → Walk → Tree
tree_in_by letters image w = record {
  kind = kind_of image;
  letters = letters;
  label = name_of image (root_of image);
  stamps = stamps_of image (root_of image);
  entries =
      entries_in image w w;
}

-- the same on volumes of types 0 and 1
abbrev pub tree_in : List ℕ → Walk → Tree
tree_in = tree_in_by Ascii

-- the layout of a whole walk
abbrev pub layout_in : Walk → Layout
layout_in w = record { pages = pages_in w; map_exts = map_exts_in w; places = places_in w w }
