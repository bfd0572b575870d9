-- The bytes of files.
use Rattle.std.specs.Prelude.{ℕ, List, length, Option, Some, None}
use Rattle.adf_tree.specs.declared.entry.Body.{Body, TheVariants.Dir, TheVariants.File}
use Rattle.adf_tree.specs.{declared.entry.Entry.Entry, Tree.Tree, Tree.entry}
use Rattle.adf_names.specs.declared.kind.Kind.{Kind}
use Rattle.adf_volume.specs.{Image.pieces, Layout.Layout, Layout.datas_of}

-- the pieces of a file with these data blocks, one for each; none for a directory
abbrev pub pieces_in : List ℕ → Kind → List ℕ → Body → Option (List (List ℕ))
pieces_in image kind datas Dir = None
pieces_in image kind datas (File bytes) = Some (pieces image kind (length bytes) 1 datas)

-- the pieces of an entry that is a file
abbrev pub pieces_of : List ℕ → Kind → List ℕ → Option Entry → Option (List (List ℕ))
pieces_of image kind datas None = None
pieces_of image kind datas (Some e) = pieces_in image kind datas e.body

-- the pieces of node n in a tree and a layout
abbrev pub pieces_at : List ℕ → Tree → Layout → ℕ → Option (List (List ℕ))
pieces_at image t l n = pieces_of image t.kind (datas_of l n) (entry t.entries n)

-- the bytes of a file, none for a directory
abbrev pub body_bytes : Body → Option (List ℕ)
body_bytes Dir = None
body_bytes (File bytes) = Some bytes

-- the bytes of an entry that is a file
abbrev pub bytes_of : Option Entry → Option (List ℕ)
bytes_of None = None
bytes_of (Some e) = body_bytes e.body
