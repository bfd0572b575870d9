-- The lines of `list`. In each definition `date` is the text of a date.
use Rattle.std.specs.Prelude.{ℕ, ◌==◌, List, [], ◌++◌, codes, if◌then◌else◌, length, Some, None}
use Rattle.std.specs.{Fmt.decimal, List.flat_map, List.range_with_len}
use Rattle.adf_fields.specs.Dates.{IsStampText}
use Rattle.adf_base.specs.declared.dates.Stamp.{Stamp}
use Rattle.adf_names.specs.{Escapes.escaped, PathTexts.path_text, declared.kind.Kind.Kind, declared.meta.Meta.Meta, Kinds.kind_text}
use Rattle.adf_tree.specs.{Paths.names_of, Tree.Tree, Tree.entry, declared.entry.Entry.Entry}
use Rattle.adf_tree.specs.declared.entry.Body.{Body, TheVariants.Dir, TheVariants.File}
use Rattle.adf_names.specs.declared.meta.Stamps.{Stamps}
use Rattle.adf_names.specs.Digits.{hex_word, right_in_ten}

-- each date has its text
abbrev pub AreDates : (Stamp → List ℕ) → Type 0
AreDates date = (s : Stamp) → IsStampText s (date s)

-- a word and a text
abbrev pub text_line : List ℕ → List ℕ → List ℕ
text_line word text = word ++ (text ++ codes "\n")

-- a word and the escape form of a text, unless it is empty
abbrev pub escaped_line : List ℕ → List ℕ → List ℕ
escaped_line word text = if length text == 0 then [] else text_line word (escaped text)

-- the kind of the volume and the number of its blocks
abbrev pub blocks_line : Kind → ℕ → List ℕ
blocks_line kind n = codes "volume " ++ (kind_text kind ++ (codes " blocks " ++ (decimal n ++ codes "\n")))

-- the dates of the volume
abbrev pub dates_lines : (Stamp → List ℕ) → Stamps → List ℕ
dates_lines date s = text_line (codes "root ") (date s.root)
    ++ (text_line (codes "altered ") (date s.altered) ++ text_line (codes "created ") (date s.created))

-- the lines before the entries
abbrev pub opening_lines : (Stamp → List ℕ) → Kind → List ℕ → Stamps → ℕ → List ℕ
opening_lines date kind label stamps n = blocks_line kind n ++ (escaped_line (codes "label ") label ++ dates_lines date stamps)

-- the word of an entry, left-aligned in four columns
abbrev pub body_word : Body → List ℕ
body_word Dir = codes "dir "
body_word (File bytes) = codes "file"

-- the number of a file's bytes
abbrev pub size_text : Body → List ℕ
size_text Dir = codes "-"
size_text (File bytes) = decimal (length bytes)

-- the line with this path, this word and this size, and the line of the note
abbrev pub lines_with : (Stamp → List ℕ) → List ℕ → List ℕ → List ℕ → Meta → List ℕ
lines_with date path word size meta = word ++ (codes " " ++ (hex_word meta.protect ++ (codes " " ++ (right_in_ten size ++ (codes " "
    ++ (date meta.stamp ++ (codes " " ++ (path ++ (codes "\n" ++ escaped_line (codes "note ") meta.comment)))))))))

-- the line of an entry with these names, and the line of its note
abbrev pub entry_lines : (Stamp → List ℕ) → List (List ℕ) → Entry → List ℕ
entry_lines date names e = lines_with date (path_text names) (body_word e.body) (size_text e.body) e.meta

-- the lines of entry n
abbrev pub lines_of_entry : (Stamp → List ℕ) → List Entry → ℕ → List ℕ
lines_of_entry date es n = elim (entry es n) [ None ↦ [] | Some e ↦ entry_lines date (names_of es n) e ]

-- the lines of the first k entries
unfoldable pub lines_of_entries : (Stamp → List ℕ) → List Entry → ℕ → List ℕ
lines_of_entries date es k = flat_map (lines_of_entry date es) (range_with_len 1 k)

-- the lines of a tree in n blocks
abbrev pub volume_lines : (Stamp → List ℕ) → Tree → ℕ → List ℕ
volume_lines date t n = opening_lines date t.kind t.label t.stamps n ++ lines_of_entries date t.entries (length t.entries)
