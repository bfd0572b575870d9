-- A manifest with one more line.
use Rattle.std.proofs.Common.{◌≡◌, ◌++◌, ℕ, List, [], ◌∷◌, Option, Some, None, refl, sym, subst, arith, IfSome, IsOk}
use Rattle.std.specs.List.{All, flat_map}
use Rattle.std.proofs.lemmas.List.{append_assoc, append-nil, map-append, Elements.All-push}
use Rattle.std.proofs.lemmas.Grind.{flat_map-append, common_steps}
use Rattle.adf_names.specs.Escapes.{escaped}
use Rattle.adf_tree.specs.Tree.{Tree, room_for}
use Rattle.adf_base.specs.declared.dates.Stamp.{Stamp}
use Rattle.adf_manifest.specs.Lines.{IsRun, RunValue, note_line, run_line}
use Rattle.adf_manifest.specs.Items.{HaveRoom, IsGivenNote, IsItem, Item, bytes_of_runs, item_lines, items_tree, run_bytes, with_item}
use Rattle.adf_manifest.specs.Manifest.{Entries, IsWell, Manifest, preamble_lines, preamble_tree, items_of, manifest_lines, manifest_tree}
use Rattle.adf_manifest.specs.declared.lines.Sort.{Sort, TheVariants.Dir, TheVariants.File}
use Rattle.adf_tree.proofs.Lists.{last_off}

-- the tree with one entry more, the last
pub tree_more : (t : Tree) (items : List Item) (i : Item) → items_tree t (items ++ i ∷ []) ≡ with_item (items_tree t items) i
unfolding items_tree
tree_more t [] i = refl
tree_more t (x ∷ xs) i = tree_more (with_item t x) xs i

pub tree_none : (t : Tree) → items_tree t [] ≡ t
unfolding items_tree
tree_none t = refl

pub room_none : (t : Tree) → HaveRoom t []
unfolding HaveRoom
room_none t = tt

-- entries have room where those before the last and the last have
pub room_more : (t : Tree) (items : List Item) (i : Item) → HaveRoom t items → IsOk (room_for (items_tree t items).entries i.path)
    → HaveRoom t (items ++ i ∷ [])
unfolding items_tree HaveRoom
room_more t [] i h g = (g, tt)
room_more t (x ∷ xs) i h g = (h.0, room_more (with_item t x) xs i h.1 g)

pub room_less : (t : Tree) (items : List Item) (i : Item) → HaveRoom t (items ++ i ∷ [])
    → HaveRoom t items × IsOk (room_for (items_tree t items).entries i.path)
unfolding items_tree HaveRoom
room_less t [] i h = (tt, h.0)
room_less t (x ∷ xs) i h = let less = room_less (with_item t x) xs i h.1 in ((h.0, less.0), less.1)

-- an entry of a line alone, one with a note, one with a line of bytes more
abbrev pub new_item : Sort → Stamp → ℕ → List (List ℕ) → Item
new_item sort stamp protect path = record { sort = sort; stamp = stamp; protect = protect; path = path; note = None; runs = [] }

abbrev pub noted : Item → List ℕ → Item
noted i note = record i { note = Some note }

abbrev pub with_run : Item → RunValue → Item
with_run i run = record i { runs = i.runs ++ run ∷ [] }

-- a manifest with an entry more, and one with another last entry
abbrev pub with_new : Manifest → Item → Manifest
with_new m i = record { preamble = m.preamble; entries = Some (record { before = items_of m.entries; last = i }) }

abbrev pub with_last : Manifest → Entries → Item → Manifest
with_last m e i = record { preamble = m.preamble; entries = Some (record { before = e.before; last = i }) }

lines_push : (items : List Item) (i : Item) → flat_map item_lines (items ++ i ∷ []) ≡ flat_map item_lines items ++ item_lines i
lines_push items i = simp (flat_map-append, append-nil)

pub new_lines : (m : Manifest) (i : Item) → manifest_lines (with_new m i) ≡ manifest_lines m ++ item_lines i
new_lines m i = rw lines_push (sym (append_assoc (preamble_lines m.preamble) (flat_map item_lines (items_of m.entries)) (item_lines i)))

pub new_well : (m : Manifest) (i : Item) → IsWell m → IsItem i → IsOk (room_for (manifest_tree m).entries i.path) → IsWell (with_new m i)
new_well m i w g room = grind (arith, common_steps, room_more, All-push IsItem (items_of m.entries) i w.items)

last_split : (h : List (List ℕ)) (before : List Item) (last last' : Item) (text : List ℕ) → item_lines last' ≡ item_lines last ++ text ∷ []
    → h ++ flat_map item_lines (before ++ last' ∷ []) ≡ (h ++ flat_map item_lines (before ++ last ∷ [])) ++ text ∷ []
last_split h before last last' text e = rw (lines_push before last', lines_push before last, e) (simp append_assoc)

pub last_lines : (m : Manifest) (e : Entries) (i : Item) (text : List ℕ) → m.entries ≡ Some e → item_lines i ≡ item_lines e.last ++ text ∷ []
    → manifest_lines (with_last m e i) ≡ manifest_lines m ++ text ∷ []
last_lines m e i text is g = rw is (last_split (preamble_lines m.preamble) e.before e.last i text g)

-- the entries before the last, and the last
pub well_before : (m : Manifest) (e : Entries) → IsWell m → m.entries ≡ Some e
    → All IsItem (e.before ++ e.last ∷ []) × HaveRoom (preamble_tree m.preamble) (e.before ++ e.last ∷ [])
well_before m e w is = (subst (λ x. All IsItem (items_of x)) is w.items, subst (λ x. HaveRoom (preamble_tree m.preamble) (items_of x)) is w.room)

-- an entry with other lines behind its own
pub item_with : (i : Item) (comment : Option (List ℕ)) (runs : List RunValue) → IsItem i → IfSome comment IsGivenNote → All IsRun runs
    → (i.sort ≡ Dir → runs ≡ [])
    → IsItem (record i { note = comment; runs = runs })
item_with i comment runs g h r p = record { stamp = g.stamp; protect = g.protect; filled = g.filled; names = g.names; note = h; runs = r; plain = p }

-- an entry with a note: its lines, and its limits
pub noted_lines : (i : Item) (note : List ℕ) → i.note ≡ None → i.runs ≡ [] → item_lines (noted i note) ≡ item_lines i ++ note_line (escaped note) ∷ []
noted_lines i note e g = grind (arith, common_steps)

pub noted_is : (i : Item) (note : List ℕ) → IsItem i → IsGivenNote note → IsItem (noted i note)
noted_is i note g h = item_with i (Some note) i.runs g h g.runs g.plain

-- an entry with a line of bytes more
pub with_run_lines : (i : Item) (run : RunValue) → item_lines (with_run i run) ≡ item_lines i ++ run_line run ∷ []
with_run_lines i run = simp (map-append, append_assoc)

pub with_run_is : (i : Item) (run : RunValue) → IsItem i → i.sort ≡ File → IsRun run → IsItem (with_run i run)
with_run_is i run g e h = grind (arith, common_steps, item_with)

pub with_run_bytes : (i : Item) (run : RunValue) → bytes_of_runs (with_run i run).runs ≡ bytes_of_runs i.runs ++ run_bytes run
with_run_bytes i run = simp (flat_map-append, append-nil)

-- a manifest with another last entry of the same path
pub last_well : (m : Manifest) (e : Entries) (i : Item) → IsWell m → m.entries ≡ Some e → IsItem i → i.path ≡ e.last.path → IsWell (with_last m e i)
last_well m e i w is g same =
    let both = well_before m e w is in
    let less = room_less (preamble_tree m.preamble) e.before e.last both.1 in
    record {
      preamble = w.preamble;
      items = All-push IsItem e.before i (last_off IsItem e.before e.last both.0).0 g;
      room = room_more (preamble_tree m.preamble) e.before i less.0
          (subst (λ p. IsOk (room_for (items_tree (preamble_tree m.preamble) e.before).entries p))
          (sym same)
          less.1);
    }

pub last_is : (m : Manifest) (e : Entries) → IsWell m → m.entries ≡ Some e → IsItem e.last
last_is m e w is = (last_off IsItem e.before e.last (well_before m e w is).0).1
