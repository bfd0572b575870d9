-- The state of the reader after one more line.
use Rattle.std.proofs.Common.{◌≡◌, ◌<◌, ◌++◌, ◌∙◌, ℕ, List, [], ◌∷◌, Option, Some, None, refl, sym, ap, subst, arith, length, length-append}
use Rattle.std.specs.{Prelude.IsOk, Prelude.IfErr, Prelude.Result, Prelude.Ok, Prelude.Err, Prelude.is_some, Prelude.false, List.All, Option.unwrap_or}
use Rattle.std.proofs.lemmas.List.{append-nil, length-replicate, Elements.All-head, Elements.All-nil}
use Rattle.adf_base.specs.{declared.dates.Stamp.Stamp, declared.hash.Letters.TheVariants.Ascii}
use Rattle.adf_names.specs.{Escapes.IsSpelling, Escapes.escaped, PathTexts.IsPathText, PathTexts.path_text, Meta.new_meta}
use Rattle.adf_drafts.specs.Draft.{DraftValue, IsRoomFor}
use Rattle.adf_tree.specs.{Tree.Tree, Tree.room_for, Tree.with_entry, Tree.with_entry_by, declared.entry.Body.Body}
use Rattle.adf_manifest.specs.Lines.{EntryLine, IsLine, IsRun, RunValue, DataRun, FillRun, entry_line, note_line, run_line, LineValue}
use Rattle.adf_manifest.specs.Items.{IsItem, Item, body_of_sort, bytes_of_runs, items_tree, run_bytes, with_item}
use Rattle.adf_manifest.specs.Manifest.{Entries, IsPreamble, IsWell, Manifest, MayStand, preamble_lines, preamble_tree, items_of, manifest_lines, manifest_tree}
use Rattle.adf_manifest.specs.{Reader.HasNextLine, Reader.IsLastEntry, Reader.IsReading, Reader.Stops, Reader.StopsIn, Reader.bare, declared.lines.Sort.Sort}
use Rattle.adf_manifest.specs.{declared.lines.Sort.TheVariants.File, declared.reader.Preamble.Preamble, declared.reader.LastEntry.LastEntry}
use Rattle.adf_manifest.specs.{declared.reader.Reading.Reading, declared.manifest.ManifestKind.ManifestKind, declared.manifest.ManifestKind.TheVariants.BadLine}
use Rattle.adf_manifest.specs.declared.reader.State.TheVariants as state
use Rattle.adf_manifest.proofs.Growth.{with_run, with_run_is, with_run_lines, last_is, last_lines, last_well, new_item, new_lines, new_well, noted, noted_is}
use Rattle.adf_manifest.proofs.Growth.{noted_lines, room_none, tree_more, tree_none, with_last, with_new}
use Rattle.std.proofs.lemmas.Grind.{common_steps}

-- the tree of items has the letters of the tree before them
items_letters : (t : Tree) (items : List Item) → (items_tree t items).letters ≡ t.letters
unfolding items_tree
items_letters t [] = refl
items_letters t (i ∷ items) = items_letters (with_item t i) items

-- so the tree of a manifest has ASCII letters
pub manifest_letters : (m : Manifest) → (manifest_tree m).letters ≡ Ascii
manifest_letters m = items_letters (preamble_tree m.preamble) (items_of m.entries)

pub reading_letters : (r : Reading) (m : Manifest) (e : Entries) → IsReading r m e → r.draft.tree.letters ≡ Ascii
reading_letters r m e g = ap (λ (t : Tree). t.letters) g.tree ∙ items_letters (preamble_tree m.preamble) e.before

pub bare_well : (h : Preamble) → IsPreamble h → IsWell (bare h)
bare_well h g = record { preamble = g; items = All-nil IsItem; room = room_none (preamble_tree h) }

pub bare_lines : (h : Preamble) → manifest_lines (bare h) ≡ preamble_lines h
bare_lines h = append-nil (preamble_lines h)

-- a preamble goes on with a line of its own
pub preamble_step : (h h' : Preamble) (text : List ℕ) → IsPreamble h' → preamble_lines h' ≡ preamble_lines h ++ text ∷ []
    → HasNextLine (state.Preamble h') (bare h) text
preamble_step h h' text g e = (bare h', bare_well h' g, refl, bare_lines h' ∙ e ∙ ap (λ l. l ++ text ∷ []) (sym (bare_lines h)))

pub filled_list : (xs : List ℕ) → 0 < length (escaped xs) → 0 < length xs
filled_list [] h = absurd (omega arith)
filled_list (x ∷ xs) h = omega arith

filled_path : (path : List (List ℕ)) → 0 < length (path_text path) → 0 < length path
filled_path [] h = absurd (omega arith)
filled_path (x ∷ xs) h = omega arith

-- a text that is not empty is not that of the empty path
pub path_filled : (text : List ℕ) (path : List (List ℕ)) → 0 < length text → IsPathText text path → 0 < length path
path_filled text path h p = filled_path path (omega (arith, ap length p.spells))

-- a line of bytes gives some
run_some : (run : RunValue) → IsRun run → 0 < length (run_bytes run)
run_some (DataRun bytes) h = h.0
run_some (FillRun count byte) h = omega (arith, h.0, length-replicate count byte)

pub no_runs : (runs : List RunValue) → All IsRun runs → length (bytes_of_runs runs) ≡ 0 → runs ≡ []
no_runs [] h e = refl
no_runs (r ∷ rs) h e = absurd (omega (arith, run_some r (All-head IsRun r rs h), length-append (run_bytes r) (bytes_of_runs rs), e))

-- behind an entry line
pub entry_step : (m : Manifest) (blocks : ℕ) (draft : DraftValue) (last : LastEntry) (sort : Sort) (stamp : Stamp) (protect : ℕ) (text : List ℕ)
    (path : List (List ℕ)) → IsWell m → blocks ≡ m.preamble.blocks → draft.tree ≡ manifest_tree m → IsLine (EntryLine sort stamp protect text)
    → IsPathText text path → IsRoomFor draft path last.room → last.sort ≡ sort → last.stamp ≡ stamp → last.protect ≡ protect
    → last.note ≡ None → last.bytes.items ≡ []
    → HasNextLine (state.Entries (record { blocks = blocks; draft = draft; last = last })) m (entry_line sort stamp protect text)
entry_step m blocks draft last sort stamp protect text path w b t l p room e1 e2 e3 e4 e5 =
    let item = new_item sort stamp protect path in
    let is : IsItem item = record {
      stamp = l.0;
      protect = l.1;
      filled = path_filled text path l.2 p;
      names = p.names;
      note = tt;
      runs = All-nil IsRun;
      plain = λ d. refl;
    } in
    let same : IsLastEntry last item = record { sort = e1; stamp = e2; protect = e3; note = e4; bytes = e5 } in
    let letters : draft.tree.letters ≡ Ascii = ap (λ (u : Tree). u.letters) t ∙ manifest_letters m in
    let leads = rw letters at room.leads in
    let some : IsOk (room_for draft.tree.entries path) = rw leads refl in
    let entries : Entries = record { before = items_of m.entries; last = item } in (
      with_new m item,
      new_well m item w is (subst (λ (x : Tree). IsOk (room_for x.entries path)) t some),
      (entries, record { entries = refl; blocks = b; tree = t; last = same; room = room }),
      rw p.spells (new_lines m item),
    )

reading_with : (r : Reading) (last : LastEntry) (m : Manifest) (e : Entries) (i : Item) → IsReading r m e → IsLastEntry last i
    → last.room ≡ r.last.room → i.path ≡ e.last.path
    → let n : Manifest = with_last m e i in let s : Entries = record { before = e.before; last = i } in let q : Reading =
    record { blocks = r.blocks; draft = r.draft; last = last } in IsReading q n s
reading_with r last m e i g o at same = record { entries = refl; blocks = g.blocks; tree = g.tree; last = o; room = rw (at, same) g.room }

-- behind a note line
pub note_step : (r : Reading) (last : LastEntry) (m : Manifest) (e : Entries) (text note : List ℕ) → IsWell m → IsReading r m e → r.last.note ≡ None
    → length r.last.bytes.items ≡ 0
    → 0 < length text → IsSpelling 79 text note → IsLastEntry last (noted e.last note) → last.room ≡ r.last.room
    → HasNextLine (state.Entries (record { blocks = r.blocks; draft = r.draft; last = last })) m (note_line text)
note_step r last m e text note w g n b filled spelling o at =
    let is = last_is m e w g.entries in
    let runs = no_runs e.last.runs is.runs (ap length (sym g.last.bytes) ∙ b) in
    let mine = subst (λ t. IsSpelling 79 t note) spelling.spells spelling in
    let some : 0 < length (escaped note) = omega (arith, filled, ap length spelling.spells) in
    let item = noted e.last note in (
      with_last m e item,
      last_well m e item w g.entries (noted_is e.last note is (filled_list note some, mine)) refl,
      (record { before = e.before; last = item }, reading_with r last m e item g o at refl),
      last_lines m e item (note_line (escaped note)) g.entries (noted_lines e.last note (sym g.last.note ∙ n) runs)
          ∙ ap (λ t. manifest_lines m ++ note_line t ∷ []) (sym spelling.spells),
    )

-- behind a line of bytes
pub run_step : (r : Reading) (last : LastEntry) (m : Manifest) (e : Entries) (run : RunValue) → IsWell m → IsReading r m e → r.last.sort ≡ File
    → IsRun run → IsLastEntry last (with_run e.last run) → last.room ≡ r.last.room
    → HasNextLine (state.Entries (record { blocks = r.blocks; draft = r.draft; last = last })) m (run_line run)
run_step r last m e run w g f h o at =
    let item = with_run e.last run in (
      with_last m e item,
      last_well m e item w g.entries (with_run_is e.last run (last_is m e w g.entries) (sym g.last.sort ∙ f) h) refl,
      (record { before = e.before; last = item }, reading_with r last m e item g o at refl),
      last_lines m e item (run_line run) g.entries (with_run_lines e.last run),
    )

-- the tree with the last entry
pub closed_tree : (r : Reading) (m : Manifest) (e : Entries) (tree : Tree) → IsReading r m e → tree ≡ with_item r.draft.tree e.last
    → tree ≡ manifest_tree m
closed_tree r m e tree g h =
    rw (h, g.tree, g.entries, tree_more)

pub bare_tree : (h : Preamble) (tree : Tree) → tree ≡ preamble_tree h → tree ≡ manifest_tree (bare h)
bare_tree h tree e = e ∙ sym (tree_none (preamble_tree h))

-- a line that may stand stops the reader by its fault
pub stops : (m : Manifest) (line : LineValue) (kind : ManifestKind) → MayStand m line → StopsIn (manifest_tree m) line kind → Stops m line kind
stops m line BadLine h f = absurd f
stops m line kind h f = (h, f)

pub is_none : {X : Type 0} (o : Option X) → is_some o ≡ false → o ≡ None
is_none None h = refl
is_none (Some x) h = absurd cc

item_is : (t : Tree) (o : LastEntry) (i : Item) (comment : List ℕ) (body : Body) → IsLastEntry o i
    → comment ≡ unwrap_or o.note [] → body ≡ body_of_sort o.sort o.bytes.items
    → with_entry t i.path (new_meta comment o.protect o.stamp) body ≡ with_item t i
item_is t o i comment body g e2 e3 = grind (arith, common_steps)

-- an entry whose lines are all read is added as its item
pub closed_is : (t : Tree) (o : LastEntry) (i : Item) (comment : List ℕ) (body : Body) → t.letters ≡ Ascii → IsLastEntry o i
    → comment ≡ unwrap_or o.note [] → body ≡ body_of_sort o.sort o.bytes.items
    → with_entry_by t.letters t i.path (new_meta comment o.protect o.stamp) body ≡ with_item t i
closed_is t o i comment body letters g e2 e3 = search (arith, item_is)

pub stopped : {T : Type 0} (r : Result T ManifestKind) (m : Manifest) (line : LineValue) (tree : Tree) → tree ≡ manifest_tree m → MayStand m line
    → IfErr r (λ k. StopsIn tree line k) → IfErr r (λ k. Stops m line k)
stopped (Ok x) m line tree e may f = tt
stopped (Err k) m line tree e may f = stops m line k may (subst (λ t. StopsIn t line k) e f)
