-- The last line of a manifest, and the manifest of the lines before it.
use Rattle.std.proofs.Common.{◌≡◌, ◌≢◌, ◌<◌, ◌++◌, ◌∙◌, ◌⊎◌, inl, inr, ℕ, List, [], ◌∷◌, Option, Some, None, IfSome, refl, sym, ap, subst, arith, length}
use Rattle.std.specs.{Prelude.IsOk, List.All}
use Rattle.std.proofs.{lemmas.List.append-nil, lemmas.Grind.common_steps}
use Rattle.adf_names.specs.{Escapes.IsSpelling, Escapes.escaped, declared.kind.Kind.Kind, declared.meta.Stamps.Stamps}
use Rattle.adf_names.specs.PathTexts.{IsName, IsPathText, path_text}
use Rattle.adf_tree.specs.Tree.{room_for}
use Rattle.adf_names.proofs.{Spellings.spelling_some, PathParts.empty_path}
use Rattle.adf_manifest.specs.Lines.{IsLine, IsRun, LineValue, LabelLine, StampsLine, EntryLine, NoteLine, RunLine, RunValue, line_text, run_line, stamps_line}
use Rattle.adf_manifest.specs.{Lines.note_line, Manifest.EndsInFile, Manifest.IsBare, Manifest.MayStand, Reader.bare, declared.reader.Preamble.Preamble}
use Rattle.adf_manifest.specs.Items.{HaveRoom, IsGivenNote, IsItem, Item, items_tree}
use Rattle.adf_manifest.specs.Manifest.{Entries, IsPreamble, IsWell, Manifest, preamble_lines, preamble_tree, items_of, manifest_lines, manifest_tree}
use Rattle.adf_base.specs.declared.dates.Stamp.{Stamp}
use Rattle.adf_manifest.specs.declared.lines.Sort.{Sort, TheVariants.Dir, TheVariants.File}
use Rattle.adf_manifest.proofs.{Forms.of_three, Growth.with_new, Growth.item_with, Growth.last_is, Growth.last_well, StateLaws.bare_lines, StateLaws.bare_well}
use Rattle.adf_manifest.proofs.Growth.{with_run, with_run_lines, last_lines, new_item, new_lines, noted, noted_lines, room_less, well_before, with_last}
use Rattle.adf_tree.proofs.Lists.{last_off}

abbrev pub with_label : Preamble → List ℕ → Preamble
with_label h label = record h { label = Some label }

abbrev pub with_stamps : Preamble → Stamps → Preamble
with_stamps h stamps = record h { stamps = Some stamps }

-- a label line adds the label that it tells
pub record AddsLabel (m : Manifest) (text : List ℕ) (n : Manifest) : Type 0 where
  pub stands : MayStand m (LabelLine text)
  pub label : List ℕ
  pub spells : IsSpelling 30 text label
  pub told : n ≡ bare (with_label m.preamble label)

-- an entry line adds an entry that has room
pub record AddsEntry (m : Manifest) (sort : Sort) (stamp : Stamp) (protect : ℕ) (text : List ℕ) (n : Manifest) : Type 0 where
  pub path : List (List ℕ)
  pub reads : IsPathText text path
  pub room : IsOk (room_for (manifest_tree m).entries path)
  pub told : n ≡ with_new m (new_item sort stamp protect path)

-- a note line adds its note to the last entry
pub record AddsNote (m : Manifest) (text : List ℕ) (n : Manifest) : Type 0 where
  pub some : Entries
  pub entries : m.entries ≡ Some some
  pub bare : IsBare (Some some)
  pub note : List ℕ
  pub spells : IsSpelling 79 text note
  pub told : n ≡ with_last m some (noted some.last note)

-- a line of bytes adds them to the last entry, a file
pub record AddsRun (m : Manifest) (run : RunValue) (n : Manifest) : Type 0 where
  pub some : Entries
  pub entries : m.entries ≡ Some some
  pub file : EndsInFile (Some some)
  pub told : n ≡ with_last m some (with_run some.last run)

-- a line stands behind those of a manifest without a fault, and this is told with it
abbrev pub Adds : Manifest → LineValue → Manifest → Type 0
Adds m (LabelLine text) n = AddsLabel m text n
Adds m (StampsLine stamps) n = MayStand m (StampsLine stamps) × (n ≡ bare (with_stamps m.preamble stamps))
Adds m (EntryLine sort stamp protect text) n = AddsEntry m sort stamp protect text n
Adds m (NoteLine text) n = AddsNote m text n
Adds m (RunLine run) n = AddsRun m run n

-- a manifest of one line
pub record IsFirst (n : Manifest) : Type 0 where
  pub entries : n.entries ≡ None
  pub label : n.preamble.label ≡ None
  pub stamps : n.preamble.stamps ≡ None

-- a manifest of the lines of the one before and a last line
pub record IsNext (n : Manifest) : Type 0 where
  pub before : Manifest
  pub last : LineValue
  pub well : IsWell before
  pub is_line : IsLine last
  pub adds : Adds before last n
  pub lines : manifest_lines n ≡ manifest_lines before ++ line_text last ∷ []

-- a list is empty or has a last element
pub ends : {X : Type 0} (xs : List X) → (xs ≡ []) ⊎ ((front : List X) × (x : X) × (xs ≡ front ++ x ∷ []))
ends [] = inl refl
ends (x ∷ xs) =
    elim (ends xs) [
      | inl e ↦ inr ([], x, ap (λ l. x ∷ l) e)
      | inr p ↦ inr (x ∷ p.0, p.1, ap (λ l. x ∷ l) p.2)
    ]

filled_list : (xs : List ℕ) → xs ≢ [] → 0 < length xs
filled_list [] h = absurd (h refl)
filled_list (x ∷ xs) h = omega arith

filled : (l : List ℕ) → 0 < length l → 0 < length (escaped l)
filled [] h = absurd (omega arith)
filled (c ∷ cs) h = filled_list (escaped (c ∷ cs)) (spelling_some c (escaped cs))

pub stamps_behind : (h : Preamble) (stamps : Stamps) → h.stamps ≡ None
    → preamble_lines (with_stamps h stamps) ≡ preamble_lines h ++ stamps_line stamps ∷ []
stamps_behind h stamps e = grind (arith, common_steps, append-nil)

pub last_of_preamble : (kind : Kind) (blocks : ℕ) (label : Option (List ℕ)) (stamps : Option Stamps) → let h : Preamble =
    record { kind = kind; blocks = blocks; label = label; stamps = stamps } in IsPreamble h → IsFirst (bare h) ⊎ IsNext (bare h)
last_of_preamble kind blocks None None g = inl (record { entries = refl; label = refl; stamps = refl })
last_of_preamble kind blocks (Some label) None g =
    let before : Preamble = record { kind = kind; blocks = blocks; label = None; stamps = None } in
    let well : IsPreamble before = record { size = g.size; label = tt; stamps = tt } in
    inr (record {
      before = bare before;
      last = LabelLine (escaped label);
      well = bare_well before well;
      is_line = filled label g.label.0;
      adds = record { stands = (refl, refl, refl); label = label; spells = g.label.1; told = refl };
      lines = refl;
    })
last_of_preamble kind blocks label (Some stamps) g =
    let before : Preamble = record { kind = kind; blocks = blocks; label = label; stamps = None } in
    let now : Preamble = record { kind = kind; blocks = blocks; label = label; stamps = Some stamps } in
    let well : IsPreamble before = record { size = g.size; label = g.label; stamps = tt } in
    inr (record {
      before = bare before;
      last = StampsLine stamps;
      well = bare_well before well;
      is_line = g.stamps;
      adds = ((refl, refl), refl);
      lines = bare_lines now ∙ stamps_behind before stamps refl ∙ ap (λ l. l ++ stamps_line stamps ∷ []) (sym (bare_lines before));
    })

no_end : (runs : List RunValue) (run : RunValue) → runs ++ run ∷ [] ≡ [] → ⊥
no_end [] run e = cc
no_end (x ∷ xs) run e = cc

-- a manifest by the parts of its entries
entries_are : (m : Manifest) (e : Entries) (before : List Item) (comment : Option (List ℕ)) (runs : List RunValue) → m.entries ≡ Some e
    → e.before ≡ before → e.last.note ≡ comment → e.last.runs ≡ runs
    → let n : Manifest = record {
      preamble = m.preamble;
      entries = Some
          (record { before = before; last = record e.last { note = comment; runs = runs } });
    }
    in m ≡ n
entries_are m e before comment runs is b n r = grind (arith, common_steps, of_three)

not_dir : (i : Item) (run : RunValue) (runs : List RunValue) → IsItem i → i.runs ≡ runs ++ run ∷ [] → (s : Sort) → i.sort ≡ s → s ≡ File
not_dir i run runs g e File is = refl
not_dir i run runs g e Dir is = absurd (no_end runs run (sym e ∙ g.plain is))

-- the same entry with the lines of its bytes but the last
less_is : (i : Item) (run : RunValue) (runs : List RunValue) → IsItem i → i.runs ≡ runs ++ run ∷ [] → i.sort ≡ File → let j : Item =
    record i { runs = runs } in IsItem j × IsRun run
less_is i run runs g e f = grind (arith, common_steps, last_off, item_with)

-- the last line of a manifest with entries
last_run : (m : Manifest) (e : Entries) (runs : List RunValue) (run : RunValue) → IsWell m → m.entries ≡ Some e → e.last.runs ≡ runs ++ run ∷ []
    → IsNext m
last_run m e runs run w is r =
    let item : IsItem e.last = last_is m e w is in
    let file = not_dir e.last run runs item r e.last.sort refl in
    let less = less_is e.last run runs item r file in
    let i : Item = record e.last { runs = runs } in
    let before : Entries = record { before = e.before; last = i } in
    let k : Manifest = record { preamble = m.preamble; entries = Some before } in
    let same : m ≡ with_last k before (with_run i run) = entries_are m e e.before e.last.note (runs ++ run ∷ []) is refl refl r in
    record {
      before = k;
      last = RunLine run;
      well = last_well m e i w is less.0 refl;
      is_line = less.1;
      adds = record { some = before; entries = refl; file = file; told = same };
      lines = ap manifest_lines same ∙ last_lines k before (with_run i run) (run_line run) refl (with_run_lines i run);
    }

given_note : (o : Option (List ℕ)) (note : List ℕ) → o ≡ Some note → IfSome o IsGivenNote → IsGivenNote note
given_note None note e g = absurd cc
given_note (Some x) note e g = let same : x ≡ note = cc in subst IsGivenNote same g

last_note : (m : Manifest) (e : Entries) (note : List ℕ) → IsWell m → m.entries ≡ Some e → e.last.runs ≡ [] → e.last.note ≡ Some note → IsNext m
last_note m e note w is r n =
    let g : IsItem e.last = last_is m e w is in
    let mine : IsGivenNote note = given_note e.last.note note n g.note in
    let i : Item = record e.last { note = None } in
    let bare : IsItem i = item_with e.last None e.last.runs g tt g.runs g.plain in
    let before : Entries = record { before = e.before; last = i } in
    let k : Manifest = record { preamble = m.preamble; entries = Some before } in
    let same : m ≡ with_last k before (noted i note) = entries_are m e e.before (Some note) e.last.runs is refl n refl in
    record {
      before = k;
      last = NoteLine (escaped note);
      well = last_well m e i w is bare refl;
      is_line = filled note mine.0;
      adds = record { some = before; entries = refl; bare = (refl, r); note = note; spells = mine.1; told = same };
      lines = ap manifest_lines same ∙ last_lines k before (noted i note) (note_line (escaped note)) refl (noted_lines i note refl r);
    }

path_some : (path : List (List ℕ)) → 0 < length path → All IsName path → 0 < length (path_text path)
path_some path h g = filled_list (path_text path) (λ e. omega (arith, h, ap length (empty_path path g e)))

last_entry : (m : Manifest) (e : Entries) (es : Option Entries) → e.before ≡ items_of es → IsWell m → m.entries ≡ Some e → e.last.runs ≡ []
    → e.last.note ≡ None → IsNext m
last_entry m e es b w is r n =
    let both = well_before m e w is in
    let items = last_off IsItem e.before e.last both.0 in
    let item : IsItem e.last = items.1 in
    let k : Manifest = record { preamble = m.preamble; entries = es } in
    let t = preamble_tree m.preamble in
    let room = room_less t e.before e.last both.1 in
    let well : IsWell k = record {
      preamble = w.preamble;
      items = subst (All IsItem) b items.0;
      room = subst (HaveRoom t) b room.0;
    } in
    let path : List (List ℕ) = e.last.path in
    let i : Item = new_item e.last.sort e.last.stamp e.last.protect path in
    let same : m ≡ with_new k i = entries_are m e (items_of es) None [] is b n r in
    let place : IsOk (room_for (manifest_tree k).entries path) = subst (λ xs. IsOk (room_for (items_tree t xs).entries path)) b room.1 in
    let text : IsPathText (path_text path) path = record { spells = refl; names = item.names } in
    record {
      before = k;
      last = EntryLine e.last.sort e.last.stamp e.last.protect (path_text path);
      well = well;
      is_line = (item.stamp, item.protect, path_some path item.filled item.names);
      adds = record { path = path; reads = text; room = place; told = same };
      lines = ap manifest_lines same ∙ new_lines k i;
    }

bare_entry : (m : Manifest) (e : Entries) (note : Option (List ℕ)) → IsWell m → m.entries ≡ Some e → e.last.runs ≡ [] → e.last.note ≡ note → IsNext m
bare_entry m e (Some note) w is r n = last_note m e note w is r n
bare_entry m e None w is r n =
    elim (ends e.before) [
      | inl b ↦ last_entry m e None b w is r n
      | inr p ↦ last_entry m e (Some (record { before = p.0; last = p.1 })) p.2 w is r n
    ]

by_entries : (n : Manifest) (o : Option Entries) → IsWell n → n.entries ≡ o → IsFirst n ⊎ IsNext n
by_entries n None w is =
    let by : Option Entries → Manifest = λ x. record { preamble = n.preamble; entries = x } in
    subst (λ (x : Manifest). IsFirst x ⊎ IsNext x) (sym (ap by is))
    (last_of_preamble n.preamble.kind n.preamble.blocks n.preamble.label n.preamble.stamps
    w.preamble)
by_entries n (Some e) w is =
    elim (ends e.last.runs) [
      | inl r ↦ inr (bare_entry n e e.last.note w is r refl)
      | inr p ↦ inr (last_run n e p.0 p.1 w is p.2)
    ]

-- a manifest has one line, or is told by a manifest's lines and one more
pub last_line : (n : Manifest) → IsWell n → IsFirst n ⊎ IsNext n
last_line n w = by_entries n n.entries w refl
