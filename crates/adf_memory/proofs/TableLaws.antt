-- The tables of a volume: what stands at each place.
-- Letters: ls the letters whose case is ignored.
use Rattle.std.specs.Prelude.{◌≡◌, ◌+◌, ◌^◌, ◌≤◌, ◌<◌, ℕ, List, [], ◌∷◌, ◌++◌, Option, Some, None, IsSome, IfSome, length, option_map, take}
use Rattle.std.proofs.Common.{zero, suc, refl, sym, ap, subst, ◌∙◌, arith, append_assoc, length-append, take_all}
use Rattle.std.proofs.{Math.Seq.take-nil, lemmas.List.append-nil, lemmas.List.length-take-le, lemmas.List.take_more, lemmas.Grind.common_steps}
use Rattle.adf_base.specs.declared.hash.Letters.{Letters, TheVariants.Ascii, TheVariants.International}
use Rattle.adf_names.specs.declared.kind.Kind.{Kind, TheVariants.Ofs, TheVariants.Ffs}
use Rattle.adf_tree.specs.{declared.entry.Entry.Entry, Tree.Tree, Tree.IsTreeBy, Tree.entry}
use Rattle.adf_volume.specs.declared.owner.Owner.TheVariants.{Data, Ext}
use Rattle.adf_volume.specs.{Fits.FitsBy, Lists.At, Lists.numbered, Rows.row_of_entry, Counts.counts_of, declared.counts.Counts.Counts, declared.row.Row.Row}
use Rattle.adf_volume.specs.Layout.{EntryAt, Layout, Place, datas_at, datas_of, head_at, owned, owned_from}
use Rattle.adf_volume.proofs.{Chains.entry_is_at, Chains.entry_some, Lists.at_below, Lists.at_index_or, Lists.at_some, Lists.length_numbered}
use Rattle.adf_memory.specs.{declared.tables.Contents.Contents, declared.tables.TableEntry.TableEntry, Rooms.filled}
use Rattle.adf_memory.specs.Tables.{all_datas, block_table, contents_of, entry_table, table_entry, table_entries}
use Rattle.adf_names.specs.VolumeTypes.{letters_of_type, type_number}
use Rattle.adf_memory.proofs.Filled.{take_zero}

-- the first i + 1 are the first i and the one at place i
taken_more : {X : Type 0} (xs : List X) (i : ℕ) (x : X) → At xs i x → take (i + 1) xs ≡ take i xs ++ x ∷ []
taken_more xs i x at = take_more xs i x (at_below xs i x at) ∙ ap (λ y. take i xs ++ y ∷ []) (at_index_or xs i x x at)

-- where one is put behind the first entries of a table, one more stands there
pub entries_more : {X : Type 0} (xs room now next : List X) (i : ℕ) (x : X) → At xs i x
    → ((ys zs : List X) → i ≡ length ys → now ≡ filled ys zs → next ≡ filled (ys ++ x ∷ []) zs)
    → now ≡ filled (take i xs) room → next ≡ filled (take (i + 1) xs) room
entries_more xs room now next i x at put e = grind (arith, common_steps, at_below, length-take-le, taken_more)

-- the entry at a place of the table
told_at : (k : ℕ) (es : List Entry) (qs : List Place) (i : ℕ) (e : Entry) → At es i e → length qs ≡ length es
    → At (table_entries k es qs) i (table_entry (head_at qs i) (k + length (all_datas (take i qs))) e)
told_at k [] qs i e at z = absurd at
told_at k (f ∷ es) [] i e at z = absurd (omega arith)
told_at k (f ∷ es) (q ∷ qs) zero e at z = let same : k ≡ k + 0 = omega arith in λ i. table_entry q.head (same i) (at i)
told_at k (f ∷ es) (q ∷ qs) (suc i) e at z =
    let all : k + length q.datas + length (all_datas (take i qs)) ≡ k + length (q.datas ++ all_datas (take i qs)) =
    omega (arith, length-append q.datas (all_datas (take i qs))) in
    subst (λ n. At (table_entries (k + length q.datas) es qs) i (table_entry (head_at qs i) n e)) all
    (told_at (k + length q.datas) es qs i e at (omega arith))

-- the same in the table of a volume
pub told_here : (t : Tree) (l : Layout) (i k : ℕ) (e : Entry) → At t.entries i e → length l.places ≡ length t.entries
    → k ≡ length (all_datas (take i l.places)) → At (entry_table t l) i (table_entry (head_at l.places i) k e)
told_here t l i k e at z same = grind (arith, common_steps, told_at)

-- a table has an entry for each entry
pub told_length : (k : ℕ) (es : List Entry) (qs : List Place) → length qs ≡ length es → length (table_entries k es qs) ≡ length es
told_length k [] qs z = refl
told_length k (e ∷ es) [] z = absurd (omega arith)
told_length k (e ∷ es) (q ∷ qs) z = ap suc (told_length (k + length q.datas) es qs (omega arith))

-- the data blocks of one file more
pub datas_more : (qs : List Place) (i : ℕ) → i < length qs → all_datas (take (suc i) qs) ≡ all_datas (take i qs) ++ datas_at qs i
datas_more [] i lt = absurd (omega arith)
datas_more (q ∷ qs) zero lt = ap (λ ps. q.datas ++ all_datas ps) (take_zero qs) ∙ append-nil q.datas
datas_more (q ∷ qs) (suc i) lt =
    ap (λ bs. q.datas ++ bs) (datas_more qs i (omega arith)) ∙ sym (append_assoc q.datas (all_datas (take i qs)) (datas_at qs i))

-- no more than of all files
pub datas_within : (qs : List Place) (i : ℕ) → length (all_datas (take i qs)) ≤ length (all_datas qs)
datas_within [] i = subst (λ ps. length (all_datas ps) ≤ 0) (sym (take-nil i)) (omega arith)
datas_within (q ∷ qs) zero = omega arith
datas_within (q ∷ qs) (suc i) =
    omega (arith, datas_within qs i, length-append q.datas (all_datas (take i qs)), length-append q.datas (all_datas qs))

-- each header and each data block is a part of the volume
parts_many : (n : ℕ) (qs : List Place) → length qs + length (all_datas qs) ≤ length (owned_from n qs)
parts_many n [] = omega arith
parts_many n (q ∷ qs) =
    let exts = numbered (Ext n) 1 q.exts in
    let datas = numbered (Data n) 1 q.datas in
    let rest = owned_from (suc n) qs in
    omega (
      arith,
      parts_many (suc n) qs,
      length-append q.datas (all_datas qs),
      length-append (exts ++ datas) rest,
      length-append exts datas,
      length_numbered (Data n) 1 q.datas,
    )

-- so there are fewer entries and data blocks than blocks in use, of which the root is one
pub tables_small : (image : List ℕ) (l : Layout) → length l.places + length (block_table l) < length (owned image l)
tables_small image l = grind (arith, common_steps, parts_many, length-append)

-- the entry with a number that there is
pub entry_there : (t : Tree) (n : ℕ) → 0 < n → n ≤ length t.entries → (e : Entry) × (entry t.entries n ≡ Some e)
entry_there t n some le = let x = entry_some t n (omega arith) le in (x.0, (entry_is_at t n x.0).0 x.1)

-- an entry has a row
row_some : (r : Option Row) (e : Entry) → r ≡ Some (row_of_entry e) → IsSome r
row_some None e h = cc
row_some (Some r) e h = refl

-- each number of an entry has a row
pub row_there : (r : Option Row) (t : Tree) (n : ℕ) → 0 < n → n ≤ length t.entries → r ≡ option_map row_of_entry (entry t.entries n) → IsSome r
row_there r t n some le h = let x = entry_there t n some le in row_some r x.0 (h ∙ ap (option_map row_of_entry) x.1)

-- the row of an entry
pub row_matches : (got : Option Row) (r : Row) (x : Option Entry) (e : Entry) → got ≡ Some r → x ≡ Some e
    → got ≡ option_map row_of_entry x → r ≡ row_of_entry e
row_matches got r x e is at h = let same : Some r ≡ Some (row_of_entry e) = sym is ∙ h ∙ ap (option_map row_of_entry) at in cc

-- its directory has a number below its own
parent_below : {ls : Letters} (t : Tree) (n : ℕ) (e : Entry) → IsTreeBy ls t.entries → EntryAt t n e → e.parent < n
parent_below t zero e tree at = absurd at
parent_below t (suc i) e tree at =
    let le = tree.parents i e (at_below t.entries i e at) in
    let same = at_index_or t.entries i e e at in
    omega (arith, subst (λ (x : Entry). x.parent ≤ i) same le)

-- and fits a word
pub parent_small : {ls : Letters} (got : Option Row) (r : Row) (image : List ℕ) (t : Tree) (l : Layout) (n : ℕ) → got ≡ Some r → FitsBy ls image t l
    → length (owned image l) < 2 ^ 32 → 0 < n → n ≤ length t.entries → got ≡ option_map row_of_entry (entry t.entries n)
    → r.parent < 2 ^ 32
parent_small got r image t l n is fits few some le h =
    let x = entry_some t n (omega arith) le in
    let e : entry t.entries n ≡ Some x.0 = (entry_is_at t n x.0).0 x.1 in
    let parent = ap (λ (y : Row). y.parent) (row_matches got r (entry t.entries n) x.0 is e h) in
    omega (arith, parent, parent_below t n x.0 fits.tree x.1, tables_small image l, fits.places)

-- the block that is told
pub block_told : (got : Option ℕ) (b h : ℕ) → got ≡ Some b → IfSome got (λ c. c ≡ h) → b ≡ h
block_told got b h is told_so = subst (λ g. IfSome g (λ c. c ≡ h)) is told_so

-- how many data blocks there are fits a word, also with those of the next file
pub blocks_small : {ls : Letters} (image : List ℕ) (t : Tree) (l : Layout) (i first : ℕ) → FitsBy ls image t l
    → length (owned image l) < 2 ^ 32 → i < length t.entries
    → first ≡ length (all_datas (take i l.places)) → first + length (datas_at l.places i) < 2 ^ 32
blocks_small image t l i first fits few lt is =
    let more = datas_more l.places i (omega (arith, fits.places)) in
    omega (
      arith,
      ap length more,
      length-append (all_datas (take i l.places)) (datas_at l.places i),
      datas_within l.places (suc i),
      tables_small image l,
    )

-- also where they are given as a list
pub next_small : {ls : Letters} (image : List ℕ) (t : Tree) (l : Layout) (i first : ℕ) (ds : List ℕ) → FitsBy ls image t l
    → length (owned image l) < 2 ^ 32
    → i < length t.entries → first ≡ length (all_datas (take i l.places)) → ds ≡ datas_of l (i + 1) → first + length ds < 2 ^ 32
next_small image t l i first ds fits few lt is next = grind (arith, common_steps, blocks_small)

-- and with those of the next file
pub count_more : (l : Layout) (i first more : ℕ) → i < length l.places → first ≡ length (all_datas (take i l.places))
    → more ≡ length (datas_at l.places i)
    → first + more ≡ length (all_datas (take (i + 1) l.places))
count_more l i first more lt is next = grind (arith, common_steps, datas_more, length-append)

-- where the data blocks of the next file are put behind those before them, those of one file more stand there
pub next_blocks : (l : Layout) (i : ℕ) (ds room next : List ℕ) → i < length l.places → ds ≡ datas_at l.places i
    → next ≡ filled (all_datas (take i l.places) ++ ds) room → next ≡ filled (all_datas (take (i + 1) l.places)) room
next_blocks l i ds room next lt is e =
    let one : i + 1 ≡ suc i = omega arith in
    e ∙ ap (λ xs. filled (all_datas (take i l.places) ++ xs) room) is ∙ ap (λ xs. filled xs room) (sym (datas_more l.places i lt))
    ∙ ap (λ n. filled (all_datas (take n l.places)) room) (sym one)

-- all of them
pub whole_blocks : (l : Layout) (i : ℕ) → length l.places ≤ i → all_datas (take i l.places) ≡ block_table l
whole_blocks l i le = ap all_datas (take_all i l.places le)

-- and all entries
pub whole_entries : (t : Tree) (l : Layout) (i : ℕ) → length l.places ≡ length t.entries → length t.entries ≤ i
    → take i (entry_table t l) ≡ entry_table t l
whole_entries t l i z le = take_all i (entry_table t l) (omega (arith, told_length 0 t.entries l.places z))

-- the next entry of the table
pub next_entry : (t : Tree) (l : Layout) (i k : ℕ) (x : TableEntry) → length l.places ≡ length t.entries → i < length t.entries
    → k ≡ length (all_datas (take i l.places))
    → ((e : Entry) → entry t.entries (i + 1) ≡ Some e → x ≡ table_entry (head_at l.places i) k e) → At (entry_table t l) i x
next_entry t l i k x z lt is tells =
    let at = at_some t.entries i lt in
    let one : i + 1 ≡ suc i = omega arith in
    let there : entry t.entries (i + 1) ≡ Some at.0 = ap (entry t.entries) one ∙ (entry_is_at t (suc i) at.0).0 at.1 in
    subst (At (entry_table t l) i) (sym (tells at.0 there)) (told_here t l i k at.0 at.1 z is)

-- there are fewer blocks in use than blocks, since two are boot blocks
pub used_small : (image : List ℕ) (t : Tree) (l : Layout) (n : Counts) (x : Contents) → n ≡ counts_of image t l → n.used + n.free + 2 ≡ n.blocks
    → x ≡ contents_of image t l → x.used < x.blocks
used_small image t l n x counts all is = grind (arith, common_steps)

-- there are fewer entries and data blocks than blocks in use
pub contents_small : {ls : Letters} (image : List ℕ) (t : Tree) (l : Layout) (x : Contents) → FitsBy ls image t l → x ≡ contents_of image t l
    → x.entries + x.data_blocks < x.used
contents_small image t l x fits is =
    subst (λ (y : Contents). y.entries + y.data_blocks < y.used) (sym is) (omega (arith, tables_small image l, fits.places))

-- a type tells its letters
letters_coded : (letters : Letters) (kind : Kind) → letters_of_type (type_number letters kind) ≡ letters
letters_coded Ascii Ofs = refl
letters_coded Ascii Ffs = refl
letters_coded International Ofs = refl
letters_coded International Ffs = refl

-- the type that is told of a volume has the letters of its image
pub letters_told : {ls : Letters} (image : List ℕ) (t : Tree) (l : Layout) (x : Contents) → FitsBy ls image t l → x ≡ contents_of image t l
    → letters_of_type x.kind ≡ ls
letters_told image t l x fits is = ap (λ (y : Contents). letters_of_type y.kind) is ∙ letters_coded t.letters t.kind ∙ fits.letters
