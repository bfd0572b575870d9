-- A manifest has no fault, and lines have at most one first fault.
use Rattle.std.proofs.Common.{◌≡◌, ◌<◌, ◌≤◌, ◌+◌, ◌++◌, ◌∙◌, ◌⊎◌, inl, inr, ℕ, zero, suc, true, List, [], ◌∷◌, Result, Ok, Err, refl, sym, ap, subst, arith}
use Rattle.std.proofs.{Common.length, Common.length-append, Common.take, Common.drop, Common.IsOk, lemmas.Bool.cases_order, lemmas.Grind.common_steps}
use Rattle.std.proofs.lemmas.List.{append_assoc, same_from_push, take_at, drop_at}
use Rattle.adf_tree.specs.{Tree.Tree, Tree.room_for, declared.tree.RoomFault.RoomFault}
use Rattle.adf_names.specs.declared.kind.Kind.{Kind}
use Rattle.adf_tree.specs.declared.tree.RoomFault.TheVariants as room
use Rattle.adf_names.proofs.PathParts.{one_path}
use Rattle.adf_blocks.specs.Sizes.{is_plain_size}
use Rattle.adf_manifest.specs.Lines.{IsLine, LineValue, LabelLine, StampsLine, EntryLine, NoteLine, RunLine, line_text, volume_line}
use Rattle.adf_manifest.specs.{Items.item_lines, declared.manifest.ManifestKind.ManifestKind}
use Rattle.std.specs.List.{flat_map}
use Rattle.adf_manifest.specs.Manifest.{EndsInFile, HasBadText, HasFault, HasFaultOf, HasNoRoom, IsBare, IsFirstLineFault, IsLaterFault, IsWell, Manifest}
use Rattle.adf_manifest.specs.Manifest.{MayStandNext, MayStand, items_of, label_lines, manifest_lines, manifest_tree, stamps_lines}
use Rattle.adf_manifest.specs.declared.manifest.ManifestKind.TheVariants.{BadLine, BadSize, BadText, NoParent, ParentIsFile, Exists}
use Rattle.adf_manifest.proofs.{Forms.line_same, LastLines.Adds, LastLines.IsFirst, LastLines.ends, LastLines.last_line}
use Rattle.adf_manifest.proofs.Verdicts.{first_lines, heads, one_volume, one_told, rests, small, some_lines}

-- a line that adds may stand at its place, and has no fault
may_stand : (m n : Manifest) (line : LineValue) → Adds m line n → MayStand m line
may_stand m n (LabelLine text) g = g.stands
may_stand m n (StampsLine stamps) g = g.0
may_stand m n (EntryLine sort stamp protect text) g = tt
may_stand m n (NoteLine text) g = subst IsBare (sym g.entries) g.bare
may_stand m n (RunLine run) g = subst EndsInFile (sym g.entries) g.file

text_good : (m n : Manifest) (line : LineValue) → Adds m line n → HasBadText line → ⊥
text_good m n (LabelLine text) g f = f g.label g.spells
text_good m n (EntryLine sort stamp protect text) g f = f g.path g.reads
text_good m n (NoteLine text) g f = f g.note g.spells
text_good m n line g f = f

ok_err : (r : Result ℕ RoomFault) (f : RoomFault) → IsOk r → r ≡ Err f → ⊥
ok_err (Ok x) f h e = cc
ok_err (Err x) f h e = cc

room_good : (m n : Manifest) (line : LineValue) (a : RoomFault) → Adds m line n → HasNoRoom (manifest_tree m) line a → ⊥
room_good m n (EntryLine sort stamp protect text) a g f =
    let same = one_path text g.path f.0 g.reads f.1 in
    ok_err (room_for (manifest_tree m).entries f.0) a (subst (λ p. IsOk (room_for (manifest_tree m).entries p)) same g.room) f.2
room_good m n line a g f = f

-- the kinds of a later fault
kind_of : RoomFault → ManifestKind
kind_of room.NoParent = NoParent
kind_of room.ParentIsFile = ParentIsFile
kind_of room.Exists = Exists
kind_of room.EmptyPath = BadText

abbrev OfLine : Tree → LineValue → ManifestKind → Type 0
OfLine tree line kind = ((kind ≡ BadText) × HasBadText line) ⊎ ((a : RoomFault) × (kind ≡ kind_of a) × HasNoRoom tree line a)

abbrev Later : Manifest → List ℕ → ManifestKind → Type 0
Later m text kind =
    ((kind ≡ BadLine) × (¬ MayStandNext m text)) ⊎ ((next : MayStandNext m text) × OfLine (manifest_tree m) next.line kind)

abbrev next_of : (m : Manifest) (text : List ℕ) (kind : ManifestKind) → HasFaultOf m text kind → MayStandNext m text
next_of m text kind f = record { line = f.line; is_line = f.is_line; stands = f.stands; reads = f.reads }

later_kind : (m : Manifest) (text : List ℕ) (kind : ManifestKind) → IsLaterFault m text kind → Later m text kind
unfolding kind_of
later_kind m text BadLine f = inl (refl, f)
later_kind m text BadText f = inr (next_of m text BadText f, inl (refl, f.fault))
later_kind m text NoParent f = inr (next_of m text NoParent f, inr (room.NoParent, refl, f.fault))
later_kind m text ParentIsFile f = inr (next_of m text ParentIsFile f, inr (room.ParentIsFile, refl, f.fault))
later_kind m text Exists f = inr (next_of m text Exists f, inr (room.Exists, refl, f.fault))
later_kind m text kind f = absurd f

of_good : (m n : Manifest) (line : LineValue) (kind : ManifestKind) → Adds m line n → OfLine (manifest_tree m) line kind → ⊥
of_good m n line kind g (inl f) = text_good m n line g f.1
of_good m n line kind g (inr f) = room_good m n line f.0 g f.2

line_good : (m n : Manifest) (line : LineValue) (text : List ℕ) (kind : ManifestKind) → Adds m line n → IsLine line → text ≡ line_text line
    → Later m text kind → ⊥
line_good m n line text kind g is e (inl f) = f.1 (record { line = line; is_line = is; stands = may_stand m n line g; reads = e })
line_good m n line text kind g is e (inr f) =
    let same = line_same f.0.line line f.0.is_line is (sym f.0.reads ∙ e) in
    of_good m n line kind g (subst (λ l. OfLine (manifest_tree m) l kind) same f.1)

-- behind lines of a manifest, a line that adds
record IsInner (front : List (List ℕ)) (text : List ℕ) : Type 0 where
  before : Manifest
  next : Manifest
  line : LineValue
  well : IsWell before
  adds : Adds before line next
  is_line : IsLine line
  lines : manifest_lines before ≡ front
  reads : text ≡ line_text line

inner_first : (n : Manifest) (front rest : List (List ℕ)) (text : List ℕ) → IsFirst n → manifest_lines n ≡ front ++ text ∷ rest → 0 < length front → ⊥
inner_first n front rest text p e h = omega (arith, h, ap length (sym (first_lines n p) ∙ e), length-append front (text ∷ rest))

-- each line of a manifest after the first is one
inner : (k : ℕ) (n : Manifest) (front rest : List (List ℕ)) (text : List ℕ) → length (manifest_lines n) ≤ k → IsWell n
    → manifest_lines n ≡ front ++ text ∷ rest → 0 < length front → IsInner front text
inner zero n front rest text s w e h = absurd (omega (arith, some_lines n, s))
inner (suc k) n front rest text s w e h =
    elim (last_line n w) [
      | inl p ↦ absurd (inner_first n front rest text p e h)
      | inr p ↦
          elim (ends rest) [
            | inl r ↦
                let both = same_from_push front (manifest_lines p.before) text (line_text p.last)
                (ap (λ x. front ++ text ∷ x) (sym r) ∙ sym e ∙ p.lines) in
                record {
                  before = p.before;
                  next = n;
                  line = p.last;
                  well = p.well;
                  adds = p.adds;
                  is_line = p.is_line;
                  lines = sym both.0;
                  reads = both.1;
                }
            | inr q ↦
                let split = append_assoc front (text ∷ q.0) (q.1 ∷ []) ∙ ap (λ x. front ++ text ∷ x) (sym q.2) ∙ sym e ∙ p.lines in
                let both = same_from_push (front ++ text ∷ q.0) (manifest_lines p.before) q.1 (line_text p.last) split in
                inner k p.before front q.0 text (omega (
                  arith,
                  s,
                  ap length p.lines,
                  length-append (manifest_lines p.before)
                      (line_text p.last ∷ []),
                )) p.well (sym both.0) h
          ]
    ]

pub later_good : (m n : Manifest) (text : List ℕ) (rest : List (List ℕ)) (kind : ManifestKind) → IsWell m → IsWell n
    → manifest_lines n ≡ manifest_lines m ++ text ∷ rest → IsLaterFault m text kind → ⊥
later_good m n text rest kind w v e f =
    let i = inner (length (manifest_lines n)) n (manifest_lines m) rest text (omega arith) v e (some_lines m) in
    let same = one_told i.before m i.well w i.lines in
    line_good i.before i.next i.line text kind i.adds i.is_line i.reads
    (later_kind i.before text kind (subst (λ (x : Manifest). IsLaterFault x text kind) (sym same) f))

-- a first line of an allowed size has no fault
first_good : (kind' : Kind) (n' : ℕ) (line : List ℕ) (kind : ManifestKind) → is_plain_size n' ≡ true → line ≡ volume_line kind' n'
    → IsFirstLineFault line kind → ⊥
first_good kind' n' line BadLine h e f = f (kind', n', small n' h, e)
first_good kind' n' line BadSize h e f = grind (arith, common_steps, one_volume, small)
first_good kind' n' line kind h e f = f

-- the lines of a manifest begin with its volume line
volume_first : (m : Manifest) → (rest : List (List ℕ)) × (manifest_lines m ≡ volume_line m.preamble.kind m.preamble.blocks ∷ rest)
volume_first m = ((label_lines m.preamble.label ++ stamps_lines m.preamble.stamps) ++ flat_map item_lines (items_of m.entries), refl)

mixed : (all : List (List ℕ)) (text : List ℕ) (rest : List (List ℕ)) (kind : ManifestKind) (m : Manifest) (more : List (List ℕ)) → all ≡ text ∷ rest
    → IsFirstLineFault text kind → IsWell m → all ≡ manifest_lines m ++ more → ⊥
unfolding volume_first
mixed all text rest kind m more e f w g = grind (arith, common_steps, volume_first, first_good, heads)

-- a manifest has no fault
pub faultless : (m : Manifest) (all : List (List ℕ)) (number : ℕ) (kind : ManifestKind) → IsWell m → all ≡ manifest_lines m → HasFault all number kind
    → ⊥
unfolding volume_first
faultless m all number kind w e (inl f) = grind (arith, common_steps, volume_first, first_good, heads)
faultless m all number kind w e (inr f) = later_good f.before m f.text f.rest kind f.well w (sym e ∙ f.lines) f.fault

-- a line has not both a bad text and no room
text_or_room : (tree : Tree) (line : LineValue) (a : RoomFault) → HasBadText line → HasNoRoom tree line a → ⊥
text_or_room tree (EntryLine sort stamp protect text) a f g = f g.0 g.1
text_or_room tree line a f g = g

one_err : (r : Result ℕ RoomFault) (a b : RoomFault) → r ≡ Err a → r ≡ Err b → a ≡ b
one_err r a b e g = cc

one_room : (tree : Tree) (line : LineValue) (a b : RoomFault) → HasNoRoom tree line a → HasNoRoom tree line b → a ≡ b
one_room tree (EntryLine sort stamp protect text) a b f g =
    one_err (room_for tree.entries g.0) a b (ap (λ p. room_for tree.entries p) (sym (one_path text f.0 g.0 f.1 g.1)) ∙ f.2) g.2
one_room tree line a b f g = absurd f

one_of_line : (tree : Tree) (line : LineValue) (k k' : ManifestKind) → OfLine tree line k → OfLine tree line k' → k ≡ k'
one_of_line tree line k k' (inl p) (inl q) = p.0 ∙ sym q.0
one_of_line tree line k k' (inl p) (inr q) = absurd (text_or_room tree line q.0 p.1 q.2)
one_of_line tree line k k' (inr p) (inl q) = absurd (text_or_room tree line p.0 q.1 p.2)
one_of_line tree line k k' (inr p) (inr q) = p.1 ∙ ap kind_of (one_room tree line p.0 q.0 p.2 q.2) ∙ sym q.1

one_later_kind : (m : Manifest) (text : List ℕ) (k k' : ManifestKind) → Later m text k → Later m text k' → k ≡ k'
one_later_kind m text k k' (inl p) (inl q) = p.0 ∙ sym q.0
one_later_kind m text k k' (inl p) (inr q) = absurd (p.1 q.0)
one_later_kind m text k k' (inr p) (inl q) = absurd (q.1 p.0)
one_later_kind m text k k' (inr p) (inr q) =
    let same = line_same p.0.line q.0.line p.0.is_line q.0.is_line (sym p.0.reads ∙ q.0.reads) in
    one_of_line (manifest_tree m) q.0.line k k' (subst (λ l. OfLine (manifest_tree m) l k) same p.1) q.1

one_first_kind : (text : List ℕ) (k k' : ManifestKind) → IsFirstLineFault text k → IsFirstLineFault text k' → k ≡ k'
one_first_kind text BadLine BadLine f g = refl
one_first_kind text BadLine BadSize f g = absurd (f (g.0, g.1, g.2, g.3))
one_first_kind text BadLine _ f g = absurd g
one_first_kind text BadSize BadLine f g = absurd (g (f.0, f.1, f.2, f.3))
one_first_kind text BadSize BadSize f g = refl
one_first_kind text BadSize _ f g = absurd g
one_first_kind text _ _ f g = absurd f

-- one of two fronts of a list goes on with what follows the other
inside : (xs ys r r' : List (List ℕ)) (a : List ℕ) → xs ++ a ∷ r ≡ ys ++ r' → length xs < length ys → (s : List (List ℕ)) × (ys ≡ xs ++ a ∷ s)
inside [] [] r r' a e h = absurd (omega arith)
inside [] (y ∷ ys) r r' a e h = (ys, ap (λ z. z ∷ ys) (sym (heads e)))
inside (x ∷ xs) [] r r' a e h = absurd (omega arith)
inside (x ∷ xs) (y ∷ ys) r r' a e h =
    let more = inside xs ys r r' a (rests e) (omega arith) in
    (more.0, ap (λ z. z ∷ ys) (sym (heads e)) ∙ ap (λ l. x ∷ l) more.1)

-- two fronts of one length are the same, and so is what follows
fronts : (xs ys r r' : List (List ℕ)) → xs ++ r ≡ ys ++ r' → length xs ≡ length ys → (xs ≡ ys) × (r ≡ r')
fronts xs ys r r' e h = (
  sym (take_at xs r (length ys) h) ∙ ap (take (length ys)) e ∙ take_at ys r' (length ys) refl,
  sym (drop_at xs r (length ys) h) ∙ ap (drop (length ys)) e ∙ drop_at ys r' (length ys) refl,
)

-- lines have one first fault at most
pub one_fault : (all : List (List ℕ)) (n n' : ℕ) (k k' : ManifestKind) → HasFault all n k → HasFault all n' k' → (n ≡ n') × (k ≡ k')
one_fault all n n' k k' (inl f) (inl g) = grind (arith, common_steps, heads, one_first_kind)
one_fault all n n' k k' (inl f) (inr g) = absurd (mixed all f.text f.rest k g.before (g.text ∷ g.rest) f.lines f.fault g.well g.lines)
one_fault all n n' k k' (inr f) (inl g) = absurd (mixed all g.text g.rest k' f.before (f.text ∷ f.rest) g.lines g.fault f.well f.lines)
one_fault all n n' k k' (inr f) (inr g) =
    elim (cases_order (length (manifest_lines f.before)) (length (manifest_lines g.before))) [
      | inl e ↦
          let both = fronts (manifest_lines f.before) (manifest_lines g.before) (f.text ∷ f.rest) (g.text ∷ g.rest) (sym f.lines ∙ g.lines) e in
          let told = one_told f.before g.before f.well g.well both.0 in
          let text = heads both.1 in
          let moved = subst (λ (m : Manifest). IsLaterFault m g.text k) told (subst (λ t. IsLaterFault f.before t k) text f.fault) in (
            f.place ∙ ap (λ m. m + 1) e ∙ sym g.place,
            one_later_kind g.before g.text k k' (later_kind g.before g.text k moved)
                (later_kind g.before g.text k' g.fault),
          )
      | inr (inl lt) ↦
          let more = inside (manifest_lines f.before) (manifest_lines g.before) f.rest (g.text ∷ g.rest) f.text (sym f.lines ∙ g.lines) lt in
          absurd (later_good f.before g.before f.text more.0 k f.well g.well more.1 f.fault)
      | inr (inr gt) ↦
          let more = inside (manifest_lines g.before) (manifest_lines f.before) g.rest (f.text ∷ f.rest) g.text (sym g.lines ∙ f.lines) gt in
          absurd (later_good g.before f.before g.text more.0 k' g.well f.well more.1 g.fault)
    ]
