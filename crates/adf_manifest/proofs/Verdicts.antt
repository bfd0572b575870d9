-- A manifest has one verdict: one tree and number of blocks, or one first fault.
use Rattle.std.proofs.Common.{◌≡◌, ◌<◌, ◌≤◌, ◌^◌, ◌∙◌, inl, inr, ℕ, zero, suc, true, List, [], ◌∷◌, Option, Some, None, sym, ap, subst, arith, length}
use Rattle.std.proofs.{Common.length-append, Common.codes, lemmas.Bool.Decides.nat_tests, lemmas.Fmt.decimal_injective, lemmas.Grind.common_steps}
use Rattle.std.proofs.lemmas.List.{append_cancel_left, same_from_push}
use Rattle.adf_names.specs.{Escapes.IsSpelling, declared.kind.Kind.Kind}
use Rattle.adf_names.proofs.{Spellings.only_spelled, PathParts.one_path}
use Rattle.adf_blocks.specs.Sizes.{is_plain_size}
use Rattle.adf_manifest.specs.Lines.{LineValue, LabelLine, StampsLine, EntryLine, NoteLine, RunLine, line_text, volume_line}
use Rattle.adf_manifest.specs.{Manifest.Entries, Manifest.IsWell, Manifest.Manifest, Manifest.manifest_lines, Reader.bare, declared.reader.Preamble.Preamble}
use Rattle.adf_manifest.proofs.{Forms.line_same, LastLines.Adds, LastLines.IsFirst, LastLines.IsNext, LastLines.last_line}

pub heads : {a b : List ℕ} {x y : List (List ℕ)} → a ∷ x ≡ b ∷ y → a ≡ b
heads e = cc

pub rests : {a b : List ℕ} {x y : List (List ℕ)} → a ∷ x ≡ b ∷ y → x ≡ y
rests e = cc

pub small : (n : ℕ) → is_plain_size n ≡ true → n < 2 ^ 32
small n h = grind (arith, nat_tests)

-- a volume line has one kind and one number
pub one_volume : (kind kind' : Kind) (n n' : ℕ) → n < 2 ^ 32 → n' < 2 ^ 32 → volume_line kind n ≡ volume_line kind' n' → (kind ≡ kind') × (n ≡ n')
one_volume kind kind' n n' h k l = grind (arith, common_steps, decimal_injective, append_cancel_left, codes)

one_entries : (o : Option Entries) (e f : Entries) → o ≡ Some e → o ≡ Some f → e ≡ f
one_entries o e f p q = cc

spelled_once : (most : ℕ) (text a b : List ℕ) → IsSpelling most text a → IsSpelling most text b → a ≡ b
spelled_once most text a b g h = only_spelled a b g.are_bytes h.are_bytes (sym g.spells ∙ h.spells)

-- a line tells one thing with what stands before it
one_adds : (m n n' : Manifest) (line : LineValue) → Adds m line n → Adds m line n' → n ≡ n'
one_adds m n n' (LabelLine text) g h = rw (g.told, spelled_once 30 text g.label h.label g.spells h.spells, h.told)
one_adds m n n' (StampsLine stamps) g h = g.1 ∙ sym h.1
one_adds m n n' (EntryLine sort stamp protect text) g h = rw (g.told, one_path text g.path h.path g.reads h.reads, h.told)
one_adds m n n' (NoteLine text) g h =
    let same = spelled_once 79 text g.note h.note g.spells h.spells in
    rw (g.told, one_entries m.entries g.some h.some g.entries h.entries, same, h.told)
one_adds m n n' (RunLine run) g h = rw (g.told, one_entries m.entries g.some h.some g.entries h.entries, h.told)

-- a manifest of one line
pub first_lines : (n : Manifest) → IsFirst n → manifest_lines n ≡ volume_line n.preamble.kind n.preamble.blocks ∷ []
first_lines n f = grind (arith, common_steps)

first_is : (n : Manifest) → IsFirst n
    → let h : Preamble = record { kind = n.preamble.kind; blocks = n.preamble.blocks; label = None; stamps = None } in n ≡
    bare h
first_is n f = grind (arith, common_steps)

same_first : (m n : Manifest) → IsWell m → IsWell n → IsFirst m → IsFirst n → manifest_lines m ≡ manifest_lines n → m ≡ n
same_first m n w v f g e = grind (arith, common_steps, heads, first_lines, one_volume, small, first_is)

pub some_lines : (m : Manifest) → 0 < length (manifest_lines m)
some_lines m = omega arith

longer : (m n : Manifest) → IsFirst m → IsNext n → manifest_lines m ≡ manifest_lines n → ⊥
longer m n f g e = grind (arith, common_steps, first_lines, length-append, some_lines)

-- manifests of the same lines tell the same
same_told : (f : ℕ) (m n : Manifest) → length (manifest_lines m) ≤ f → IsWell m → IsWell n → manifest_lines m ≡ manifest_lines n → m ≡ n
same_told zero m n small_f w v e = absurd (omega (arith, some_lines m, small_f))
same_told (suc f) m n small_f w v e =
    elim (last_line m w) [
      | inl p ↦
          elim (last_line n v) [
            | inl q ↦ same_first m n w v p q e
            | inr q ↦ absurd (longer m n p q e)
          ]
      | inr p ↦
          elim (last_line n v) [
            | inl q ↦ absurd (longer n m q p (sym e))
            | inr q ↦
                let both = same_from_push (manifest_lines p.before) (manifest_lines q.before) (line_text p.last) (line_text q.last)
                (sym p.lines ∙ e ∙ q.lines) in
                let before = same_told f p.before q.before
                (omega (arith, small_f, ap length p.lines, length-append (manifest_lines p.before) (line_text p.last ∷ []))) p.well q.well
                both.0 in
                let line = line_same p.last q.last p.is_line q.is_line both.1 in
                let moved : Adds q.before q.last m = subst (λ (k : Manifest). Adds k q.last m) before
                (subst (λ (l : LineValue). Adds p.before l m) line p.adds) in
                one_adds q.before m n q.last moved q.adds
          ]
    ]

pub one_told : (m n : Manifest) → IsWell m → IsWell n → manifest_lines m ≡ manifest_lines n → m ≡ n
one_told m n w v e = same_told (length (manifest_lines m)) m n (omega arith) w v e
