-- A text has at most one form, and one content.
use Rattle.std.proofs.Common.{◌≡◌, ◌<◌, ◌^◌, ◌+◌, ◌*◌, ◌==◌, ◌∙◌, ℕ, false, List, [], refl, sym, ap, arith, codes, slice_index}
use Rattle.std.proofs.{lemmas.Fmt.decimal_injective, lemmas.Bool.Decides.nat_tests, lemmas.List.append_cancel_left, lemmas.Grind.common_steps}
use Rattle.adf_base.specs.{Dates.plain_text, Dates.IsStamp, declared.dates.Stamp.Stamp}
use Rattle.adf_names.specs.{declared.meta.Stamps.Stamps, Meta.AreStamps}
use Rattle.adf_manifest.specs.{Tokens.stamps_text, Texts.pairs, Texts.unpaired, Lines.line_text, Lines.stamps_line}
use Rattle.adf_manifest.specs.Lines.{IsLine, IsRun, LineValue, LabelLine, StampsLine, EntryLine, NoteLine, RunLine, DataRun, FillRun, fields_text, fill_line}
use Rattle.adf_manifest.specs.declared.lines.Sort.{Sort, TheVariants.Dir, TheVariants.File}
use Rattle.adf_manifest.proofs.DigitLaws.{one_pair, one_word, unpaired_pairs, word_lacks}
use Rattle.adf_manifest.proofs.LineLaws.{fields_parts, fill_parts}
use Rattle.adf_manifest.proofs.TokenLaws.{colon_lacks, space_lacks, stamp_lacks, stamp_parts, stamps_parts}

pub of_three : {A B C D : Type 0} (f : A → B → C → D) {a a' : A} {b b' : B} {c c' : C} → a ≡ a' → b ≡ b' → c ≡ c' → f a b c ≡ f a' b' c'
of_three f e g h = cc

stamp_same : (s t : Stamp) → s.days ≡ t.days → s.mins ≡ t.mins → s.ticks ≡ t.ticks → s ≡ t
stamp_same s t d m k = of_three (λ d m k. record { days = d; mins = m; ticks = k }) d m k

pub one_stamp : (s t : Stamp) → IsStamp s → IsStamp t → plain_text s ≡ plain_text t → s ≡ t
one_stamp s t g h e = grind (arith, common_steps, stamp_parts, colon_lacks, decimal_injective, stamp_same)

stamps_same : (s t : Stamps) → s.root ≡ t.root → s.altered ≡ t.altered → s.created ≡ t.created → s ≡ t
stamps_same s t r a k = of_three (λ r a k. record { root = r; altered = a; created = k }) r a k

pub one_stamps : (s t : Stamps) → AreStamps s → AreStamps t → stamps_line s ≡ stamps_line t → s ≡ t
one_stamps s t g h e =
    let texts = append_cancel_left (codes "stamps ") (stamps_text s) (stamps_text t) e in
    let parts = stamps_parts t
    (refl, stamp_lacks s.root g.root, stamp_lacks s.altered g.altered) h texts in
    stamps_same s t (one_stamp s.root t.root g.root h.root parts.0) (one_stamp s.altered t.altered g.altered h.altered parts.1)
    (one_stamp s.created t.created g.created h.created parts.2)

same_fields : (sort : Sort) (s t : Stamp) (p q : ℕ) (x y : List ℕ) → s ≡ t → p ≡ q → x ≡ y → EntryLine sort s p x ≡ EntryLine sort t q y
same_fields sort s t p q x y e f g = cc

one_entry : (sort : Sort) (s t : Stamp) (p q : ℕ) (x y : List ℕ) → IsStamp s → IsStamp t → p < 2 ^ 32 → q < 2 ^ 32
    → fields_text s p x ≡ fields_text t q y → EntryLine sort s p x ≡ EntryLine sort t q y
one_entry sort s t p q x y hs ht hp hq e =
    let parts = fields_parts t q y (refl, stamp_lacks s hs, word_lacks p) ht e in
    same_fields sort s t p q x y (one_stamp s t hs ht parts.0) (one_word p q hp hq parts.1) parts.2

one_run : (a b : List ℕ) → IsRun (DataRun a) → IsRun (DataRun b) → pairs a ≡ pairs b → a ≡ b
one_run a b g h e = sym (unpaired_pairs a g.1) ∙ ap unpaired e ∙ unpaired_pairs b h.1

one_fill : (n m a b : ℕ) → IsRun (FillRun n a) → IsRun (FillRun m b) → fill_line n a ≡ fill_line m b → FillRun n a ≡ FillRun m b
one_fill n m a b g h e =
    let parts = fill_parts m b refl
    (refl, space_lacks n (let small = g.1 in omega arith)) h.1 e in
    let count : n ≡ m = decimal_injective n m (let small = g.1 in omega arith) (let small = h.1 in omega arith) parts.0 in
    let byte = (one_pair a b [] [] g.2 h.2 parts.1).0 in
    cc

-- by its first and fourth bytes a text has one form at most
abbrev key : List ℕ → ℕ
key text = slice_index text 0 + 256 * slice_index text 3

apart : (x y : ℕ) → (x == y) ≡ false → x ≡ y → ⊥
apart x y h e = grind (arith, nat_tests)

differ : {P : Type 0} (x y : ℕ) → (x == y) ≡ false → x ≡ y → P
differ x y h e = absurd (apart x y h e)

-- lines of one text are the same
pub line_same : (a b : LineValue) → IsLine a → IsLine b → line_text a ≡ line_text b → a ≡ b
line_same (LabelLine a) (LabelLine b) g h e = ap LabelLine (append_cancel_left (codes "label ") a b e)
line_same (StampsLine s) (StampsLine t) g h e = ap StampsLine (one_stamps s t g h e)
line_same (EntryLine Dir s p x) (EntryLine Dir t q y) g h e = search (arith, one_entry, append_cancel_left, codes)
line_same (EntryLine File s p x) (EntryLine File t q y) g h e = search (arith, one_entry, append_cancel_left, codes)
line_same (NoteLine a) (NoteLine b) g h e = ap NoteLine (append_cancel_left (codes "note ") a b e)
line_same (RunLine (DataRun a)) (RunLine (DataRun b)) g h e = search (arith, one_run, append_cancel_left, codes)
line_same (RunLine (FillRun n a)) (RunLine (FillRun m b)) g h e = ap RunLine (one_fill n m a b g h e)
line_same a (EntryLine Dir t q y) g h e = differ (key (line_text a)) (key (line_text (EntryLine Dir t q y))) refl (ap key e)
line_same a (EntryLine File t q y) g h e = differ (key (line_text a)) (key (line_text (EntryLine File t q y))) refl (ap key e)
line_same a (RunLine (DataRun b)) g h e = differ (key (line_text a)) (key (line_text (RunLine (DataRun b)))) refl (ap key e)
line_same a (RunLine (FillRun m b)) g h e = differ (key (line_text a)) (key (line_text (RunLine (FillRun m b)))) refl (ap key e)
line_same a b g h e = differ (key (line_text a)) (key (line_text b)) refl (ap key e)
