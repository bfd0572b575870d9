-- Laws of parts of lines: cuts at a byte, numbers in decimal, stamps.
use Rattle.std.proofs.Common.{◌≡◌, ◌-◌, ◌≢◌, ◌≤◌, ◌<◌, ◌^◌, ◌==◌, ◌&&◌, ◌||◌, not, ◌++◌, ◌∙◌, ℕ, Bool, true, false, nat_lt, List, ◌∷◌, Option, Some, None}
use Rattle.std.proofs.Common.{Result, Ok, IfNone, refl, sym, ap, subst, arith, rules, length, slice_index, slice_index_or, length-append, drop, take}
use Rattle.std.proofs.{Common.take-append-drop, Common.IfSome, Common.MatchOption, Common.nat_eq, Math.Seq.get_or-append_seam, lemmas.Grind.common_steps}
use Rattle.std.specs.{List.slice_split, Result.OkIff, Fmt.decimal, Str.IsUtf8, Str.Parse.AllDigits, Str.Parse.ParsesUnsigned, Str.Parse.digits_value}
use Rattle.std.proofs.lemmas.Bool.{cases_eq, cases_lt, Decides.nat_tests}
use Rattle.std.proofs.lemmas.Fmt.{IsAscii-decimal, decimal_is_IsNumeral, decimal-digits_value, decimal_digit, decimal_nonempty, first_decimal, parse-decimal}
use Rattle.std.specs.Cmp.Lexicographic.{other_text, pointwise, same_text}
use Rattle.std.proofs.lemmas.List.{append_cancel_left, take_at, Elements.All-append, Elements.All-cons, Elements.All-from_get_or, Splits.slice_split_at}
use Rattle.std.proofs.lemmas.Str.{IsUtf8-from_ascii, Parse.IsNumeralModel, Parse.digit_at, Parse.numerals_by_value, Parse.parse_plain, Parse.tells_digits}
use Rattle.adf_base.specs.{Dates.plain_text, Dates.IsStamp, declared.dates.Stamp.Stamp}
use Rattle.adf_names.specs.{declared.meta.Stamps.Stamps, Meta.AreStamps}
use Rattle.adf_manifest.specs.Tokens.{LacksByte, has_number_front, stamps_text}

pub if_none : {T P : Type 0} (o : Option T) → P → IfNone o P
if_none None p = p
if_none (Some x) p = tt

-- a text is cut in one way at the first of a byte
pub one_cut : (c : ℕ) (a b a' b' : List ℕ) → LacksByte c a → LacksByte c a' → a ++ c ∷ b ≡ a' ++ c ∷ b' → (a ≡ a') × (b ≡ b')
one_cut c a b a' b' h h' e =
    let p : ℕ → Bool = λ x. x == c in
    let same : p c ≡ true = search rules in
    let parts : a ∷ slice_split p b ≡ a' ∷ slice_split p b' =
    sym (slice_split_at p a c b h same) ∙ ap (slice_split p) e ∙ slice_split_at p a' c b' h' same in
    let front : a ≡ a' = cc in
    let back : c ∷ b ≡ c ∷ b' = append_cancel_left a' (c ∷ b) (c ∷ b') (ap (λ l. l ++ c ∷ b) (sym front) ∙ e) in
    (front, cc)

-- a text with the byte does not lack it
pub not_cut : (c : ℕ) (t a b : List ℕ) → LacksByte c t → t ≡ a ++ c ∷ b → ⊥
not_cut c t a b h e = grind (arith, common_steps, slice_index_or t (length a) 0, get_or-append_seam a c b 0, length-append a (c ∷ b))

-- the text is cut at the first two of a byte
abbrev pub CutTwice : ℕ → List ℕ → List ℕ → List ℕ → List ℕ → Type 0
CutTwice c text x y z = (text ≡ x ++ c ∷ (y ++ c ∷ z)) × LacksByte c x × LacksByte c y

-- and so in one way
pub one_cut_twice : (c : ℕ) (text x y z a b d : List ℕ) → CutTwice c text x y z → CutTwice c text a b d → (x ≡ a) × (y ≡ b) × (z ≡ d)
one_cut_twice c text x y z a b d (e, hx, hy) (g, ha, hb) = grind (arith, common_steps, one_cut)

-- a number in decimal has no other byte than digits
decimal_lacks : (c n : ℕ) → ((d : ℕ) → 48 ≤ d → d ≤ 57 → (d == c) ≡ false) → n < 2 ^ 32 → LacksByte c (decimal n)
decimal_lacks c n f h =
    let numeral = decimal_is_IsNumeral n (omega arith) in
    All-from_get_or (λ x. (x == c) ≡ false) (decimal n) 0
    (λ i lt. let r = digit_at (decimal n) i numeral.0.1 lt in f (slice_index_or (decimal n) i 0) r.0 r.1)

pub colon_lacks : (n : ℕ) → n < 2 ^ 32 → LacksByte 58 (decimal n)
colon_lacks n h = decimal_lacks 58 n (λ d low high. grind (arith, nat_tests)) h

pub space_lacks : (n : ℕ) → n < 2 ^ 32 → LacksByte 32 (decimal n)
space_lacks n h = decimal_lacks 32 n (λ d low high. grind (arith, nat_tests)) h

pub stamp_lacks : (s : Stamp) → IsStamp s → LacksByte 32 (plain_text s)
stamp_lacks s h = search (arith, All-append, space_lacks, All-cons)

-- the parts of a stamp
pub stamp_parts : {text x y z : List ℕ} (s : Stamp) → CutTwice 58 text x y z → IsStamp s → text ≡ plain_text s
    → (x ≡ decimal s.days) × (y ≡ decimal s.mins) × (z ≡ decimal s.ticks)
stamp_parts {text =
    text} {x = x} {y = y} {z = z} s cut h e = one_cut_twice 58 text x y z _ _ _ cut (e, colon_lacks s.days h.days, colon_lacks s.mins h.mins)

-- the parts of three stamps
pub stamps_parts : {text x y z : List ℕ} (s : Stamps) → CutTwice 32 text x y z → AreStamps s → text ≡ stamps_text s
    → (x ≡ plain_text s.root) × (y ≡ plain_text s.altered) × (z ≡ plain_text s.created)
stamps_parts {text = text} {x = x} {y = y} {z = z} s cut h e = one_cut_twice 32 text x y z _ _ (plain_text s.created) cut
    (e, stamp_lacks s.root h.root, stamp_lacks s.altered h.altered)

own : IsNumeralModel (AllDigits 10) (digits_value 10)
own = numerals_by_value (AllDigits 10) tells_digits

-- what the test of the front says of a length and a first byte
front_true : (n first : ℕ) → 0 < n → first ≢ 43 → (first ≡ 48 → n ≡ 1) → (nat_lt 0 n && (not (first == 43) && (not (first == 48) || (n == 1)))) ≡ true
front_true n first h p z = grind (arith, common_steps, cases_eq, nat_tests)

front_told : (n first : ℕ) → (nat_lt 0 n && (not (first == 43) && (not (first == 48) || (n == 1)))) ≡ true
    → (0 < n) × (first ≢ 43) × (first ≡ 48 → n ≡ 1)
front_told n first h = (grind (arith, nat_tests), (λ e. grind (arith, nat_tests)), (λ e. grind (arith, nat_tests)))

decimal_front : (n : ℕ) → n < 2 ^ 32 → has_number_front (decimal n) ≡ true
decimal_front n h =
    grind (arith, common_steps, decimal_is_IsNumeral, decimal_nonempty, digit_at, front_true, slice_index, cases_lt, first_decimal, decimal_digit)

-- what parse reads of a text with the front of a number
pub number_is : {E : Type 0} (text : List ℕ) (n : ℕ) (r : Result ℕ E) → has_number_front text ≡ true → ParsesUnsigned 32 10 text r → r ≡ Ok n
    → text ≡ decimal n
number_is text n r front h e =
    let told = front_told (length text) (slice_index text 0) front in
    let plain = parse_plain own 32 text r h told.1 in
    let Q : Type 0 = AllDigits 10 text × (0 < length text) × (digits_value 10 text < 2 ^ 32) in
    let ok = subst (λ q. OkIff q Q (digits_value 10 text)) e plain in
    sym (decimal-digits_value own text ok.0.0 told.0 told.2 (let small = ok.0.2 in omega arith)) ∙ ap decimal (sym ok.1)

pub no_number_front : (text : List ℕ) → has_number_front text ≡ false → (n : ℕ) → n < 2 ^ 32 → text ≢ decimal n
no_number_front text h n lt e = grind (arith, common_steps, decimal_front)

pub number_utf8 : (text : List ℕ) (n : ℕ) → n < 2 ^ 32 → text ≡ decimal n → IsUtf8 text
number_utf8 text n lt e = subst IsUtf8 (sym e) (IsUtf8-from_ascii (decimal n) (IsAscii-decimal n (omega arith)))

pub number_read : {E : Type 0} (text : List ℕ) (n : ℕ) (r : Result ℕ E) → ParsesUnsigned 32 10 text r → n < 2 ^ 32 → text ≡ decimal n → r ≡ Ok n
number_read text n r h lt e = parse-decimal 32 n text r lt (omega arith) e h

-- what a prefix that was taken off, or not found, says of a text
pub prefix_says : {T : Type 0} (L : T → Type 0) (text prefix : List ℕ) (f : T → List ℕ) (o : Option T)
    → MatchOption o (pointwise nat_eq (take (length prefix) text) prefix ≡ false)
    (λ x. (pointwise nat_eq (take (length prefix) text) prefix ≡ true) × (f x ≡ drop (length prefix) text) × L x)
    → IfSome o (λ x. text ≡ prefix ++ f x) × IfNone o ((rest : List ℕ) → text ≢ prefix ++ rest)
prefix_says L text prefix f None h = (tt, λ rest e. other_text _ _ (sym h) (ap (take (length prefix)) e ∙ take_at prefix rest (length prefix) refl))
prefix_says L text prefix f (Some x) h =
    let n = length prefix in
    (sym (take-append-drop n text) ∙ ap (λ l. l ++ drop n text) (same_text _ _ (sym h.0)) ∙ ap (λ l. prefix ++ l) (sym h.1), tt)

-- a text of one digit is that number
pub one_digit : (text : List ℕ) (n : ℕ) → length text ≡ 1 → 48 ≤ slice_index text 0 → slice_index text 0 ≤ 57 → n ≡ slice_index text 0 - 48
    → text ≡ decimal n
one_digit text n h k l m = grind (arith, common_steps, decimal_digit)
