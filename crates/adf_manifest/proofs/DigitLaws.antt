-- Laws of hexadecimal digits.
use Rattle.std.proofs.Common.{◌&&◌, true, ◌≡◌, ◌<◌, ◌^◌, ◌+◌, ◌*◌, ◌/◌, ◌%◌, ◌==◌, ◌++◌, ◌∙◌, ℕ, false, List, [], ◌∷◌, refl, ap, arith, length, get_or, zero}
use Rattle.std.proofs.{Common.suc, lemmas.Bool.and_from, lemmas.Bool.and_parts, lemmas.Bool.Decides.nat_tests, lemmas.Grind.common_steps}
use Rattle.std.specs.List.{All, list_all}
use Rattle.std.proofs.lemmas.List.Elements.{All-cons, All-head, All-nil, All-tail}
use Rattle.adf_names.specs.Escapes.{hex_digit}
use Rattle.adf_manifest.specs.{Tokens.LacksByte, Texts.digit, Texts.is_digit, Texts.pairs, Texts.unpaired, Texts.AreDigits}
use Rattle.adf_names.specs.Digits.{hex_word, pair}
use Rattle.adf_names.proofs.Spellings.{same_digits}

-- the digits of a byte at the head of a text are of one byte
pub one_pair : (a b : ℕ) (x y : List ℕ) → a < 256 → b < 256 → pair a ++ x ≡ pair b ++ y → (a ≡ b) × (x ≡ y)
one_pair a b x y h g e = grind (arith, common_steps, same_digits)

digit_hex : (d : ℕ) → d < 16 → digit (hex_digit d) ≡ d
digit_hex d h = grind (arith, nat_tests)

byte_digits : (b : ℕ) → b < 256 → 16 * digit (hex_digit (b / 16)) + digit (hex_digit (b % 16)) ≡ b
byte_digits b h = omega (arith, digit_hex (b / 16) (omega arith), digit_hex (b % 16) (omega arith))

pub unpaired_pairs : (bytes : List ℕ) → All (λ b. b < 256) bytes → unpaired (pairs bytes) ≡ bytes
unpaired_pairs [] h = refl
unpaired_pairs (b ∷ bs) h = grind (arith, common_steps, byte_digits, All-head, All-tail, (unpaired_pairs bs (All-tail (λ k. k < 256) b bs h)))

digit_back : (c : ℕ) → is_digit c ≡ true → (digit c < 16) × (hex_digit (digit c) ≡ c)
digit_back c h = (grind (arith, nat_tests), grind (arith, nat_tests))

hex_is_digit : (d : ℕ) → d < 16 → is_digit (hex_digit d) ≡ true
hex_is_digit d h = grind (arith, nat_tests)

-- digits of an even number are those of bytes
pub pairs_of_digits : (text : List ℕ) → length text % 2 ≡ 0 → list_all is_digit text ≡ true → AreDigits text
pairs_of_digits [] even h = record { spells = refl; are_bytes = All-nil (λ b. b < 256) }
pairs_of_digits (high ∷ []) even h = absurd (omega (arith, even))
pairs_of_digits (high ∷ low ∷ rest) even h =
    let first = and_parts (is_digit high) (is_digit low && list_all is_digit rest) h in
    let second = and_parts (is_digit low) (list_all is_digit rest) first.1 in
    let x = digit_back high first.0 in
    let y = digit_back low second.0 in
    let more = pairs_of_digits rest (omega (arith, even)) second.1 in
    let b : ℕ = 16 * digit high + digit low in
    let upper : b / 16 ≡ digit high = omega (arith, y.0) in
    let lower : b % 16 ≡ digit low = omega (arith, y.0) in
    record {
      spells = rw (upper, lower, x.1, y.1) (ap (λ r. high ∷ low ∷ r) more.spells);
      are_bytes = All-cons (λ b. b < 256) b (unpaired rest) (omega (arith, x.0, y.0)) more.are_bytes;
    }

-- the digits of bytes are digits of an even number
pub digits_of_pairs : (bytes : List ℕ) → All (λ b. b < 256) bytes → (length (pairs bytes) % 2 ≡ 0) × (list_all is_digit (pairs bytes) ≡ true)
digits_of_pairs [] h = (refl, refl)
digits_of_pairs (b ∷ bs) h =
    grind (arith, common_steps, All-head, All-tail, and_from, hex_is_digit, (digits_of_pairs bs (All-tail (λ k. k < 256) b bs h)))

pub all_digits : (text : List ℕ) → AreDigits text → list_all is_digit text ≡ true
all_digits text h = ap (list_all is_digit) h.spells ∙ (digits_of_pairs (unpaired text) h.are_bytes).1

abbrev four : ℕ → ℕ → ℕ → ℕ → List ℕ
four a b c d = pair a ++ (pair b ++ (pair c ++ pair d))

-- the digits of the bytes of a word
pub word_is : {text : List ℕ} {a b c : ℕ} (d w : ℕ) → a < 256 → b < 256 → c < 256 → d < 256 → w ≡ a * 16777216 + b * 65536 + c * 256 + d
    → text ≡ four a b c d → text ≡ hex_word w
word_is {a = a} {b = b} {c = c} d w ha hb hc hd s e =
    let p : a ≡ w / 16777216 % 256 = omega arith in
    let q : b ≡ w / 65536 % 256 = omega arith in
    let r : c ≡ w / 256 % 256 = omega arith in
    let t : d ≡ w % 256 = omega arith in
    rw (e, p, q, r, t)

no_space : (d : ℕ) → d < 16 → (hex_digit d == 32) ≡ false
no_space d h = grind (arith, nat_tests)

pub pair_lacks : (b : ℕ) (rest : List ℕ) → b < 256 → LacksByte 32 rest → LacksByte 32 (pair b ++ rest)
pair_lacks b rest h a = grind (arith, common_steps, no_space)

pub word_lacks : (w : ℕ) → LacksByte 32 (hex_word w)
word_lacks w = search (arith, pair_lacks, All-nil)

-- a word is the same where its digits are
pub one_word : (v w : ℕ) → v < 2 ^ 32 → w < 2 ^ 32 → hex_word v ≡ hex_word w → v ≡ w
one_word v w h g e =
    let a = one_pair (v / 16777216 % 256) (w / 16777216 % 256) _ _ (omega arith) (omega arith) e in
    let b = one_pair (v / 65536 % 256) (w / 65536 % 256) _ _ (omega arith) (omega arith) a.1 in
    let c = one_pair (v / 256 % 256) (w / 256 % 256) _ _ (omega arith) (omega arith) b.1 in
    let d = one_pair (v % 256) (w % 256) [] [] (omega arith) (omega arith) c.1 in
    omega (arith, a.0, b.0, c.0, d.0)

-- the bytes of digits, one by one
pub unpaired_length : (text : List ℕ) → length (unpaired text) ≡ length text / 2
unpaired_length [] = refl
unpaired_length (high ∷ []) = refl
unpaired_length (high ∷ low ∷ rest) = omega (arith, unpaired_length rest)

pub unpaired_at : (text : List ℕ) (i a b : ℕ) → a ≡ 2 * i → b ≡ 2 * i + 1 → i < length text / 2
    → get_or (unpaired text) i 0 ≡ 16 * digit (get_or text a 0) + digit (get_or text b 0)
unpaired_at [] i a b even odd lt = absurd (omega (arith, lt))
unpaired_at (high ∷ []) i a b even odd lt = absurd (omega (arith, lt))
unpaired_at (high ∷ low ∷ rest) zero a b even odd lt = grind (arith, common_steps)
unpaired_at (high ∷ low ∷ rest) (suc i) a b even odd lt =
    let x : a ≡ suc (suc (2 * i)) = omega (arith, even) in
    let y : b ≡ suc (suc (2 * i + 1)) = omega (arith, odd) in
    rw (x, y) (unpaired_at rest i (2 * i) (2 * i + 1) refl refl (omega (arith, lt)))
