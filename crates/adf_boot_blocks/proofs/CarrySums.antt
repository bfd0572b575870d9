-- Sums of words with each carry added back: what they leave by 2 ^ 32 - 1, and no 0 where there is a word that is none.
use Rattle.std.proofs.Common.{◌≡◌, ◌≢◌, ℕ, zero, suc, List, [], ◌∷◌, ◌++◌, ◌+◌, ◌-◌, ◌*◌, ◌/◌, ◌^◌, ◌<◌, ◌≤◌, true, sum, length, slice_index, slice_range, inl}
use Rattle.std.proofs.Common.{inr, eq-eqb, refl, sym, subst, ◌∙◌, arith, add-one}
use Rattle.std.proofs.{lemmas.Bool.cases_eq, lemmas.Grind.common_steps}
use Rattle.std.proofs.lemmas.List.{get_or-drop, get_or-take, FromFn.map-range_with_len_more, Sums.fold_push}
use Rattle.byteorder.specs.Endian.{big_bytes}
use Rattle.adf_base.specs.Words.{with_word, word, words}
use Rattle.adf_base.proofs.WordLaws.{sum-with_word, sum_words_more, word-with_word_same, word-with_word_other, with_bytes-with_bytes, length-big_bytes}
use Rattle.adf_boot_blocks.specs.BootBlocks.{carry_sum, has_right_sum, with_carry, with_sum}
use Rattle.adf_boot_blocks.specs.declared.boot.TheConstants.{BOOT_LEN, BOOT_WORDS, CHECKSUM, RIGHT_SUM}

-- one word more
pub words_more : (bs : List ℕ) (i : ℕ) → words (i + 1) bs ≡ words i bs ++ word bs i ∷ []
unfolding words
words_more bs i = map-range_with_len_more (word bs) 0 i i (omega arith)

pub carry_more : (bs : List ℕ) (i : ℕ) → carry_sum (words (i + 1) bs) ≡ with_carry (carry_sum (words i bs)) (word bs i)
carry_more bs i = rw (words_more bs i) (fold_push with_carry 0 (words i bs) (word bs i))

pub carry_none : (bs : List ℕ) → carry_sum (words 0 bs) ≡ 0
unfolding words
carry_none bs = refl

-- a sum s of words, and what it is with each carry added back
record IsCarried (s c : ℕ) : Type 0 where
  carries : ℕ
  left : s ≡ c + RIGHT_SUM * carries
  small : c ≤ RIGHT_SUM
  none : c ≡ 0 → s ≡ 0

carried_more : (s c w : ℕ) → IsCarried s c → w ≤ RIGHT_SUM → IsCarried (s + w) (with_carry c w)
carried_more s c w was small = record {
  carries = was.carries + (c + w) / 2 ^ 32;
  left = omega (arith, was.left, was.small);
  small = omega (arith, was.small);
  none = λ e. omega (arith, was.none, was.small);
}

-- the sum of the first n words
carried : (bs : List ℕ) (n : ℕ) → ((i : ℕ) → i < n → word bs i ≤ RIGHT_SUM) → IsCarried (sum (words n bs)) (carry_sum (words n bs))
unfolding words
carried bs zero small = record { carries = 0; left = refl; small = omega arith; none = λ e. refl }
carried bs (suc n) small =
    let ih = carried bs n (λ i lt. small i (omega arith)) in
    let more = carried_more (sum (words n bs)) (carry_sum (words n bs)) (word bs n) ih (small n (omega arith)) in
    let P : ℕ → ℕ → Type 0 = λ s c. IsCarried s c in
    subst (λ (m : ℕ). IsCarried (sum (words m bs)) (carry_sum (words m bs))) (add-one n)
    (subst (λ (s : ℕ). IsCarried s (carry_sum (words (n + 1) bs))) (sym (sum_words_more bs n))
    (subst (λ (c : ℕ). IsCarried (sum (words n bs) + word bs n) c) (sym (carry_more bs n)) more))

-- the bytes of a list of bytes
abbrev pub AreBytes : List ℕ → Type 0
AreBytes bs = (k : ℕ) → k < length bs → slice_index bs k < 256

byte_in : (bs : List ℕ) (a b k : ℕ) → slice_index bs (a + k) < 256 → a + k < b → slice_index (slice_range bs a b) k < 256
byte_in bs a b k small lt =
    let at : slice_index (slice_range bs a b) k ≡ slice_index bs (a + k) = grind (arith, common_steps, get_or-take, get_or-drop) in
    omega (arith, at, small)

-- a word of four bytes
pub word_of_bytes : (bs : List ℕ) (i : ℕ) → ((k : ℕ) → k < 4 → slice_index bs (4 * i + k) < 256) → word bs i ≤ RIGHT_SUM
unfolding word
word_of_bytes bs i small =
    let h0 = byte_in bs (4 * i) (4 * i + 4) 0 (small 0 (omega arith)) (omega arith) in
    let h1 = byte_in bs (4 * i) (4 * i + 4) 1 (small 1 (omega arith)) (omega arith) in
    let h2 = byte_in bs (4 * i) (4 * i + 4) 2 (small 2 (omega arith)) (omega arith) in
    let h3 = byte_in bs (4 * i) (4 * i + 4) 3 (small 3 (omega arith)) (omega arith) in
    omega (arith, h0, h1, h2, h3)

pub word_small : (bs : List ℕ) (i : ℕ) → AreBytes bs → 4 * i + 4 ≤ length bs → word bs i ≤ RIGHT_SUM
word_small bs i bytes long = word_of_bytes bs i (λ k lt. bytes (4 * i + k) (omega (arith, lt)))

-- a word that is set twice
pub set_twice : (bs : List ℕ) (i v w : ℕ) → 4 * i + 4 ≤ length bs → with_word (with_word bs i v) i w ≡ with_word bs i w
set_twice bs i v w long =
    with_bytes-with_bytes bs (4 * i) (big_bytes 4 v) (big_bytes 4 w) (omega (arith, length-big_bytes 4 v))
    (length-big_bytes 4 v ∙ sym (length-big_bytes 4 w))

-- words but for the checksum
abbrev pub AreWords : List ℕ → Type 0
AreWords bs = (i : ℕ) → i < BOOT_WORDS → i ≢ CHECKSUM → word bs i ≤ RIGHT_SUM

pub words_of_bytes : (bs : List ℕ) → AreBytes bs → BOOT_LEN ≤ length bs → AreWords bs
words_of_bytes bs bytes long i lt ne = word_small bs i bytes (omega arith)

pub words_unset : (bs : List ℕ) (v : ℕ) → BOOT_LEN ≤ length bs → AreWords (with_word bs CHECKSUM v) → AreWords bs
words_unset bs v long small i lt ne =
    let same = word-with_word_other bs CHECKSUM v i (omega arith) ne in
    omega (arith, small i lt ne)

word_set : (bs : List ℕ) (v i : ℕ) → AreWords bs → BOOT_LEN ≤ length bs → v ≤ RIGHT_SUM → i < BOOT_WORDS → word (with_word bs CHECKSUM v) i ≤ RIGHT_SUM
word_set bs v i words long small lt = elim (cases_eq i CHECKSUM) [
  | inl e ↦ let same = word-with_word_same bs CHECKSUM v (omega arith) (omega arith) in
      subst (λ (j : ℕ). word (with_word bs CHECKSUM v) j ≤ RIGHT_SUM) (sym e) (omega arith)
  | inr ne ↦ let other = word-with_word_other bs CHECKSUM v i (omega arith) ne in
      omega (arith, words i lt ne)
]

-- what a checksum makes of a sum
sum_with : (s0 c0 s c w t : ℕ) → IsCarried s0 c0 → IsCarried s c → s0 + w ≡ t + 0 → s + w ≡ t + (RIGHT_SUM - c0) → c ≡ RIGHT_SUM
sum_with s0 c0 s c w t zeroed done before after =
    let no : c ≢ 0 = λ e. absurd (omega (arith, done.none e, zeroed.left, zeroed.small)) in
    omega (arith, no, done.left, done.small, zeroed.left, zeroed.small)

-- the sum with the checksum
pub sum_is_right : (bs : List ℕ) → AreWords bs → BOOT_LEN ≤ length bs → has_right_sum (with_sum bs) ≡ true
sum_is_right bs small long =
    let zeroed = carried (with_word bs CHECKSUM 0) BOOT_WORDS (λ i lt. word_set bs 0 i small long (omega arith) lt) in
    let v : ℕ = RIGHT_SUM - carry_sum (words BOOT_WORDS (with_word bs CHECKSUM 0)) in
    let done = carried (with_word bs CHECKSUM v) BOOT_WORDS (λ i lt. word_set bs v i small long (omega arith) lt) in
    let before = sum-with_word bs CHECKSUM 0 BOOT_WORDS (omega arith) (omega arith) (omega arith) in
    let after = sum-with_word bs CHECKSUM v BOOT_WORDS (omega arith) (omega arith) (omega arith) in
    eq-eqb (carry_sum (words BOOT_WORDS (with_word bs CHECKSUM v))) RIGHT_SUM
    (sum_with (sum (words BOOT_WORDS (with_word bs CHECKSUM 0))) (carry_sum (words BOOT_WORDS (with_word bs CHECKSUM 0)))
    (sum (words BOOT_WORDS (with_word bs CHECKSUM v))) (carry_sum (words BOOT_WORDS (with_word bs CHECKSUM v)))
    (word bs CHECKSUM) (sum (words BOOT_WORDS bs)) zeroed done before after)
