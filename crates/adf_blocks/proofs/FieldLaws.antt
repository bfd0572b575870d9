-- The content of a block composed of fields.
use Rattle.std.proofs.Common.{◌≡◌, ◌≢◌, ◌≤◌, ◌<◌, ℕ, zero, suc, ◌+◌, ◌-◌, ◌*◌, ◌^◌, ◌⊎◌, List, ◌++◌, [], ◌∷◌, rules, length, take, drop, refl, sym, ap, subst}
use Rattle.std.proofs.Common.{◌∙◌, arith, add-zero, append-nil, inl, inr, slice_range, slice_index, replicate, reverse, min}
use Rattle.std.proofs.{lemmas.Bool.cases_lt, Math.Seq.drop-append-add, lemmas.Grind.common_steps}
use Rattle.std.proofs.lemmas.List.{length-replicate, length-reverse, drop-take, drop-drop, take-take, take_at, take_all, drop-replicate, take-replicate}
use Rattle.std.proofs.lemmas.List.{get_or-drop, get_or-take, get_or-reverse, get_or_past, length-take}
use Rattle.byteorder.specs.{Endian.big_number, Numbers.big_number-reads_back}
use Rattle.adf_base.specs.{Words.word, Words.long_sum, Words.sealed, Words.checksum, declared.dates.Stamp.Stamp, Dates.IsStamp}
use Rattle.adf_base.proofs.WordLaws.{length-with_bytes, range-with_bytes_same, range-with_bytes_below, range-with_bytes_above, word-with_word_other}
use Rattle.adf_base.proofs.WordLaws.{length_longs, long_sum-sealed, length-big_bytes}
use Rattle.adf_blocks.specs.{declared.layout.TheConstants.CHECKSUM, Forms.stamp_at, Forms.text_at}
use Rattle.adf_blocks.specs.Fields.{Field, block_of_fields, Descends, downwards, long, longs, stamp, text}

-- a block that is laid is whole
pub length-block_of_fields : (top : ℕ) (fs : List Field) → top ≤ 512 → Descends top fs → length (block_of_fields fs) ≡ 512
length-block_of_fields top [] le d = length-replicate {A = ℕ} 512 0
length-block_of_fields top (f ∷ fs) le d =
    let ih = length-block_of_fields f.0 fs (omega (arith, d.0)) d.1 in
    length-with_bytes (block_of_fields fs) f.0 f.1 (omega (arith, d.0)) ∙ ih

-- the field is one of these
abbrev pub HasField : List Field → Field → Type 0
HasField [] e = ⊥
HasField (f ∷ fs) e = (f ≡ e) ⊎ HasField fs e

-- the first field is one of these, and the second stands right behind it in the list
abbrev pub HasNeighbours : List Field → Field → Field → Type 0
HasNeighbours [] e g = ⊥
HasNeighbours (f ∷ []) e g = ⊥
HasNeighbours (f ∷ h ∷ fs) e g = ((f ≡ e) × (h ≡ g)) ⊎ HasNeighbours (h ∷ fs) e g

first_of_neighbours : (fs : List Field) (e g : Field) → HasNeighbours fs e g → HasField fs e
first_of_neighbours [] e g h = absurd h
first_of_neighbours (f ∷ []) e g h = absurd h
first_of_neighbours (f ∷ k ∷ fs) e g (inl h) = inl h.0
first_of_neighbours (f ∷ k ∷ fs) e g (inr h) = inr (first_of_neighbours (k ∷ fs) e g h)

-- each field lies below the top
field_below : (top : ℕ) (fs : List Field) (e : Field) → Descends top fs → HasField fs e → e.0 + length e.1 ≤ top
field_below top [] e d h = absurd h
field_below top (f ∷ fs) e d (inl x) = subst (λ (g : Field). g.0 + length g.1 ≤ top) x d.0
field_below top (f ∷ fs) e d (inr h) = search (rules, field_below f.0 fs e d.1 h)

-- a field stands where it was put
pub field_there : (top : ℕ) (fs : List Field) (e : Field) → top ≤ 512 → Descends top fs → HasField fs e
    → slice_range (block_of_fields fs) e.0 (e.0 + length e.1) ≡ e.1
field_there top [] e le d h = absurd h
field_there top (f ∷ fs) e le d (inl x) = grind (arith, common_steps, length-block_of_fields, range-with_bytes_same)
field_there top (f ∷ fs) e le d (inr h) =
    let n = length-block_of_fields f.0 fs (omega (arith, d.0)) d.1 in
    let below = field_below f.0 fs e d.1 h in
    range-with_bytes_below (block_of_fields fs) f.0 f.1 e.0 (e.0 + length e.1) (omega (arith, d.0)) below
    ∙ field_there f.0 fs e (omega (arith, d.0)) d.1 h

-- the number of a word's bytes
pub long_number : (w : ℕ) → w < 2 ^ 32 → big_number 4 (long w) ≡ w
long_number w small = ap (big_number 4) (sym (append-nil (long w))) ∙ big_number-reads_back 4 w [] small

-- a word by its bytes
number_there : (bs : List ℕ) (i w : ℕ) → slice_range bs (4 * i) (4 * i + 4) ≡ long w → word bs i ≡ big_number 4 (long w)
unfolding word
number_there bs i w h = ap (big_number 4) h

-- the number in a word that was put down, where nothing is sealed
pub fields_long : (fs : List Field) (i w : ℕ) → Descends 512 fs → HasField fs (4 * i, long w) → word (block_of_fields fs) i ≡ big_number 4 (long w)
fields_long fs i w d h =
    let n = length-big_bytes 4 w in
    let z : 4 * i + length (long w) ≡ 4 * i + 4 = omega arith in
    number_there (block_of_fields fs) i w
    (ap (slice_range (block_of_fields fs) (4 * i)) (sym z) ∙ field_there 512 fs (4 * i, long w) (omega arith) d h)

-- the number in a word that was put down
pub number_of_field : (fs : List Field) (i w : ℕ) → Descends 512 fs → HasField fs (4 * i, long w) → i ≢ CHECKSUM
    → word (sealed CHECKSUM (block_of_fields fs)) i ≡ big_number 4 (long w)
number_of_field fs i w d h other =
    let n = length-block_of_fields 512 fs (omega arith) d in
    word-with_word_other (block_of_fields fs) CHECKSUM (checksum CHECKSUM (block_of_fields fs)) i (omega arith) other ∙ fields_long fs i w d h

-- a word that was put down
pub word_of_field : (fs : List Field) (i w : ℕ) → Descends 512 fs → HasField fs (4 * i, long w) → i ≢ CHECKSUM → w < 2 ^ 32
    → word (sealed CHECKSUM (block_of_fields fs)) i ≡ w
word_of_field fs i w d h other small = number_of_field fs i w d h other ∙ long_number w small

-- the sum of what was sealed
pub sum_of_fields : (fs : List Field) → Descends 512 fs → long_sum (sealed CHECKSUM (block_of_fields fs)) ≡ 0
sum_of_fields fs d = long_sum-sealed CHECKSUM (block_of_fields fs) (omega arith) (length-block_of_fields 512 fs (omega arith) d)

-- a part of a part
pub sub_range : (xs : List ℕ) (a b i j : ℕ) → i ≤ j → a + j ≤ b → slice_range (slice_range xs a b) i j ≡ slice_range xs (a + i) (a + j)
sub_range xs a b i j le h =
    let m : ℕ = b - a - i in
    let split : b - a ≡ i + m = omega arith in
    let width : a + j - (a + i) ≡ j - i = omega arith in
    let inner : drop i (take (b - a) (drop a xs)) ≡ take m (drop (a + i) xs) =
    ap (λ k. drop i (take k (drop a xs))) split ∙ drop-take i m (drop a xs) ∙ ap (take m) (drop-drop i a xs) in
    ap (take (j - i)) inner ∙ take-take (j - i) m (drop (a + i) xs) (omega arith) ∙ ap (λ k. take k (drop (a + i) xs)) (sym width)

-- word s of words that stand one after the other
pub longs_at : (ws : List ℕ) (s : ℕ) → s < length ws → slice_range (longs ws) (4 * s) (4 * s + 4) ≡ long (slice_index ws s)
longs_at [] s lt = absurd (omega arith)
longs_at (w ∷ ws) zero lt = take_at (long w) (longs ws) 4 (length-big_bytes 4 w)
longs_at (w ∷ ws) (suc s) lt =
    let skip : drop (4 * suc s) (long w ++ longs ws) ≡ drop (4 * s) (longs ws) =
    ap (λ k. drop k (long w ++ longs ws)) (omega (arith, length-big_bytes 4 w)) ∙ drop-append-add (long w) (longs ws) (4 * s) in
    let n : 4 * suc s + 4 - 4 * suc s ≡ 4 * s + 4 - 4 * s = omega arith in
    ap (take (4 * suc s + 4 - 4 * suc s)) skip ∙ ap (λ k. take k (drop (4 * s) (longs ws))) n ∙ longs_at ws s (omega arith)

-- the number in a word of words that were put down, where nothing is sealed
pub fields_longs : (fs : List Field) (i s : ℕ) (ws : List ℕ) → Descends 512 fs → HasField fs (4 * i, longs ws) → s < length ws
    → word (block_of_fields fs) (i + s) ≡ big_number 4 (long (slice_index ws s))
fields_longs fs i s ws d h in_words =
    let n = length-block_of_fields 512 fs (omega arith) d in
    let there = field_there 512 fs (4 * i, longs ws) (omega arith) d h in
    let m = length_longs ws in
    let a : 4 * (i + s) ≡ 4 * i + 4 * s = omega arith in
    let b : 4 * (i + s) + 4 ≡ 4 * i + (4 * s + 4) = omega arith in
    let part : slice_range (block_of_fields fs) (4 * (i + s)) (4 * (i + s) + 4) ≡ long (slice_index ws s) =
    ap (λ p. slice_range (block_of_fields fs) p (4 * (i + s) + 4)) a
    ∙ ap (λ q. slice_range (block_of_fields fs) (4 * i + 4 * s) q) b
    ∙ sym (sub_range (block_of_fields fs) (4 * i) (4 * i + length (longs ws)) (4 * s) (4 * s + 4) (omega arith) (omega arith))
    ∙ ap (λ xs. slice_range xs (4 * s) (4 * s + 4)) there
    ∙ longs_at ws s in_words in
    number_there (block_of_fields fs) (i + s) (slice_index ws s) part

-- the number in a word of words that were put down
pub numbers_of_field : (c : ℕ) (fs : List Field) (i s : ℕ) (ws : List ℕ) → c < 128 → Descends 512 fs → HasField fs (4 * i, longs ws) → s < length ws
    → i + s ≢ c → word (sealed c (block_of_fields fs)) (i + s) ≡ big_number 4 (long (slice_index ws s))
numbers_of_field c fs i s ws in_block d h in_words other = grind (arith, common_steps, length-block_of_fields, word-with_word_other, fields_longs)

-- a date that was put down
pub stamp_of_field : (fs : List Field) (i : ℕ) (s : Stamp) → Descends 512 fs → HasField fs (4 * i, stamp s)
    → CHECKSUM < i → IsStamp s → stamp_at (sealed CHECKSUM (block_of_fields fs)) i ≡ s
stamp_of_field fs i s d h above fits =
    let ws : List ℕ = s.days ∷ s.mins ∷ s.ticks ∷ [] in
    let there : (j : ℕ) → j < 3 → slice_index ws j < 2 ^ 32 → word (sealed CHECKSUM (block_of_fields fs)) (i + j) ≡ slice_index ws j =
    λ j in_date small. numbers_of_field CHECKSUM fs i j ws (omega arith) d h (omega arith) (omega arith) ∙ long_number (slice_index ws j) small in
    let days : word (sealed CHECKSUM (block_of_fields fs)) i ≡ s.days = ap (word (sealed CHECKSUM (block_of_fields fs))) (sym (add-zero i))
    ∙ there 0 (omega arith) fits.days in
    rw (days, there 1 (omega arith) fits.mins, there 2 (omega arith) fits.ticks) refl

-- each field ends at byte a or before, or begins at byte b or after
abbrev pub Apart : ℕ → ℕ → List Field → Type 0
Apart a b [] = Unit {0}
Apart a b (f ∷ fs) = ((b ≤ f.0) ⊎ (f.0 + length f.1 ≤ a)) × Apart a b fs

-- what lies above all fields is apart from them
pub apart_below : (top a b : ℕ) (fs : List Field) → Descends top fs → top ≤ a → Apart a b fs
apart_below top a b [] d le = tt
apart_below top a b (f ∷ fs) d le = (inr (omega (arith, d.0)), apart_below f.0 a b fs d.1 (omega (arith, d.0)))

-- what lies between a field and the one behind it is apart from all fields
pub apart_between : (top a b : ℕ) (fs : List Field) (e g : Field) → Descends top fs → HasNeighbours fs e g → b ≤ e.0 → g.0 + length g.1 ≤ a
    → Apart a b fs
apart_between top a b [] e g d h lo hi = absurd h
apart_between top a b (f ∷ []) e g d h lo hi = absurd h
apart_between top a b (f ∷ k ∷ fs) e g d (inl h) lo hi = grind (arith, common_steps, apart_below)
apart_between top a b (f ∷ k ∷ fs) e g d (inr h) lo hi =
    let below = field_below f.0 (k ∷ fs) e d.1 (first_of_neighbours (k ∷ fs) e g h) in
    (inl (omega (arith, lo)), apart_between f.0 a b (k ∷ fs) e g d.1 h lo hi)

-- bytes that no field is put over
range_between : (top a b : ℕ) (fs : List Field) → top ≤ 512 → Descends top fs → Apart a b fs
    → slice_range (block_of_fields fs) a b ≡ slice_range (replicate 512 0) a b
range_between top a b [] le d apart = refl
range_between top a b (f ∷ fs) le d apart =
    grind (arith, common_steps, length-block_of_fields, range-with_bytes_below, range-with_bytes_above, range_between f.0 a b fs)

-- a word of zeros
zero_word : (i : ℕ) → i < 128 → slice_range (replicate 512 0) (4 * i) (4 * i + 4) ≡ long 0
zero_word i lt =
    let n : 4 * i + 4 - 4 * i ≡ 4 = omega arith in
    ap (take (4 * i + 4 - 4 * i)) (drop-replicate (4 * i) 512 0)
    ∙ ap (λ k. take k (replicate (512 - 4 * i) 0)) n
    ∙ take-replicate 4 (512 - 4 * i) 0 (omega arith)

-- a word that no field is put over, where nothing is sealed
pub fields_between : (fs : List Field) (i : ℕ) → Descends 512 fs → i < 128 → Apart (4 * i) (4 * i + 4) fs → word (block_of_fields fs) i ≡ 0
fields_between fs i d lt apart =
    number_there (block_of_fields fs) i 0 (range_between 512 (4 * i) (4 * i + 4) fs (omega arith) d apart ∙ zero_word i lt)

-- a word that no field is put over
pub word_between : (fs : List Field) (i : ℕ) → Descends 512 fs → i < 128 → Apart (4 * i) (4 * i + 4) fs → i ≢ CHECKSUM
    → word (sealed CHECKSUM (block_of_fields fs)) i ≡ 0
word_between fs i d lt apart other =
    let n = length-block_of_fields 512 fs (omega arith) d in
    word-with_word_other (block_of_fields fs) CHECKSUM (checksum CHECKSUM (block_of_fields fs)) i (omega arith) other ∙ fields_between fs i d lt apart

-- the number in word i - j where words were put down from word i on, downwards: word j of these, or 0 past the last
pub pointer_number : (fs : List Field) (i j : ℕ) (ws : List ℕ) (behind : Field) → Descends 512 fs → HasNeighbours fs (downwards i ws) behind
    → length ws + CHECKSUM ≤ i → j + CHECKSUM < i → i < 128 → behind.0 + length behind.1 ≤ 4 * (i - j)
    → word (sealed CHECKSUM (block_of_fields fs)) (i - j) ≡ big_number 4 (long (slice_index ws j))
pointer_number fs i j ws behind d h room above in_block next = elim (cases_lt j (length ws)) [
  | inl in_words ↦
      let n : length (reverse ws) ≡ length ws = length-reverse ws in
      let at : i - j ≡ (i + 1 - length ws) + (length ws - 1 - j) = omega arith in
      let back : length ws - 1 - (length ws - 1 - j) ≡ j = omega arith in
      ap (word (sealed CHECKSUM (block_of_fields fs))) at
      ∙ numbers_of_field CHECKSUM fs (i + 1 - length ws) (length ws - 1 - j) (reverse ws) (omega arith) d
      (first_of_neighbours fs (downwards i ws) behind h) (omega arith) (omega arith)
      ∙ ap (λ w. big_number 4 (long w)) (get_or-reverse ws (length ws - 1 - j) 0 (omega arith) ∙ ap (slice_index ws) back)
  | inr beyond ↦
      let zero_there : slice_index ws j ≡ 0 = get_or_past ws j 0 beyond in
      word_between fs (i - j) d (omega arith)
      (apart_between 512 (4 * (i - j)) (4 * (i - j) + 4) fs (downwards i ws) behind d h (omega arith) next) (omega arith)
      ∙ ap (λ w. big_number 4 (long w)) (sym zero_there)
]

-- a block that was laid and sealed is whole
pub length_sealed_fields : (fs : List Field) → Descends 512 fs → length (sealed CHECKSUM (block_of_fields fs)) ≡ 512
length_sealed_fields fs d = grind (arith, common_steps, length-block_of_fields, length-with_bytes, length-big_bytes)

-- bytes that were put down above word 5
pub bytes_of_field : (fs : List Field) (from : ℕ) (xs : List ℕ) → Descends 512 fs → HasField fs (from, xs) → 4 * CHECKSUM + 4 ≤ from
    → slice_range (sealed CHECKSUM (block_of_fields fs)) from (from + length xs) ≡ xs
bytes_of_field fs from xs d h above =
    let n = length-block_of_fields 512 fs (omega arith) d in
    let there = field_there 512 fs (from, xs) (omega arith) d h in
    range-with_bytes_above (block_of_fields fs) (4 * CHECKSUM) (long (checksum CHECKSUM (block_of_fields fs))) from (from + length xs) (omega arith)
    (omega (arith, length-big_bytes 4 (checksum CHECKSUM (block_of_fields fs)))) ∙ there

-- how a length and a text read
pub text_reads : (bs xs : List ℕ) (at : ℕ) → slice_range xs at (at + length (text bs)) ≡ text bs
    → (slice_index xs at ≡ length bs) × (text_at xs at ≡ bs)
text_reads bs xs at h = grind (arith, common_steps, get_or-take, sub_range, take_all, add-zero at, get_or-drop at xs 0 0)

-- a length and a text that were put down above word 5
pub text_of_field : (fs : List Field) (at : ℕ) (bs : List ℕ) → Descends 512 fs → HasField fs (at, text bs) → 4 * CHECKSUM + 4 ≤ at
    → (slice_index (sealed CHECKSUM (block_of_fields fs)) at ≡ length bs) × (text_at (sealed CHECKSUM (block_of_fields fs)) at ≡ bs)
text_of_field fs at bs d h above = text_reads bs (sealed CHECKSUM (block_of_fields fs)) at (bytes_of_field fs at (text bs) d h above)

-- the first bytes of a text
pub cut_text : (b : List ℕ) (at m : ℕ) → slice_range b (at + 1) (at + 1 + min (slice_index b at) m) ≡ take m (text_at b at)
cut_text b at m = grind (arith, common_steps, min, cases_lt, take-take, take_all, length-take)
