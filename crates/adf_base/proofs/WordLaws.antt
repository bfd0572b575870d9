-- Laws of words and blocks.
use Rattle.std.proofs.Common.{◌≡◌, ◌≢◌, ◌≤◌, ◌<◌, ℕ, ◌+◌, ◌-◌, ◌*◌, ◌^◌, ◌%◌, List, ◌++◌, [], ◌∷◌, length, take, drop, refl, sym, ap, ◌∙◌, arith, inl, inr}
use Rattle.std.proofs.Common.{length-append, length-drop, append_assoc, append-nil, zero, suc, add-one, get_or, sum, slice_range, reverse}
use Rattle.std.specs.List.{flat_map}
use Rattle.std.proofs.{lemmas.Grind.flat_map-append, lemmas.Grind.common_steps, lemmas.Bool.cases_lt, lemmas.List.reverse-append}
use Rattle.std.proofs.{lemmas.List.FromFn.sum_by-map-range_with_len_more, lemmas.Slice.between_is, Math.Seq.drop-append-add}
use Rattle.std.proofs.lemmas.List.{drop-drop, take_at, drop_at, take-append-le, length-take-le, take-take, take_more, take-append-drop, length-reverse}
use Rattle.byteorder.specs.{Endian.big_bytes, Numbers.length-bytes_high_first}
use borrow.Rule.Slice.PartMut.{put_mid}
use Rattle.adf_base.specs.Words.{word, words, long_sum, with_bytes, with_word, block, with_block, checksum, sealed}

-- no words
pub no_words : (bs : List ℕ) → words 0 bs ≡ []
unfolding words
no_words bs = refl

-- one word more
pub sum_words_more : (bs : List ℕ) (i : ℕ) → sum (words (i + 1) bs) ≡ sum (words i bs) + word bs i
unfolding words
sum_words_more bs i = sum_by-map-range_with_len_more (λ x. x) (word bs) 0 i i (omega arith)

-- what a write to a part of a slice leaves
pub put_mid_is : (a k : ℕ) (bs xs : List ℕ) → k ≡ length xs → put_mid a k bs xs ≡ with_bytes bs a xs
unfolding with_bytes
put_mid_is a k bs xs e = rw (e, drop-drop (length xs) a bs) refl

-- the length stays
pub length-with_bytes : (bs : List ℕ) (from : ℕ) (xs : List ℕ) → from + length xs ≤ length bs → length (with_bytes bs from xs) ≡ length bs
unfolding with_bytes
length-with_bytes bs from xs h = grind (arith, length-append, length-take-le, length-drop)

-- what a write leaves, as it is defined
with_bytes_is : (bs : List ℕ) (from : ℕ) (xs : List ℕ) → with_bytes bs from xs ≡ take from bs ++ (xs ++ drop (from + length xs) bs)
unfolding with_bytes
with_bytes_is bs from xs = refl

-- the bytes before a write
pub front-with_bytes : (bs : List ℕ) (from : ℕ) (xs : List ℕ) → from ≤ length bs → take from (with_bytes bs from xs) ≡ take from bs
unfolding with_bytes
front-with_bytes bs from xs h = take_at (take from bs) (xs ++ drop (from + length xs) bs) from (length-take-le from bs h)

-- the bytes written
pub range-with_bytes_same : (bs : List ℕ) (from : ℕ) (xs : List ℕ) (to : ℕ) → from ≤ length bs → to ≡ from + length xs
    → slice_range (with_bytes bs from xs) from to ≡ xs
unfolding with_bytes
range-with_bytes_same bs from xs to h e = grind (arith, common_steps, drop_at, length-take-le, take_at)

-- the bytes before
pub range-with_bytes_below : (bs : List ℕ) (from : ℕ) (xs : List ℕ) (a b : ℕ) → from ≤ length bs → b ≤ from
    → slice_range (with_bytes bs from xs) a b ≡ slice_range bs a b
unfolding with_bytes
range-with_bytes_below bs from xs a b h le = grind (arith, common_steps, take-append-le, length-take-le, take-take, between_is)

-- what lies past the bytes written
pub drop-with_bytes_above : (bs : List ℕ) (from : ℕ) (xs : List ℕ) (a : ℕ) → from ≤ length bs → from + length xs ≤ a
    → drop a (with_bytes bs from xs) ≡ drop a bs
unfolding with_bytes
drop-with_bytes_above bs from xs a h le =
    let front : List ℕ = take from bs ++ xs in
    let n : length front ≡ from + length xs = length-append (take from bs) xs ∙ ap (λ k. k + length xs) (length-take-le from bs h) in
    let m : ℕ = a - (from + length xs) in
    let at : a ≡ length front + m = omega arith in
    let at' : a ≡ (from + length xs) + m = omega arith in
    ap (drop a) (sym (append_assoc (take from bs) xs (drop (from + length xs) bs)))
    ∙ ap (λ k. drop k (front ++ drop (from + length xs) bs)) at
    ∙ drop-append-add front (drop (from + length xs) bs) m
    ∙ drop-drop m (from + length xs) bs
    ∙ ap (λ k. drop k bs) (sym at')

-- the bytes after
pub range-with_bytes_above : (bs : List ℕ) (from : ℕ) (xs : List ℕ) (a b : ℕ) → from ≤ length bs → from + length xs ≤ a
    → slice_range (with_bytes bs from xs) a b ≡ slice_range bs a b
unfolding with_bytes
range-with_bytes_above bs from xs a b h le = grind (arith, common_steps, drop-with_bytes_above)

-- the word written
pub word-with_word_same : (bs : List ℕ) (i v : ℕ) → 4 * i + 4 ≤ length bs → v < 2 ^ 32 → word (with_word bs i v) i ≡ v
unfolding word
word-with_word_same bs i v h small = grind (arith, common_steps, range-with_bytes_same, append-nil)

-- the other words
pub word-with_word_other : (bs : List ℕ) (i v j : ℕ) → 4 * i + 4 ≤ length bs → j ≢ i → word (with_word bs i v) j ≡ word bs j
unfolding word
word-with_word_other bs i v j h ne = grind (arith, common_steps, cases_lt, range-with_bytes_below, range-with_bytes_above)

-- the later of two writes to one place
pub with_bytes-with_bytes : (bs : List ℕ) (from : ℕ) (xs ys : List ℕ) → from + length xs ≤ length bs → length xs ≡ length ys
    → with_bytes (with_bytes bs from xs) from ys ≡ with_bytes bs from ys
with_bytes-with_bytes bs from xs ys h e = grind (arith, common_steps, drop-with_bytes_above, front-with_bytes, with_bytes_is)

-- the sum of the words before word i, after a write of it
sum-with_word_past : (bs : List ℕ) (i v n : ℕ) → 4 * i + 4 ≤ length bs → n ≤ i → sum (words n (with_word bs i v)) ≡ sum (words n bs)
sum-with_word_past bs i v zero h le = rw (no_words (with_word bs i v), no_words bs) refl
sum-with_word_past bs i v (suc n) h le =
    let ih = sum-with_word_past bs i v n h (omega arith) in
    let same = word-with_word_other bs i v n h (omega arith) in
    let more = sum_words_more (with_word bs i v) n in
    let more' = sum_words_more bs n in
    rw (← add-one n) (omega arith)

-- the sum after a write of word i
pub sum-with_word : (bs : List ℕ) (i v n : ℕ) → 4 * n ≤ length bs → v < 2 ^ 32 → i < n
    → sum (words n (with_word bs i v)) + word bs i ≡ sum (words n bs) + v
sum-with_word bs i v zero h small lt = absurd (omega arith)
sum-with_word bs i v (suc n) h small lt =
    let more = sum_words_more (with_word bs i v) n in
    let more' = sum_words_more bs n in
    rw (← add-one n) (elim (cases_lt i n) [
      | inl below ↦
          let ih = sum-with_word bs i v n (omega arith) small below in
          let same = word-with_word_other bs i v n (omega arith) (omega arith) in
          omega arith
      | inr at ↦
          let e : n ≡ i = omega arith in
          let before = sum-with_word_past bs i v n (omega arith) (omega arith) in
          let wrote = word-with_word_same bs i v (omega arith) small in
          let here = ap (word (with_word bs i v)) e in
          let there = ap (word bs) e in
          omega arith
    ])

-- a sealed block
pub long_sum-sealed : (i : ℕ) (bs : List ℕ) → i < 128 → length bs ≡ 512 → long_sum (sealed i bs) ≡ 0
long_sum-sealed i bs lt len =
    let zeroed = sum-with_word bs i 0 128 (omega arith) (omega arith) lt in
    let done = sum-with_word bs i (checksum i bs) 128 (omega arith) (omega arith) lt in
    omega arith

-- the block written
pub block_written : (image : List ℕ) (b : ℕ) (bs : List ℕ) → b * 512 + 512 ≤ length image → length bs ≡ 512 → block (with_block image b bs) b ≡ bs
unfolding block
block_written image b bs h len = range-with_bytes_same image (b * 512) bs (b * 512 + 512) (omega arith) (omega arith)

-- the other blocks
pub block_other : (image : List ℕ) (b c : ℕ) (bs : List ℕ) → b * 512 + 512 ≤ length image → length bs ≡ 512 → c ≢ b
    → block (with_block image b bs) c ≡ block image c
unfolding block
block_other image b c bs h len ne = grind (arith, common_steps, cases_lt, range-with_bytes_below, range-with_bytes_above)

pub length-block : (image : List ℕ) (b : ℕ) → b * 512 + 512 ≤ length image → length (block image b) ≡ 512
unfolding block
length-block image b h = grind (arith, length-take-le, length-drop)

pub length-big_bytes : (n v : ℕ) → length (big_bytes n v) ≡ n
length-big_bytes n v = length-bytes_high_first n v

-- how a block is sealed: its word is zeroed, and then takes what the sum lacks
pub seal_is : (bs : List ℕ) (i s n : ℕ) → 4 * i + 4 ≤ length bs → s ≡ long_sum (with_word bs i 0) → n < 2 ^ 32 → (n + s) % 2 ^ 32 ≡ 0
    → with_word (with_word bs i 0) i n ≡ sealed i bs
seal_is bs i s n h e small zero_sum = grind (arith, common_steps, length-big_bytes, with_bytes-with_bytes)

-- a sealed block keeps its length
pub length-with_word : (bs : List ℕ) (i v : ℕ) → 4 * i + 4 ≤ length bs → length (with_word bs i v) ≡ length bs
length-with_word bs i v h = length-with_bytes bs (4 * i) (big_bytes 4 v) (omega (arith, length-big_bytes 4 v))

-- the sum of a block that was sealed in an image
pub sealed_block : (image : List ℕ) (b i : ℕ) → b * 512 + 512 ≤ length image → i < 128
    → long_sum (block (with_block image b (sealed i (block image b))) b) ≡ 0
sealed_block image b i h lt = grind (arith, common_steps, length-block, block_written, length-with_word, long_sum-sealed)

-- nothing written
pub no_bytes_put : (bs : List ℕ) (from : ℕ) → with_bytes bs from [] ≡ bs
unfolding with_bytes
no_bytes_put bs from = ap (λ n. take from bs ++ drop n bs) (omega arith) ∙ take-append-drop from bs

-- two writes side by side are one
pub side_by_side : (bs : List ℕ) (from at : ℕ) (xs ys : List ℕ) → from + length xs + length ys ≤ length bs → at ≡ from + length xs
    → with_bytes (with_bytes bs from xs) at ys ≡ with_bytes bs from (xs ++ ys)
side_by_side bs from at xs ys h e =
    let front : take at (with_bytes bs from xs) ≡ take from bs ++ xs =
    ap (take at) (with_bytes_is bs from xs ∙ sym (append_assoc (take from bs) xs (drop (from + length xs) bs)))
    ∙ take_at (take from bs ++ xs) (drop (from + length xs) bs) at (length-append (take from bs) xs
    ∙ ap (λ k. k + length xs) (length-take-le from bs (omega arith)) ∙ sym e) in
    let past : drop (at + length ys) (with_bytes bs from xs) ≡ drop (from + length (xs ++ ys)) bs =
    drop-with_bytes_above bs from xs (at + length ys) (omega arith) (omega arith)
    ∙ ap (λ k. drop k bs) (omega (arith, length-append xs ys)) in
    with_bytes_is (with_bytes bs from xs) at ys
    ∙ ap (λ p. p ++ (ys ++ drop (at + length ys) (with_bytes bs from xs))) front
    ∙ ap (λ q. (take from bs ++ xs) ++ (ys ++ q)) past
    ∙ append_assoc (take from bs) xs (ys ++ drop (from + length (xs ++ ys)) bs)
    ∙ ap (λ q. take from bs ++ q) (sym (append_assoc xs ys (drop (from + length (xs ++ ys)) bs)))
    ∙ sym (with_bytes_is bs from (xs ++ ys))

-- four bytes for each word
pub length_longs : (ws : List ℕ) → length (flat_map (big_bytes 4) ws) ≡ 4 * length ws
length_longs [] = refl
length_longs (w ∷ ws) =
    omega (arith, length-append (big_bytes 4 w) (flat_map (big_bytes 4) ws), length_longs ws, length-big_bytes 4 w)

-- one word more is written
pub words_put : (bs : List ℕ) (i at : ℕ) (ws : List ℕ) (k w : ℕ) → 4 * (i + length ws) ≤ length bs → k < length ws → w ≡ get_or ws k 0 → at ≡ i + k
    → with_word (with_bytes bs (4 * i) (flat_map (big_bytes 4) (take k ws))) at w ≡ with_bytes bs (4 * i) (flat_map (big_bytes 4) (take (k + 1) ws))
words_put bs i at ws k w room lt e place =
    grind (arith, common_steps, length_longs, length-take-le, take_more, flat_map-append, append-nil, side_by_side, length-big_bytes)

-- a write just before another
pub just_before : (bs : List ℕ) (from at : ℕ) (xs ys : List ℕ) → from + length xs ≤ length bs → at + length ys ≡ from
    → with_bytes (with_bytes bs from xs) at ys ≡ with_bytes bs at (ys ++ xs)
just_before bs from at xs ys h e =
    grind (arith, common_steps, take-take, front-with_bytes, with_bytes_is, drop_at, length-take-le, length-append, append_assoc)

-- one word more is written downwards
pub words_put_down : (bs : List ℕ) (i at : ℕ) (ws : List ℕ) (k w : ℕ) → 4 * i + 4 ≤ length bs → length ws ≤ i + 1 → k < length ws → w ≡ get_or ws k 0
    → at + k ≡ i
    → with_word (with_bytes bs (4 * (i + 1 - k)) (flat_map (big_bytes 4) (reverse (take k ws)))) at w
    ≡ with_bytes bs (4 * (i + 1 - (k + 1))) (flat_map (big_bytes 4) (reverse (take (k + 1) ws)))
words_put_down bs i at ws k w room short lt e place =
    grind (arith, common_steps, length_longs, length-reverse, length-take-le, take_more, reverse-append, just_before, length-big_bytes)
