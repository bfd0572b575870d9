-- Boot blocks that are put back: what stays of them, and that they stay bootable.
-- Letters: image an image, boot one with other boot blocks; a, b, k bytes; i a word.
use Rattle.std.proofs.Common.{◌≡◌, ◌∙◌, ℕ, zero, suc, true, false, List, [], ◌∷◌, ◌++◌, ◌+◌, ◌-◌, ◌*◌, ◌<◌, ◌≤◌, length, take, drop, slice_index, slice_range}
use Rattle.std.proofs.Common.{ap, ap₂, refl, sym, subst, inl, inr, arith, add-one, length-drop, length-take, Bool}
use Rattle.std.specs.Prelude.{◌==◌, ◌&&◌, not}
use Rattle.std.proofs.lemmas.Bool.{and_parts, and_cases, cases_Bool, cases_eq, eqb-true, leb-true, not-false}
use Rattle.std.proofs.{lemmas.Grind.common_steps, lemmas.List.get_or-take, lemmas.List.length-take-le}
use Rattle.byteorder.specs.Endian.{big_bytes, big_number}
use Rattle.adf_base.specs.{Words.block, Words.with_word, Words.word, Words.words, declared.hash.Letters.Letters}
use Rattle.adf_base.proofs.WordLaws.{length-big_bytes, no_words, range-with_bytes_above, range-with_bytes_below, range-with_bytes_same}
use Rattle.adf_blocks.proofs.FieldLaws.{sub_range}
use Rattle.adf_boot_blocks.specs.BootBlocks.{IsOtherBoot, begins_with_dos, carry_sum, has_right_sum, is_bootable, with_sum}
use Rattle.adf_boot_blocks.specs.Writing.{HasBootOf, copied, is_of_other_type, restored, with_boot}
use Rattle.adf_boot_blocks.specs.declared.boot.TheConstants.{BOOT_LEN, BOOT_WORDS, CHECKSUM, RIGHT_SUM}
use Rattle.adf_tree.specs.Tree.{Tree}
use Rattle.adf_blocks.specs.Sizes.{blocks}
use Rattle.adf_volume.specs.{Fits.FitsBy, Layout.Layout}
use Rattle.adf_boot_blocks.proofs.OtherBoots.{other_fits_by}
use Rattle.adf_boot_blocks.proofs.CarrySums.{AreBytes, AreWords, sum_is_right, word_of_bytes, word_small, words_more}
use Rattle.adf_boot_blocks.proofs.Writes.{begun_byte, bootable, other_bytes, other_next, other_sum, same_boot}

-- the boot blocks of another, behind the type
length_boot : (boot : List ℕ) → BOOT_LEN ≤ length boot → length (slice_range boot 4 BOOT_LEN) ≡ BOOT_LEN - 4
length_boot boot long = length-take-le (BOOT_LEN - 4) (drop 4 boot) (omega (arith, long, length-drop 4 boot))

pub bytes_put : (image boot : List ℕ) → BOOT_LEN ≤ length image → BOOT_LEN ≤ length boot
    → slice_range (with_boot image boot) 4 BOOT_LEN ≡ slice_range boot 4 BOOT_LEN
bytes_put image boot long whole =
    range-with_bytes_same image 4 (slice_range boot 4 BOOT_LEN) BOOT_LEN (omega (arith, long)) (omega (arith, length_boot boot whole))

-- a part of them
part_put : (image boot : List ℕ) (a b : ℕ) → BOOT_LEN ≤ length image → BOOT_LEN ≤ length boot → 4 ≤ a → a ≤ b → b ≤ BOOT_LEN
    → slice_range (with_boot image boot) a b ≡ slice_range boot a b
part_put image boot a b long whole low up high =
    let part : (xs : List ℕ) → slice_range (slice_range xs 4 BOOT_LEN) (a - 4) (b - 4) ≡ slice_range xs a b =
    λ xs. sub_range xs 4 BOOT_LEN (a - 4) (b - 4) (omega (arith, up)) (omega (arith, high))
    ∙ ap₂ (slice_range xs) (omega (arith, low)) (omega (arith, low, up)) in
    sym (part (with_boot image boot)) ∙ ap (λ (xs : List ℕ). slice_range xs (a - 4) (b - 4)) (bytes_put image boot long whole) ∙ part boot

pub other_put : (image boot : List ℕ) → BOOT_LEN ≤ length image → BOOT_LEN ≤ length boot → IsOtherBoot image (with_boot image boot)
other_put image boot long whole =
    other_bytes image image 4 (slice_range boot 4 BOOT_LEN) (same_boot image) long (omega arith) (omega (arith, length_boot boot whole))

-- the first word is that of the image
first_word : (image boot : List ℕ) → BOOT_LEN ≤ length image → word (with_boot image boot) 0 ≡ word image 0
unfolding word
first_word image boot long =
    ap (big_number 4) (range-with_bytes_below image 4 (slice_range boot 4 BOOT_LEN) 0 4 (omega (arith, long)) (omega arith))

-- and all others are those of the other
next_word : (image boot : List ℕ) (i : ℕ) → BOOT_LEN ≤ length image → BOOT_LEN ≤ length boot → 1 ≤ i → i < BOOT_WORDS
    → word (with_boot image boot) i ≡ word boot i
unfolding word
next_word image boot i long whole low high =
    ap (big_number 4) (part_put image boot (4 * i) (4 * i + 4) long whole (omega (arith, low)) (omega arith) (omega (arith, high)))

-- words that are the same one by one
same_words : (xs ys : List ℕ) (n : ℕ) → ((i : ℕ) → i < n → word xs i ≡ word ys i) → words n xs ≡ words n ys
same_words xs ys zero same = no_words xs ∙ sym (no_words ys)
same_words xs ys (suc n) same =
    subst (λ (m : ℕ). words m xs ≡ words m ys) (add-one n)
    (words_more xs n ∙ ap₂ (λ (ws : List ℕ) (w : ℕ). ws ++ w ∷ []) (same_words xs ys n (λ i lt. same i (omega (arith, lt)))) (same n (omega arith))
    ∙ sym (words_more ys n))

-- the first four bytes
four : (xs : List ℕ) → 4 ≤ length xs → take 4 xs ≡ slice_index xs 0 ∷ slice_index xs 1 ∷ slice_index xs 2 ∷ slice_index xs 3 ∷ []
four [] long = absurd (omega (arith, long))
four (a ∷ []) long = absurd (omega (arith, long))
four (a ∷ b ∷ []) long = absurd (omega (arith, long))
four (a ∷ b ∷ c ∷ []) long = absurd (omega (arith, long))
four (a ∷ b ∷ c ∷ d ∷ xs) long = refl

dos_bytes : (xs : List ℕ) → begins_with_dos xs ≡ true → (slice_index xs 0 ≡ 0x44) × (slice_index xs 1 ≡ 0x4F) × (slice_index xs 2 ≡ 0x53)
dos_bytes xs dos =
    let a : slice_index xs 0 ≡ 0x44 = grind (arith, common_steps, and_parts, eqb-true) in
    let b : slice_index xs 1 ≡ 0x4F = grind (arith, common_steps, and_parts, eqb-true) in
    let c : slice_index xs 2 ≡ 0x53 = grind (arith, common_steps, and_parts, eqb-true) in
    (a, b, c)

same_front : (xs ys : List ℕ) → 4 ≤ length xs → 4 ≤ length ys → begins_with_dos xs ≡ true → begins_with_dos ys ≡ true
    → slice_index xs 3 ≡ slice_index ys 3 → take 4 xs ≡ take 4 ys
same_front xs ys long whole dos begins type =
    let x = dos_bytes xs dos in
    let y = dos_bytes ys begins in
    let a : slice_index xs 0 ≡ slice_index ys 0 = x.0 ∙ sym y.0 in
    let b : slice_index xs 1 ≡ slice_index ys 1 = x.1 ∙ sym y.1 in
    let c : slice_index xs 2 ≡ slice_index ys 2 = x.2 ∙ sym y.2 in
    four xs long ∙ (λ i. a i ∷ b i ∷ c i ∷ type i ∷ []) ∙ sym (four ys whole)

word_of_front : (xs ys : List ℕ) → take 4 xs ≡ take 4 ys → word xs 0 ≡ word ys 0
unfolding word
word_of_front xs ys same = ap (big_number 4) same

-- boot blocks of one type with the image have the sum that they had
same_sum : (image boot : List ℕ) → BOOT_LEN ≤ length image → BOOT_LEN ≤ length boot → take 4 image ≡ take 4 boot
    → has_right_sum (with_boot image boot) ≡ has_right_sum boot
same_sum image boot long whole same =
    let each : (i : ℕ) → i < BOOT_WORDS → word (with_boot image boot) i ≡ word boot i =
    λ i lt. elim (cases_eq i 0) [
      | inl none ↦ subst (λ (k : ℕ). word (with_boot image boot) k ≡ word boot k) (sym none)
          (first_word image boot long ∙ word_of_front image boot same)
      | inr some ↦ next_word image boot i long whole (omega (arith, some)) lt
    ] in
    ap (λ ws. carry_sum ws == RIGHT_SUM) (same_words (with_boot image boot) boot BOOT_WORDS each)

same_type : (image boot : List ℕ) → is_of_other_type image boot ≡ false → has_right_sum boot ≡ true → slice_index image 3 ≡ slice_index boot 3
same_type image boot kept right = elim (and_cases (has_right_sum boot) (not (slice_index boot 3 == slice_index image 3)) kept) [
  | inl wrong ↦ let clash : true ≡ false = sym right ∙ wrong in cc
  | inr is ↦ sym (eqb-true (slice_index boot 3) (slice_index image 3) (not-false (slice_index boot 3 == slice_index image 3) is))
]

-- boot blocks that are put back as they stand
pub stays_bootable : (image boot : List ℕ) → BOOT_LEN ≤ length image → BOOT_LEN ≤ length boot → begins_with_dos image ≡ true
    → is_of_other_type image boot ≡ false → is_bootable boot ≡ true → is_bootable (with_boot image boot) ≡ true
stays_bootable image boot long whole dos kept boots =
    let (begins, right) = and_parts (begins_with_dos boot) (has_right_sum boot) boots in
    let front = same_front image boot (omega (arith, long)) (omega (arith, whole)) dos begins (same_type image boot kept right) in
    bootable image (with_boot image boot) (other_put image boot long whole) (same_sum image boot long whole front ∙ right) dos

-- the boot blocks that are put back, by their type
restored_none : (image boot : List ℕ) → begins_with_dos boot ≡ false → restored image boot ≡ image
unfolding restored
restored_none image boot begins = grind (arith, common_steps, begins)

restored_same : (image boot : List ℕ) → begins_with_dos boot ≡ true → is_of_other_type image boot ≡ false
    → restored image boot ≡ with_boot image boot
unfolding restored
restored_same image boot begins kept = grind (arith, common_steps, begins, kept)

restored_anew : (image boot : List ℕ) → begins_with_dos boot ≡ true → is_of_other_type image boot ≡ true
    → restored image boot ≡ copied image boot
unfolding restored
restored_anew image boot begins other = grind (arith, common_steps, begins, other)

-- what is no part of a tree
pub other_restored : (image boot : List ℕ) → BOOT_LEN ≤ length image → BOOT_LEN ≤ length boot → IsOtherBoot image (restored image boot)
other_restored image boot long whole = elim (cases_Bool (begins_with_dos boot)) [
  | inr none ↦ subst (IsOtherBoot image) (sym (restored_none image boot none)) (same_boot image)
  | inl begins ↦ elim (cases_Bool (is_of_other_type image boot)) [
    | inr kept ↦ subst (IsOtherBoot image) (sym (restored_same image boot begins kept)) (other_put image boot long whole)
    | inl other ↦
        let o = other_put image boot long whole in
        subst (IsOtherBoot image) (sym (restored_anew image boot begins other))
        (other_next image (with_boot image boot) (copied image boot) o (other_sum (with_boot image boot) (omega (arith, long, o.long))))
  ]
]

-- behind a checksum that is set
behind_sum : (image : List ℕ) → BOOT_LEN ≤ length image → slice_range (with_sum image) 8 BOOT_LEN ≡ slice_range image 8 BOOT_LEN
behind_sum image long =
    let v : ℕ = RIGHT_SUM - carry_sum (words BOOT_WORDS (with_word image CHECKSUM 0)) in
    range-with_bytes_above image 4 (big_bytes 4 v) 8 BOOT_LEN (omega (arith, long)) (omega (arith, length-big_bytes 4 v))

-- words of an image that begins with `DOS` and of other boot blocks
put_words : (image boot : List ℕ) → BOOT_LEN ≤ length image → BOOT_LEN ≤ length boot → begins_with_dos image ≡ true
    → slice_index image 3 < 256 → AreBytes boot → AreWords (with_boot image boot)
put_words image boot long whole dos type bytes i lt ne =
    let x = dos_bytes image dos in
    let first : word image 0 ≤ RIGHT_SUM = word_of_bytes image 0 (λ k few. grind (arith, common_steps, x.0, x.1, x.2, type)) in
    elim (cases_eq i 0) [
      | inl none ↦ subst (λ (k : ℕ). word (with_boot image boot) k ≤ RIGHT_SUM) (sym none) (omega (arith, first, first_word image boot long))
      | inr some ↦ omega (arith, next_word image boot i long whole (omega (arith, some)) lt, word_small boot i bytes (omega (arith, lt, whole)))
    ]

-- what is bootable stays so
bootable_restored : (image boot : List ℕ) → BOOT_LEN ≤ length image → BOOT_LEN ≤ length boot → begins_with_dos image ≡ true
    → slice_index image 3 < 256 → AreBytes boot → is_bootable boot ≡ true → is_bootable (restored image boot) ≡ true
bootable_restored image boot long whole dos type bytes boots =
    let (begins, right) = and_parts (begins_with_dos boot) (has_right_sum boot) boots in
    elim (cases_Bool (is_of_other_type image boot)) [
      | inr kept ↦ subst (λ (bs : List ℕ). is_bootable bs ≡ true) (sym (restored_same image boot begins kept))
          (stays_bootable image boot long whole dos kept boots)
      | inl other ↦
          let put = other_put image boot long whole in
          let sound = sum_is_right (with_boot image boot) (put_words image boot long whole dos type bytes) (omega (arith, long, put.long)) in
          subst (λ (bs : List ℕ). is_bootable bs ≡ true) (sym (restored_anew image boot begins other))
          (bootable image (copied image boot)
          (other_next image (with_boot image boot) (copied image boot) put (other_sum (with_boot image boot) (omega (arith, long, put.long))))
          sound dos)
    ]

-- the type stays
type_restored : (image boot : List ℕ) → BOOT_LEN ≤ length image → BOOT_LEN ≤ length boot
    → is_of_other_type (restored image boot) boot ≡ is_of_other_type image boot
type_restored image boot long whole =
    let o = other_restored image boot long whole in
    let same : slice_index (restored image boot) 3 ≡ slice_index image 3 = begun_byte image (restored image boot) o 3 (omega arith) in
    ap (λ (t : ℕ). has_right_sum boot && not (slice_index boot 3 == t)) same

pub has_boot : (image boot : List ℕ) → BOOT_LEN ≤ length image → BOOT_LEN ≤ length boot → begins_with_dos image ≡ true
    → slice_index image 3 < 256 → AreBytes boot → begins_with_dos boot ≡ true → HasBootOf boot (restored image boot)
has_boot image boot long whole dos type bytes begins = record {
  code = elim (cases_Bool (is_of_other_type image boot)) [
    | inr kept ↦ ap (λ (bs : List ℕ). slice_range bs 8 BOOT_LEN) (restored_same image boot begins kept)
        ∙ part_put image boot 8 BOOT_LEN long whole (omega arith) (omega arith) (omega arith)
    | inl other ↦ ap (λ (bs : List ℕ). slice_range bs 8 BOOT_LEN) (restored_anew image boot begins other)
        ∙ behind_sum (with_boot image boot) (omega (arith, long, (other_put image boot long whole).long))
        ∙ part_put image boot 8 BOOT_LEN long whole (omega arith) (omega arith) (omega arith)
  ];
  sum = λ kept. ap (λ (bs : List ℕ). slice_range bs 4 8)
      (restored_same image boot begins (sym (type_restored image boot long whole) ∙ kept))
      ∙ part_put image boot 4 8 long whole (omega arith) (omega arith) (omega arith);
  bootable = bootable_restored image boot long whole dos type bytes;
}

-- what is said of boot blocks is said of the first bytes

front_part : (boot : List ℕ) (a b : ℕ) → a ≤ b → b ≤ BOOT_LEN → slice_range (take BOOT_LEN boot) a b ≡ slice_range boot a b
front_part boot a b up high = sub_range boot 0 BOOT_LEN a b up (omega (arith, high)) ∙ ap₂ (slice_range boot) (omega arith) (omega arith)

front_word : (boot : List ℕ) (i : ℕ) → i < BOOT_WORDS → word (take BOOT_LEN boot) i ≡ word boot i
unfolding word
front_word boot i lt = ap (big_number 4) (front_part boot (4 * i) (4 * i + 4) (omega arith) (omega (arith, lt)))

front_words : (boot : List ℕ) → words BOOT_WORDS (take BOOT_LEN boot) ≡ words BOOT_WORDS boot
front_words boot = same_words (take BOOT_LEN boot) boot BOOT_WORDS (front_word boot)

front_byte : (boot : List ℕ) (i : ℕ) → i < BOOT_LEN → slice_index (take BOOT_LEN boot) i ≡ slice_index boot i
front_byte boot i lt = get_or-take BOOT_LEN boot i 0 lt

pub front_begins : (boot : List ℕ) → begins_with_dos (take BOOT_LEN boot) ≡ begins_with_dos boot
front_begins boot =
    rw (front_byte boot 0 (omega arith), front_byte boot 1 (omega arith), front_byte boot 2 (omega arith)) refl

front_sum : (boot : List ℕ) → has_right_sum (take BOOT_LEN boot) ≡ has_right_sum boot
front_sum boot = ap (λ ws. carry_sum ws == RIGHT_SUM) (front_words boot)

pub has_front : (boot image : List ℕ) → HasBootOf (take BOOT_LEN boot) image → HasBootOf boot image
has_front boot image has = record {
  code = has.code ∙ front_part boot 8 BOOT_LEN (omega arith) (omega arith);
  sum = λ kept. has.sum (ap₂ (λ (right : Bool) (t : ℕ). right && not (t == slice_index image 3)) (front_sum boot)
      (front_byte boot 3 (omega arith)) ∙ kept)
      ∙ front_part boot 4 8 (omega arith) (omega arith);
  bootable = λ boots. has.bootable (ap₂ (λ (dos right : Bool). dos && right) (front_begins boot) (front_sum boot) ∙ boots);
}

-- volumes

pub front_are_bytes : (boot : List ℕ) → AreBytes boot → AreBytes (take BOOT_LEN boot)
front_are_bytes boot bytes k lt =
    let few : k < BOOT_LEN = omega (arith, lt, length-take BOOT_LEN boot) in
    let long : k < length boot = omega (arith, lt, length-take BOOT_LEN boot) in
    omega (arith, front_byte boot k few, bytes k long)

first_byte : (image : List ℕ) (i : ℕ) → i < 4 → slice_index (block image 0) i ≡ slice_index image i
unfolding block
first_byte image i lt = get_or-take 512 image i 0 (omega (arith, lt))

-- a volume begins with `DOS` and a type
begun_dos : {letters : Letters} (image : List ℕ) (t : Tree) (l : Layout) → FitsBy letters image t l → begins_with_dos image ≡ true
begun_dos image t l fits =
    let dos = fits.boots.1.0 in
    let a : slice_index image 0 ≡ 0x44 = grind (arith, common_steps, and_parts, eqb-true, first_byte) in
    let b : slice_index image 1 ≡ 0x4F = grind (arith, common_steps, and_parts, eqb-true, first_byte) in
    let c : slice_index image 2 ≡ 0x53 = grind (arith, common_steps, and_parts, eqb-true, first_byte) in
    rw (a, b, c) refl

begun_type : {letters : Letters} (image : List ℕ) (t : Tree) (l : Layout) → FitsBy letters image t l → slice_index image 3 < 256
begun_type image t l fits =
    let dos = fits.boots.1.0 in
    let type : slice_index image 3 ≤ 5 = grind (arith, common_steps, and_parts, leb-true, first_byte) in
    omega (arith, type)

pub volume_long : {letters : Letters} (image : List ℕ) (t : Tree) (l : Layout) → FitsBy letters image t l → BOOT_LEN ≤ length image
volume_long image t l fits =
    let size = fits.boots.0 in
    let most : 4 ≤ blocks image = grind (arith, common_steps, and_parts, leb-true, size.1) in
    omega (arith, size.0, most)

-- a volume with boot blocks that are put back has them, and is one of the same tree
pub volume_has_boot : {letters : Letters} (volume boot : List ℕ) (t : Tree) (l : Layout) → FitsBy letters volume t l → BOOT_LEN ≤ length boot → AreBytes boot
    → begins_with_dos boot ≡ true → HasBootOf boot (restored volume boot)
volume_has_boot volume boot t l fits whole bytes begins =
    has_boot volume boot (volume_long volume t l fits) whole (begun_dos volume t l fits) (begun_type volume t l fits) bytes begins

pub restored_fits : {letters : Letters} (volume boot : List ℕ) (t : Tree) (l : Layout) → FitsBy letters volume t l → BOOT_LEN ≤ length boot
    → FitsBy letters (restored volume boot) t l
restored_fits volume boot t l fits whole =
    other_fits_by volume (restored volume boot) (other_restored volume boot (volume_long volume t l fits) whole) t l fits
