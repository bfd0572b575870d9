-- Lists of bytes: what is cut out of them, what is written into them, and the words in them.
-- Letters: bs, xs lists of bytes; v a number; i the number of a word; b that of a block.
use Rattle.std.proofs.Common.{◌<◌, ◌^◌, ◌*◌, ◌+◌, ◌++◌, ℕ, zero, suc, List, [], ◌∷◌, inl, inr, length, take, drop, slice_index, slice_range, arith}
use Rattle.std.specs.{List.All, List.flat_map, Int.byte_at, Int.bytes_high_first}
use Rattle.std.proofs.lemmas.Bool.{cases_lt}
use Rattle.std.proofs.lemmas.List.{get_or_past, Elements.All-append, Elements.All-cons, Elements.All-drop, Elements.All-nil, Elements.All-take}
use Rattle.byteorder.specs.Endian.{big_bytes}
use Rattle.adf_base.specs.Words.{block, checksum, sealed, with_block, with_bytes, with_word, word}

abbrev pub IsByte : ℕ → Type 0
IsByte b = b < 256

-- all numbers of the list are bytes
abbrev pub AreBytes : List ℕ → Type 0
AreBytes bs = All IsByte bs

-- a number at an index, 0 past the last
pub byte_small : (bs : List ℕ) (k : ℕ) → AreBytes bs → slice_index bs k < 256
byte_small bs k are = elim (cases_lt k (length bs)) [
  | inl inside ↦ are k 0 inside
  | inr past ↦ let none = get_or_past bs k 0 past in omega (arith, none)
]

pub range_bytes : (bs : List ℕ) (from to : ℕ) → AreBytes bs → AreBytes (slice_range bs from to)
range_bytes bs from to are = All-take IsByte _ (drop from bs) (All-drop IsByte from bs are)

pub block_bytes : (image : List ℕ) (b : ℕ) → AreBytes image → AreBytes (block image b)
unfolding block
block_bytes image b are = range_bytes image (b * 512) (b * 512 + 512) are

-- a word fits in 32 bits
pub word_small : (bs : List ℕ) (i : ℕ) → AreBytes bs → word bs i < 2 ^ 32
unfolding word
word_small bs i are =
    let part : List ℕ = slice_range bs (4 * i) (4 * i + 4) in
    let small = range_bytes bs (4 * i) (4 * i + 4) are in
    omega (arith, byte_small part 0 small, byte_small part 1 small, byte_small part 2 small, byte_small part 3 small)

-- the bytes of a number

byte_below : (i v : ℕ) → byte_at i v < 256
byte_below zero v = omega arith
byte_below (suc i) v = omega arith

pub number_bytes : (n v : ℕ) → AreBytes (big_bytes n v)
number_bytes zero v = All-nil IsByte
number_bytes (suc n) v = All-cons IsByte (byte_at n v) (bytes_high_first n v) (byte_below n v) (number_bytes n v)

pub numbers_bytes : (n : ℕ) (vs : List ℕ) → AreBytes (flat_map (big_bytes n) vs)
numbers_bytes n [] = All-nil IsByte
numbers_bytes n (v ∷ vs) = All-append IsByte (big_bytes n v) (flat_map (big_bytes n) vs) (number_bytes n v) (numbers_bytes n vs)

pub written_bytes : (bs : List ℕ) (from : ℕ) (xs : List ℕ) → AreBytes bs → AreBytes xs → AreBytes (with_bytes bs from xs)
unfolding with_bytes
written_bytes bs from xs are new =
    All-append IsByte (take from bs) (xs ++ drop (from + length xs) bs) (All-take IsByte from bs are)
    (All-append IsByte xs (drop (from + length xs) bs) new (All-drop IsByte (from + length xs) bs are))

pub word_written : (bs : List ℕ) (i v : ℕ) → AreBytes bs → AreBytes (with_word bs i v)
word_written bs i v are = written_bytes bs (4 * i) (big_bytes 4 v) are (number_bytes 4 v)

pub block_written_bytes : (image : List ℕ) (b : ℕ) (bs : List ℕ) → AreBytes image → AreBytes bs → AreBytes (with_block image b bs)
block_written_bytes image b bs are new = written_bytes image (b * 512) bs are new

pub sealed_bytes : (i : ℕ) (bs : List ℕ) → AreBytes bs → AreBytes (sealed i bs)
sealed_bytes i bs are = word_written bs i (checksum i bs) are
