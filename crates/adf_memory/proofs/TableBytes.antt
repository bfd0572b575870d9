-- What the blocks of a table hold, whatever the table is.
use Rattle.std.specs.Prelude.{◌≡◌, ◌+◌, ◌-◌, ◌*◌, ◌/◌, ◌%◌, ◌≤◌, ◌<◌, ℕ, List, [], ◌∷◌, ◌++◌, min, get_or, length, take, drop}
use Rattle.std.proofs.Common.{zero, suc, refl, sym, ap, ◌∙◌, arith, inl, inr, length-append, length-drop, length-take}
use Rattle.std.proofs.Math.Seq.{drop-append-add, drop-cons, drop-nil, take-add, take-append_seam}
use Rattle.std.proofs.{lemmas.Bool.cases_lt, lemmas.Bool.cond_above, lemmas.Bool.cond_below, lemmas.Grind.common_steps}
use Rattle.std.proofs.lemmas.List.{drop-append-le, drop-drop, take-take}
use Rattle.adf_base.specs.Words.{block}
use Rattle.adf_names.specs.declared.kind.Kind.{Kind, TheVariants.Ofs, TheVariants.Ffs}
use Rattle.adf_blocks.specs.Sizes.{blocks, chunk}
use Rattle.adf_volume.specs.Image.{area, joined, kind_of}
use Rattle.adf_memory.specs.Areas.{bytes_from, front_blocks}
use Rattle.adf_memory.proofs.Filled.{drop_zero}

-- a data area is as long as the kind has it
pub area_long : (image : List ℕ) (kind : Kind) (b : ℕ) → b * 512 + 512 ≤ length image → length (area kind (block image b)) ≡ chunk kind
unfolding area chunk block
area_long image Ofs b le = simp (length-take, length-drop) (omega arith)
area_long image Ffs b le = simp (length-take, length-drop) (omega arith)

-- a block of the image, at the front of a table
pub front_more : (image : List ℕ) (b : ℕ) (bs : List ℕ) → b < blocks image → front_blocks image (b ∷ bs) ≡ b ∷ front_blocks image bs
front_more image b bs lt = sym (cond_below b (blocks image) (b ∷ front_blocks image bs) [] lt)

-- and one that the image does not have
pub front_none : (image : List ℕ) (b : ℕ) (bs : List ℕ) → blocks image ≤ b → front_blocks image (b ∷ bs) ≡ []
front_none image b bs le = sym (cond_above b (blocks image) (b ∷ front_blocks image bs) [] [] le refl)

-- a data area holds something
no_chunk : (kind : Kind) (j : ℕ) → chunk kind * suc j ≤ 0 → ⊥
unfolding chunk
no_chunk Ofs j le = absurd (omega arith)
no_chunk Ffs j le = absurd (omega arith)

-- so many data areas further
pub further : (image : List ℕ) (kind : Kind) (j s : ℕ) (table : List ℕ) → chunk kind * j ≤ length (joined image kind (front_blocks image table))
    → drop (chunk kind * j + s) (joined image kind (front_blocks image table)) ≡ drop s (joined image kind (front_blocks image (drop j table)))
further image kind zero s table le = grind (arith, common_steps, drop_zero)
further image kind (suc j) s [] le = drop-nil (chunk kind * suc j + s) ∙ sym (drop-nil s)
further image kind (suc j) s (b ∷ bs) le = elim (cases_lt b (blocks image)) [
  | inl lt ↦
      let front = front_more image b bs lt in
      let rest : List ℕ = joined image kind (front_blocks image bs) in
      let long : length (area kind (block image b)) ≡ chunk kind = area_long image kind b (omega arith) in
      let more : chunk kind * suc j ≤ chunk kind + length rest =
      omega (arith, ap (λ bs. length (joined image kind bs)) front, length-append (area kind (block image b)) rest, long) in
      let here : chunk kind * suc j + s ≡ length (area kind (block image b)) + (chunk kind * j + s) = omega arith in
      ap (λ bs. drop (chunk kind * suc j + s) (joined image kind bs)) front
      ∙ ap (λ n. drop n (area kind (block image b) ++ rest)) here
      ∙ drop-append-add (area kind (block image b)) rest (chunk kind * j + s)
      ∙ further image kind j s bs (omega arith)
  | inr ge ↦
      let none : joined image kind (front_blocks image (b ∷ bs)) ≡ [] = ap (joined image kind) (front_none image b bs ge) in
      let size : chunk kind * suc j ≤ 0 = omega (arith, ap length none) in
      absurd (no_chunk kind j size)
]

-- a place in a table of blocks: in which of them it lies, and where there
pub place_of : (kind : Kind) (at : ℕ) → (chunk kind * (at / chunk kind) + at % chunk kind ≡ at) × (at % chunk kind < chunk kind)
unfolding chunk
place_of Ofs at = (omega arith, omega arith)
place_of Ffs at = (omega arith, omega arith)

-- a place so many bytes behind another
place_behind : (kind : Kind) (at put : ℕ)
    → ((at + put) / chunk kind ≡ at / chunk kind + (at % chunk kind + put) / chunk kind)
    × ((at + put) % chunk kind ≡ (at % chunk kind + put) % chunk kind)
unfolding chunk
place_behind Ofs at put = (omega arith, omega arith)
place_behind Ffs at put = (omega arith, omega arith)

-- a place so many bytes behind another is in a data area that begins before the end
area_begins : (kind : Kind) (put r n : ℕ) → r < chunk kind → put ≤ n - r → chunk kind * ((r + put) / chunk kind) ≤ n
unfolding chunk
area_begins Ofs put r n lt le = omega arith
area_begins Ffs put r n lt le = omega arith

-- from a place on, so many bytes further
pub bytes_behind : (image : List ℕ) (kind : Kind) (table : List ℕ) (at put : ℕ) → put ≤ length (bytes_from image kind table at)
    → drop put (bytes_from image kind table at) ≡ bytes_from image kind table (at + put)
bytes_behind image kind table at put le = grind (arith, common_steps, place_of, place_behind, length-drop, area_begins, drop-drop, further)

-- the same at the size of a data area
from_block : (image table : List ℕ) (kind : Kind) (at size : ℕ) → size ≡ chunk kind
    → bytes_from image kind table at ≡ drop (at % size) (joined image kind (front_blocks image (drop (at / size) table)))
from_block image table kind at size same = ap (λ n. drop (at % n) (joined image kind (front_blocks image (drop (at / n) table)))) (sym same)

-- what the block at a place holds from there on comes first, and then what is behind it
pub bytes_here : (image table held : List ℕ) (kind : Kind) (at size : ℕ) → size ≡ chunk kind → at / size < length table
    → get_or table (at / size) 0 * 512 + 512 ≤ length image → held ≡ area kind (block image (get_or table (at / size) 0))
    → bytes_from image kind table at ≡ drop (at % size) held ++ joined image kind (front_blocks image (drop (suc (at / size)) table))
bytes_here image table held kind at size same lt le is =
    grind (arith, common_steps, area_long, place_of, from_block, drop-cons, front_more, drop-append-le)

-- an image without a block has nothing
pub bytes_of_no_block : (image table : List ℕ) (kind : Kind) (at : ℕ) → length image < 512 → bytes_from image kind table at ≡ []
bytes_of_no_block image table kind at lt = go (drop (at / chunk kind) table)
  where
    go : (bs : List ℕ) → drop (at % chunk kind) (joined image kind (front_blocks image bs)) ≡ []
    go [] = drop-nil (at % chunk kind)
    go (b ∷ bs) = ap (λ bs. drop (at % chunk kind) (joined image kind bs)) (front_none image b bs (omega arith)) ∙ drop-nil (at % chunk kind)

-- one part more
pub bytes_more : (all room new part more : List ℕ) (put m next : ℕ) → take next new ≡ take put room ++ take m part → next ≡ put + m
    → take put room ≡ take put all → drop put all ≡ part ++ more → m ≤ length part → take next new ≡ take next all
bytes_more all room new part more put m next e is before here le = grind (arith, common_steps, take-append_seam, take-take, take-add)

-- also where it was read
pub area_size : (image held here : List ℕ) (kind : Kind) (b size : ℕ) → held ≡ area kind here → here ≡ block image b → b * 512 + 512 ≤ length image
    → size ≡ chunk kind → length held ≡ size
area_size image held here kind b size e is le same = ap length (e ∙ ap (area kind) is) ∙ area_long image kind b le ∙ sym same

-- what is behind a place is behind each later one
pub behind_more : (new old : List ℕ) (put next : ℕ) → put ≤ next → drop put new ≡ drop put old → drop next new ≡ drop next old
behind_more new old put next le e =
    let z : next ≡ put + (next - put) = omega arith in
    ap (λ n. drop n new) z ∙ sym (drop-drop (next - put) put new) ∙ ap (drop (next - put)) e ∙ drop-drop (next - put) put old
    ∙ ap (λ n. drop n old) (sym z)

-- the kind matters only where the image has a block
pub kind_read : (image table : List ℕ) (kind : Kind) (at : ℕ) → (512 ≤ length image → kind ≡ kind_of image)
    → bytes_from image kind table at ≡ bytes_from image (kind_of image) table at
kind_read image table kind at is = grind (arith, common_steps, cases_lt, bytes_of_no_block)

-- where there is nothing more, all is put
pub all_put : (all : List ℕ) (put : ℕ) → put ≤ length all → drop put all ≡ [] → put ≡ length all
all_put all put le none = omega (arith, ap length none, length-drop put all)

-- so many of them are put where at most q are asked for
pub count_within : (m q r : ℕ) (xs room : List ℕ) → m ≡ min (length room) q → r ≡ min (length (take m room)) (length xs)
    → r ≡ min (length room) (length (take q xs))
count_within m q r xs room is e = omega (arith, length-take m room, length-take q xs)
