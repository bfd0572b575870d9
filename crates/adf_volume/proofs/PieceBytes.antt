-- The pieces of a file joined are its content.
use Rattle.std.proofs.Common.{◌≡◌, ℕ, zero, suc, List, [], ◌∷◌, ◌++◌, ◌+◌, ◌-◌, ◌*◌, ◌<◌, ◌≤◌, length, refl, sym, ap, subst, ◌∙◌, arith, rules, drop, get_or}
use Rattle.std.proofs.{Common.take, Common.take_all, Common.slice_range, lemmas.Bool.Decides.nat_tests, lemmas.List.take-take, lemmas.Grind.common_steps}
use Rattle.std.specs.List.{concat}
use Rattle.adf_base.specs.Words.{block}
use Rattle.adf_names.specs.declared.kind.Kind.{Kind, TheVariants.Ofs, TheVariants.Ffs}
use Rattle.adf_blocks.specs.{Sizes.blocks, Sizes.chunk, Sizes.count, declared.layout.TheConstants.SIZE}
use Rattle.adf_volume.specs.{Lists.At, Image.word_in, Image.held, Image.area, Image.joined, Image.content, Image.piece, Image.pieces, Pieces.AreInside}
use Rattle.adf_volume.proofs.Images.{area_length, AreIn}

take_zero : (xs : List ℕ) → take 0 xs ≡ []
take_zero [] = refl
take_zero (x ∷ xs) = refl

-- the first bytes of two lists, one after the other
take_append : (s : ℕ) (xs ys : List ℕ) → take s (xs ++ ys) ≡ take s xs ++ take (s - length xs) ys
take_append zero [] ys = let z : 0 - length {A = ℕ} [] ≡ 0 = omega arith in ap (λ k. take k ys) (sym z)
take_append (suc s) [] ys = let z : suc s - length {A = ℕ} [] ≡ suc s = omega arith in ap (λ k. take k ys) (sym z)
take_append zero (x ∷ xs) ys = let z : 0 - length (x ∷ xs) ≡ 0 = omega arith in sym (take_zero ys) ∙ ap (λ k. take k ys) (sym z)
take_append (suc s) (x ∷ xs) ys = search (rules, take_append s xs ys)

-- what is left of a size from data block k + 1 on
left : Kind → ℕ → ℕ → ℕ
left kind size k = size - chunk kind * k

-- a data block that is followed holds all that it can, the last one what is left
held_is : (kind : Kind) (size k : ℕ) (xs : List ℕ) → length xs ≡ chunk kind → take (held kind size (suc k)) xs ≡ take (left kind size k) xs
unfolding held left
held_is kind size k xs h = grind (arith, common_steps, nat_tests, take_all)

left_more : (kind : Kind) (size k n : ℕ) → n ≡ chunk kind → left kind size k - n ≡ left kind size (suc k)
unfolding left chunk
left_more Ofs size k n h = omega arith
left_more Ffs size k n h = omega arith

pieces_from : (image : List ℕ) (kind : Kind) (size k : ℕ) (bs : List ℕ) → length image ≡ 512 * blocks image → AreIn image bs
    → concat (pieces image kind size (suc k) bs) ≡ take (left kind size k) (joined image kind bs)
pieces_from image kind size k [] z l = grind (arith, common_steps, left)
pieces_from image kind size k (b ∷ bs) z l =
    let n : length (area kind (block image b)) ≡ chunk kind = area_length image kind b z (l 0 b refl) in
    let ih = pieces_from image kind size (suc k) bs z (λ i c h. l (suc i) c h) in
    ap (λ xs. xs ++ concat (pieces image kind size (suc (suc k)) bs)) (held_is kind size k (area kind (block image b)) n)
    ∙ (ap (λ ys. take (left kind size k) (area kind (block image b)) ++ ys)
    (ih ∙ ap (λ m. take m (joined image kind bs)) (sym (left_more kind size k (length (area kind (block image b))) n)))
    ∙ sym (take_append (left kind size k) (area kind (block image b)) (joined image kind bs)))

left_all : (kind : Kind) (size : ℕ) → left kind size 0 ≡ size
unfolding left
left_all kind size = let z : chunk kind * 0 ≡ 0 = omega arith in omega arith

-- the pieces of a file, one after the other, are its content
pub pieces_joined : (image : List ℕ) (kind : Kind) (h : ℕ) (bs : List ℕ) → length image ≡ 512 * blocks image
    → AreIn image bs → concat (pieces image kind (word_in image h SIZE) 1 bs) ≡ content image kind h bs
unfolding content
pieces_joined image kind h bs z l = grind (arith, common_steps, pieces_from, left_all)

-- there is a piece for each data block
pub pieces_length : (image : List ℕ) (kind : Kind) (size k : ℕ) (bs : List ℕ) → length (pieces image kind size k bs) ≡ length bs
pieces_length image kind size k [] = refl
pieces_length image kind size k (b ∷ bs) = ap suc (pieces_length image kind size (suc k) bs)

pub piece_at : (image : List ℕ) (kind : Kind) (size k : ℕ) (bs : List ℕ) (i b : ℕ) → At bs i b
    → At (pieces image kind size k bs) i (piece kind size (k + i) (block image b))
piece_at image kind size k [] i b h = absurd h
piece_at image kind size k (c ∷ bs) zero b h = let z : k ≡ k + 0 = omega arith in λ t. piece kind size (z t) (block image (h t))
piece_at image kind size k (c ∷ bs) (suc i) b h = search (rules, piece_at image kind size (suc k) bs i b h)

-- a data block that a size needs begins within it
some_left : (kind : Kind) (size k : ℕ) → k < count kind size → (0 < chunk kind) × (chunk kind * k < size)
unfolding count chunk
some_left Ofs size k h = (omega arith, omega arith)
some_left Ffs size k h = (omega arith, omega arith)

-- no data block that a size needs is empty, and none holds more than it can
pub held_some : (kind : Kind) (size k : ℕ) → k < count kind size → (0 < held kind size (suc k)) × (held kind size (suc k) ≤ chunk kind)
unfolding held
held_some kind size k h = grind (arith, common_steps, some_left, nat_tests)

-- one data block less
pub inside_next : (image ds others : List ℕ) (x k : ℕ) → ds ≡ x ∷ others → AreInside image ds k → AreInside image others (k + 1)
inside_next image ds others x k e h =
    let n : length ds ≡ suc (length others) = ap length e in
    record {
      inside = (λ i d lt. subst (λ xs. get_or xs (suc i) d * 512 + 512 ≤ length image) e (h.inside (suc i) d (omega arith)));
      from = omega arith;
      few = omega (arith, h.few);
    }

-- what a data block holds is the first part of its data area
pub piece_ofs : (size k n : ℕ) (b : List ℕ) → n ≡ held Ofs size k → n ≤ chunk Ofs → slice_range b 24 (24 + n) ≡ piece Ofs size k b
unfolding area chunk
piece_ofs size k n b e le = grind (arith, common_steps, take-take n 488 (drop 24 b) le)

pub piece_ffs : (size k n : ℕ) (b : List ℕ) → n ≡ held Ffs size k → n ≤ chunk Ffs → slice_range b 0 (0 + n) ≡ piece Ffs size k b
unfolding area chunk
piece_ffs size k n b e le = grind (arith, common_steps, take-take n 512 (drop 0 b) le)
