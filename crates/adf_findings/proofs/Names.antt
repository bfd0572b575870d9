-- Names in blocks, and names in upper case.
use Rattle.std.specs.{Prelude.false, Prelude.min, Prelude.slice_index, Prelude.slice_range, Prelude.true, Str.bytes_eq}
use Rattle.std.proofs.Common.{◌≡◌, ℕ, List, ◌+◌, ◌*◌, ◌-◌, ◌<◌, ◌≤◌, length, drop, take, arith}
use Rattle.std.proofs.lemmas.Bool.{cases_lt, false_from_ne_true}
use Rattle.std.proofs.{lemmas.List.length-drop, lemmas.List.take_all, lemmas.Slice.Eq.bytes_eq-Decides, lemmas.Grind.common_steps}
use Rattle.adf_base.specs.{Words.block, declared.hash.Letters.Letters}
use Rattle.adf_names.specs.Texts.{is_name, uppers_by}
use Rattle.adf_names.proofs.RaisedNames.{raised_name}
use Rattle.adf_blocks.specs.{declared.layout.TheConstants.NAME, Sizes.blocks}
use Rattle.adf_volume.specs.Image.{name_of}
use Rattle.adf_volume.proofs.Images.{block_length}

cut : (xs : List ℕ) (n : ℕ) → length xs ≤ 79 → take (min n 79) xs ≡ take n xs
cut xs n h = grind (arith, common_steps, cases_lt, take_all)

-- a name ends where its block ends
pub cut_name : (image : List ℕ) (b : ℕ) → length image ≡ 512 * blocks image → b < blocks image
    → slice_range (block image b) (NAME + 1) (NAME + 1 + min (slice_index (block image b) NAME) 79) ≡ name_of image b
unfolding name_of
cut_name image b long lt =
    let n : ℕ = slice_index (block image b) NAME in
    let l : length (drop (NAME + 1) (block image b)) ≤ 79 = omega (arith, block_length image b long lt, length-drop (NAME + 1) (block image b)) in
    let e : (NAME + 1 + min n 79) - (NAME + 1) ≡ min n 79 = omega arith in
    let f : (NAME + 1 + n) - (NAME + 1) ≡ n = omega arith in
    rw (e, f) (cut (drop (NAME + 1) (block image b)) n l)

-- a name that is not valid is no valid one
pub other_name : (l : Letters) (x y : List ℕ) → is_name x ≡ false → is_name y ≡ true → bytes_eq (uppers_by l x) (uppers_by l y) ≡ false
other_name l x y none valid = grind (arith, common_steps, false_from_ne_true, bytes_eq-Decides, raised_name)
