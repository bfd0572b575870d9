-- Names that are equal ignoring case.
-- Letters: l the letters whose case is ignored; a, b names; k the index of a byte.
use Rattle.std.proofs.Common.{◌≡◌, ◌≢◌, ℕ, ◌<◌, List, length, get_or, true, false, arith, ap, ◌∙◌, sym}
use Rattle.std.proofs.lemmas.List.{same_lists, get_or-map, length-map}
use Rattle.std.proofs.{lemmas.Slice.Eq.bytes_eq-Decides, lemmas.Bool.false_from_ne_true, lemmas.Grind.common_steps}
use Rattle.std.specs.Str.{bytes_eq}
use Rattle.adf_base.specs.{Hash.upper_by, Hash.upper_of, declared.hash.Letters.Letters, declared.hash.Letters.TheVariants.Ascii}
use Rattle.adf_names.specs.Texts.{uppers, uppers_by}

pub same_yes : (l : Letters) (a b : List ℕ) → length a ≡ length b → ((k : ℕ) → k < length a → upper_by l (get_or a k 0) ≡ upper_by l (get_or b k 0))
    → bytes_eq (uppers_by l a) (uppers_by l b) ≡ true
same_yes l a b e h =
    (bytes_eq-Decides (uppers_by l a) (uppers_by l b)).1
    (same_lists (uppers_by l a) (uppers_by l b) (simp length-map e)
    (λ k d lt.
    let la : k < length a = omega (arith, simp length-map at lt) in
    let lb : k < length b = omega arith in
    get_or-map (upper_by l) a k 0 d la ∙ (h k la ∙ sym (get_or-map (upper_by l) b k 0 d lb))))

pub same_no : (l : Letters) (a b : List ℕ) (k : ℕ) → k < length a → k < length b → upper_by l (get_or a k 0) ≢ upper_by l (get_or b k 0)
    → bytes_eq (uppers_by l a) (uppers_by l b) ≡ false
same_no l a b k la lb ne =
    false_from_ne_true (bytes_eq (uppers_by l a) (uppers_by l b))
    (λ t.
    let same : uppers_by l a ≡ uppers_by l b = (bytes_eq-Decides _ _).0 t in
    ne (rw (get_or-map (upper_by l) a k 0 0 la, get_or-map (upper_by l) b k 0 0 lb) at (ap (λ s. get_or s k 0) same)))

pub same_short : (l : Letters) (a b : List ℕ) → length a ≢ length b → bytes_eq (uppers_by l a) (uppers_by l b) ≡ false
same_short l a b ne = grind (arith, common_steps, false_from_ne_true, length-map, bytes_eq-Decides)

-- the same of a to z
pub ascii_yes : (a b : List ℕ) → length a ≡ length b → ((k : ℕ) → k < length a → upper_of (get_or a k 0) ≡ upper_of (get_or b k 0))
    → bytes_eq (uppers a) (uppers b) ≡ true
ascii_yes = same_yes Ascii

pub ascii_no : (a b : List ℕ) (k : ℕ) → k < length a → k < length b → upper_of (get_or a k 0) ≢ upper_of (get_or b k 0)
    → bytes_eq (uppers a) (uppers b) ≡ false
ascii_no = same_no Ascii

pub ascii_short : (a b : List ℕ) → length a ≢ length b → bytes_eq (uppers a) (uppers b) ≡ false
ascii_short = same_short Ascii
