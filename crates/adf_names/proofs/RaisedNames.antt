-- Names in upper case.
-- Letters: l the letters whose case is ignored; c a byte; xs the bytes of a name, ys those that are raised; i the index of the next byte.
use Rattle.std.proofs.Common.{◌≡◌, ℕ, ◌+◌, ◌<◌, ◌≤◌, List, [], ◌∷◌, ◌++◌, length, get_or, take, true, arith, add-one, refl}
use Rattle.std.specs.List.{list_all}
use Rattle.std.proofs.{Math.Seq.take-suc, lemmas.Bool.Decides.nat_tests, lemmas.Grind.common_steps}
use Rattle.std.proofs.lemmas.List.{length-map, length-take-le, map-append, take_all}
use Rattle.adf_base.specs.Hash.{upper_by, upper_of}
use Rattle.adf_base.specs.declared.hash.Letters.{Letters, TheVariants.Ascii, TheVariants.International}
use Rattle.adf_names.specs.Texts.{is_name, is_name_byte, uppers, uppers_by}

-- a byte in upper case stays what it is
upper_stays : (l : Letters) (c : ℕ) → upper_of (upper_by l c) ≡ upper_by l c
upper_stays Ascii c = grind (arith, nat_tests)
upper_stays International c = grind (arith, nat_tests)

-- a name in upper case is its own
pub raised_stays : (l : Letters) (xs : List ℕ) → uppers (uppers_by l xs) ≡ uppers_by l xs
raised_stays l [] = refl
raised_stays l (c ∷ cs) = rw (upper_stays l c, raised_stays l cs) refl

-- no byte is raised to `:` or `/`
raised_byte : (l : Letters) (c : ℕ) → is_name_byte (upper_by l c) ≡ is_name_byte c
raised_byte Ascii c = grind (arith, nat_tests)
raised_byte International c = grind (arith, nat_tests)

raised_bytes : (l : Letters) (xs : List ℕ) → list_all is_name_byte (uppers_by l xs) ≡ list_all is_name_byte xs
raised_bytes l [] = refl
raised_bytes l (c ∷ cs) = rw (raised_byte l c, raised_bytes l cs) refl

-- the upper case of a name is valid if and only if the name is
pub raised_name : (l : Letters) (xs : List ℕ) → is_name (uppers_by l xs) ≡ is_name xs
raised_name l xs = rw (length-map xs (upper_by l), raised_bytes l xs) refl

-- there is room for the next byte
pub next_fits : (l : Letters) (xs ys : List ℕ) (i : ℕ) → is_name xs ≡ true → i < length xs → ys ≡ uppers_by l (take i xs) → length ys < 30
next_fits l xs ys i name lt is = grind (arith, common_steps, nat_tests, length-map, length-take-le)

pub next_raised : (l : Letters) (xs ys : List ℕ) (i : ℕ) → i < length xs → ys ≡ uppers_by l (take i xs)
    → ys ++ upper_by l (get_or xs i 0) ∷ [] ≡ uppers_by l (take (i + 1) xs)
next_raised l xs ys i lt is = rw (is, add-one, take-suc xs i 0 lt, map-append (upper_by l) (take i xs) (get_or xs i 0 ∷ [])) refl

-- all bytes are raised
pub all_raised : (l : Letters) (xs ys : List ℕ) (i : ℕ) → length xs ≤ i → ys ≡ uppers_by l (take i xs) → ys ≡ uppers_by l xs
all_raised l xs ys i all is = rw (is, take_all i xs all) refl

pub raised_is_name : (l : Letters) (xs ys : List ℕ) (i : ℕ) → is_name xs ≡ true → length xs ≤ i → ys ≡ uppers_by l (take i xs) → is_name ys ≡ true
raised_is_name l xs ys i name all is = grind (arith, common_steps, all_raised, raised_name)

pub ruleset raised_steps = (next_fits, next_raised, all_raised, raised_is_name)
