-- The names in bytes, one after another.
use Rattle.std.proofs.Common.{◌≡◌, ◌≤◌, ◌<◌, ◌==◌, ℕ, zero, suc, Bool, true, false, List, [], ◌∷◌, ◌∙◌, length, if◌then◌else◌, Option, None, Some, IfSome}
use Rattle.std.proofs.{Common.option_map, Common.ap, Common.refl, Common.arith, Common.Bor, lemmas.Grind.common_steps}
use Rattle.std.specs.Io.BufRead.{DropsThrough, drop_through, first_piece, strip_last, take_through}
use Rattle.std.specs.Io.KnownBytes.{IsAtEnd}
use Rattle.adf_words.specs.CommandLine.{texts_of}
use Rattle.adf_shelf_cmd.specs.Names.{AreGiven, are_unread, name_end, first_names, listed_names, names_or_input}

short_both : (c : Bool) (xs ys : List ℕ) (n : ℕ) → length xs ≤ n → length ys ≤ n → length (if c then xs else ys) ≤ n
short_both true xs ys n h i = h
short_both false xs ys n h i = i

shorter : (end : ℕ) (bytes : List ℕ) → length (drop_through end bytes) ≤ length bytes
shorter end [] = omega arith
shorter end (b ∷ bytes) =
    let rest = shorter end bytes in
    short_both (b == end) bytes (drop_through end bytes) (suc (length bytes)) (omega arith) (omega arith)

rest_shorter : (end b : ℕ) (bytes : List ℕ) → length (drop_through end (b ∷ bytes)) ≤ length bytes
rest_shorter end b bytes = short_both (b == end) bytes (drop_through end bytes) (length bytes) (omega arith) (shorter end bytes)

enough : (k m end : ℕ) (bytes : List ℕ) → length bytes ≤ k → length bytes ≤ m → first_names k end bytes ≡ first_names m end bytes
unfolding first_names
enough zero zero end bytes h i = refl
enough zero (suc m) end [] h i = refl
enough zero (suc m) end (b ∷ bytes) h i = absurd (omega arith)
enough (suc k) zero end [] h i = refl
enough (suc k) zero end (b ∷ bytes) h i = absurd (omega arith)
enough (suc k) (suc m) end [] h i = refl
enough (suc k) (suc m) end (b ∷ bytes) h i =
    let few = rest_shorter end b bytes in
    ap (λ names. first_piece end (b ∷ bytes) ∷ names) (enough k m end (drop_through end (b ∷ bytes)) (omega arith) (omega arith))

one_name : (end b : ℕ) (bytes : List ℕ) → listed_names end (b ∷ bytes) ≡ first_piece end (b ∷ bytes) ∷ listed_names end (drop_through end (b ∷ bytes))
unfolding first_names
one_name end b bytes = grind (arith, common_steps, rest_shorter, enough)

no_name : (end : ℕ) → listed_names end [] ≡ []
unfolding first_names
no_name end = refl

-- no name is in no byte
pub none_left : (end : ℕ) (old : Option (List ℕ)) → IsAtEnd old → IfSome (option_map (listed_names end) old) (λ names. names ≡ [])
none_left end None at_end = tt
none_left end (Some bytes) at_end = ap (listed_names end) at_end ∙ no_name end

-- a text that ends at the first `end`, without that byte, is the first name
pub gives_piece : (end : ℕ) (old new : Option (List ℕ)) (text name : List ℕ) → IfSome old (λ bytes. text ≡ take_through end bytes)
    → DropsThrough old new end → 0 < length text → name ≡ strip_last end text
    → AreGiven (option_map (listed_names end) old) (option_map (listed_names end) new) (name ∷ [])
gives_piece end None new text name piece rest some e = tt
gives_piece end (Some []) new text name piece rest some e = let none : length text ≡ 0 = ap length piece in absurd (omega arith)
gives_piece end (Some (b ∷ bytes)) new text name piece rest some e = grind (arith, common_steps, one_name, option_map)

-- where words give no names, those in the input are asked for, and their fault is that of all
pub asked_in_input : (null : Bool) (names : List (List ℕ)) (input : Option (List ℕ)) → names ≡ []
    → names_or_input null names input ≡ option_map (listed_names (name_end null)) input
asked_in_input null [] input e = refl
asked_in_input null (name ∷ names) input e = cc

pub unread_in_input : (names : List (List ℕ)) (failed : Bool) → names ≡ [] → are_unread names failed ≡ failed
unread_in_input [] failed e = refl
unread_in_input (name ∷ names) failed e = cc

-- where they give some, these are
pub asked_in_words : (null : Bool) (names : List (List ℕ)) (input : Option (List ℕ)) → (names ≡ [] → ⊥) → names_or_input null names input ≡ Some names
asked_in_words null [] input ne = absurd (ne refl)
asked_in_words null (name ∷ names) input ne = refl

pub unread_in_words : (names : List (List ℕ)) (failed : Bool) → (names ≡ [] → ⊥) → are_unread names failed ≡ false
unread_in_words [] failed ne = absurd (ne refl)
unread_in_words (name ∷ names) failed ne = refl

-- words that are no texts are none
pub no_words : (words : List (Bor (List ℕ))) → texts_of words ≡ [] → words ≡ []
no_words [] e = refl
no_words (w ∷ ws) e = cc
