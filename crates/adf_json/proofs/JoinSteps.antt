-- Texts that are joined by a byte.
-- Letters: c the byte.
use Rattle.std.proofs.Common.{◌≡◌, ◌<◌, ◌+◌, ◌++◌, ◌==◌, ℕ, List, [], ◌∷◌, Bool, if◌then◌else◌, append_assoc, refl, sym, arith, get_or}
use Rattle.std.proofs.{Common.length, Common.map, Common.take, lemmas.Bool.ne_eqb, lemmas.Grind.common_steps}
use Rattle.std.specs.List.{join_with_byte}
use Rattle.std.proofs.lemmas.List.{length-map, length-take-le, map-append, take_more}

-- a part behind others, after the byte unless it is the first
abbrev behind : ℕ → List ℕ → List ℕ → Bool → List ℕ
behind c text part is_first = text ++ ((if is_first then [] else c ∷ []) ++ part)

joined_more : (c : ℕ) (parts : List (List ℕ)) (part : List ℕ)
    → join_with_byte c (parts ++ part ∷ []) ≡ behind c (join_with_byte c parts) part (length parts == 0)
joined_more c [] part = refl
joined_more c (first ∷ []) part = refl
joined_more c (first ∷ next ∷ rest) part =
    let text : List ℕ = join_with_byte c (next ∷ rest) in
    rw (joined_more c (next ∷ rest) part, ne_eqb (length (next ∷ rest)) 0 (omega arith), ne_eqb (length (first ∷ next ∷ rest)) 0 (omega arith))
    (sym (append_assoc first (c ∷ text) (c ∷ part)))

-- one text more
pub joined_step : {X : Type 0} (c : ℕ) (f : X → List ℕ) (xs : List X) (i : ℕ) (d : X) → i < length xs
    → join_with_byte c (map f (take (i + 1) xs)) ≡ behind c (join_with_byte c (map f (take i xs))) (f (get_or xs i d)) (i == 0)
joined_step c f xs i d lt = grind (arith, common_steps, length-map, length-take-le, take_more, map-append, joined_more, behind)
