-- A path with one more name.
use Rattle.std.proofs.Common.{◌≡◌, ◌<◌, ◌+◌, ◌++◌, ◌==◌, ◌∙◌, ℕ, List, [], ◌∷◌, Bool, true, false, if◌then◌else◌, ap, append_assoc, refl, sym, arith, get_or}
use Rattle.std.proofs.{Common.length, Common.map, Common.nat_le, Common.take, lemmas.Bool.and_parts, lemmas.Bool.ne_eqb, lemmas.Grind.common_steps}
use Rattle.std.specs.{Borrow.Bor, List.All, List.join_with_byte, List.list_all}
use Rattle.std.proofs.lemmas.List.{length-map, length-take-le, map-append, take_more, Elements.All-head, Elements.All-tail}
use Rattle.adf_names.specs.{Escapes.escape_of, Escapes.escaped, PathTexts.IsName, PathTexts.path_text, PathTexts.with_name, Texts.is_name_byte}
use Rattle.adf_names.specs.Written.{digits_of, name_bytes, names_text, spelled}

-- a name behind a text
pub name_put : (text name : List ℕ) (is_first : Bool) → with_name text name is_first ≡ text ++ ((if is_first then [] else 47 ∷ []) ++ escaped name)
name_put text name true = refl
name_put text name false = append_assoc text (47 ∷ []) (escaped name)

-- a part behind others, after a `/` unless it is the first
abbrev behind : List ℕ → List ℕ → Bool → List ℕ
behind text part is_first = text ++ ((if is_first then [] else 47 ∷ []) ++ part)

-- one part more, joined to the others
joined_more : (parts : List (List ℕ)) (part : List ℕ)
    → join_with_byte 47 (parts ++ part ∷ []) ≡ behind (join_with_byte 47 parts) part (length parts == 0)
joined_more [] part = refl
joined_more (first ∷ []) part = refl
joined_more (first ∷ next ∷ rest) part =
    let text : List ℕ = join_with_byte 47 (next ∷ rest) in
    rw (joined_more (next ∷ rest) part, ne_eqb (length (next ∷ rest)) 0 (omega arith), ne_eqb (length (first ∷ next ∷ rest)) 0 (omega arith))
    (sym (append_assoc first (47 ∷ text) (47 ∷ part)))

-- the names that references point to
abbrev named : List (Bor (List ℕ)) → List (List ℕ)
named path = map (λ name. name.now) path

-- one name more, in a path of names that need not be valid
pub names_step : (path : List (Bor (List ℕ))) (i : ℕ) (d : Bor (List ℕ)) → i < length path
    → names_text (named (take (i + 1) path)) ≡ behind (names_text (named (take i path))) (spelled (get_or path i d).now) (i == 0)
names_step path i d lt = grind (arith, common_steps, named, length-map, length-take-le, take_more, map-append, joined_more, behind)

-- a valid name is spelled by its escapes
bytes_escaped : (name : List ℕ) → list_all is_name_byte name ≡ true → name_bytes name ≡ escaped name
bytes_escaped [] h = refl
bytes_escaped (c ∷ cs) h =
    let both = and_parts (is_name_byte c) (list_all is_name_byte cs) h in
    ap (λ b. (if b then escape_of c else digits_of c) ++ name_bytes cs) both.0 ∙ ap (λ text. escape_of c ++ text) (bytes_escaped cs both.1)

spelled_name : (name : List ℕ) → IsName name → spelled name ≡ escaped name
spelled_name [] is = let clash : false ≡ true = is.allowed in cc
spelled_name (c ∷ cs) is = grind (arith, common_steps, bytes_escaped, and_parts, nat_le)

-- so a path of valid names has one text
pub one_text : (path : List (List ℕ)) → All IsName path → names_text path ≡ path_text path
one_text path names = ap (join_with_byte 47) (parts path names)
  where
    parts : (path : List (List ℕ)) → All IsName path → map spelled path ≡ map escaped path
    parts [] names = refl
    parts (name ∷ rest) names =
        ap (λ text. text ∷ map spelled rest) (spelled_name name (All-head IsName name rest names))
        ∙ ap (λ ps. escaped name ∷ ps) (parts rest (All-tail IsName name rest names))
