-- The parts of a path's text between `/`.
use Rattle.std.proofs.Common.{◌≡◌, ◌≢◌, ◌↔◌, Bor, Option, Some, None, ℕ, ◌+◌, ◌<◌, List, [], ◌∷◌, ◌++◌, length, get_or, take, map, Bool, true, false, arith}
use Rattle.std.proofs.Common.{sym, refl, ◌∙◌, ap, ◌==◌, ◌&&◌, nat_le, IsSome, IfNone, IfSome, is_some}
use Rattle.std.proofs.{Math.Seq.get_or-append_seam, lemmas.Grind.common_steps}
use Rattle.std.specs.List.{All, join_with_byte, list_all}
use Rattle.std.proofs.lemmas.Bool.{cases_Bool, and_parts, eqb-true, ne_eqb, Decides.nat_tests}
use Rattle.std.proofs.lemmas.List.{append-nil, append_assoc, length-append, length-map, get_or-map, map-append, take_more, length-take-le}
use Rattle.std.proofs.lemmas.List.Elements.{All-head, All-tail, All-append, All-nil, All-push}
use Rattle.std.proofs.lemmas.List.Splits.{slice_split_none, slice_split_at, join_with_byte-slice_split}
use Rattle.adf_names.specs.{Texts.is_name, Texts.is_name_byte, Escapes.escape_of, Escapes.escaped, Escapes.hex_digit, Escapes.IsSpelling}
use Rattle.adf_names.specs.PathTexts.{path_text, with_name, between_slashes, IsName, IsPathText}
use Rattle.adf_names.proofs.Spellings.{spelling_some, spelled_plain, spelled_escape, only_spelled}

-- whether a byte is `/`
abbrev pub is_slash : ℕ → Bool
is_slash c = c == 47

-- names have no `/`, escaped or not

hex_no_slash : (d : ℕ) → is_slash (hex_digit d) ≡ false
hex_no_slash d = grind (arith, nat_tests)

name_no_slash : (c : ℕ) → is_name_byte c ≡ true → is_slash c ≡ false
name_no_slash c h = grind (arith, nat_tests)

no_slash_byte : (c : ℕ) → is_name_byte c ≡ true → All (λ x. is_slash x ≡ false) (escape_of c)
no_slash_byte c h = grind (arith, common_steps, is_slash, cases_Bool, spelled_plain, name_no_slash, spelled_escape, hex_no_slash)

no_slash_bytes : (bytes : List ℕ) → list_all is_name_byte bytes ≡ true → All (λ x. is_slash x ≡ false) (escaped bytes)
no_slash_bytes [] h = λ k d lt. absurd (omega arith)
no_slash_bytes (c ∷ cs) h =
    let both = and_parts (is_name_byte c) (list_all is_name_byte cs) h in
    All-append (λ x. is_slash x ≡ false) (escape_of c) (escaped cs) (no_slash_byte c both.0) (no_slash_bytes cs both.1)

pub no_slash : (name : List ℕ) → IsName name → All (λ x. is_slash x ≡ false) (escaped name)
no_slash name h = no_slash_bytes name (and_parts (nat_le 1 (length name) && nat_le (length name) 30) (list_all is_name_byte name) h.allowed).1

-- the parts of the text of a path are its escaped names
pub parts_of_path : (name : List ℕ) (names : List (List ℕ)) → All IsName (name ∷ names)
    → between_slashes (path_text (name ∷ names)) ≡ map escaped (name ∷ names)
parts_of_path name [] h = slice_split_none is_slash (escaped name) (no_slash name (All-head IsName name [] h))
parts_of_path name (next ∷ names) h =
    grind (arith, common_steps, slice_split_at, no_slash, All-head, All-tail, (parts_of_path next names (All-tail IsName name (next ∷ names) h)))

parts_of_some : (path : List (List ℕ)) → 0 < length (path_text path) → All IsName path → between_slashes (path_text path) ≡ map escaped path
parts_of_some [] some h = absurd (omega arith)
parts_of_some (name ∷ names) some h = parts_of_path name names h

pub parts_of_text : (text : List ℕ) (path : List (List ℕ)) → 0 < length text → IsPathText text path → between_slashes text ≡ map escaped path
parts_of_text text path some h = grind (arith, common_steps, parts_of_some)

-- a part that spells no name
pub bad_part : (text part rest : List ℕ) (names more : List (List ℕ)) → 0 < length text
    → between_slashes text ≡ map escaped names ++ between_slashes rest
    → between_slashes rest ≡ part ∷ more → ((name : List ℕ) → IsName name → part ≢ escaped name) → (path : List (List ℕ)) → ¬ IsPathText text path
bad_part text part rest names more some split cut none path h =
    let front : List (List ℕ) = map escaped names in
    let k : ℕ = length front in
    let whole = rw (split, cut) at (parts_of_text text path some h) in
    let within : k < length path = omega (arith, ap length whole, length-map path escaped, length-append front (part ∷ more)) in
    none (get_or path k []) (h.names k [] within)
    (sym (get_or-append_seam front part more part) ∙ rw whole (get_or-map escaped path k [] part within))

-- one part more spells a name
pub one_part : (text part rest name : List ℕ) (names more : List (List ℕ)) → between_slashes text ≡ map escaped names ++ between_slashes rest
    → between_slashes rest ≡ part ∷ more → part ≡ escaped name → between_slashes text ≡ map escaped (names ++ name ∷ []) ++ more
one_part text part rest name names more split cut is = grind (arith, common_steps, map-append, append_assoc)

-- and the last one too
pub last_name : (text part rest name : List ℕ) (names : List (List ℕ)) → between_slashes text ≡ map escaped names ++ between_slashes rest
    → between_slashes rest ≡ part ∷ [] → part ≡ escaped name → All IsName names → IsName name → IsPathText text (names ++ name ∷ [])
last_name text part rest name names split cut is all ok = record {
  spells = sym (join_with_byte-slice_split 47 text)
      ∙ ap (join_with_byte 47) (one_part text part rest name names [] split cut is ∙ append-nil (map escaped (names ++ name ∷ [])));
  names = All-push IsName names name all ok;
}

-- the first part is there whatever follows
pub part_first : (o : Option (Bor (List ℕ))) (part : List ℕ) (ps : List (List ℕ)) → IfNone o (ps ≡ part ∷ [])
    → IfSome o (λ after. ps ≡ part ∷ between_slashes after.now) → (more : List (List ℕ)) × (ps ≡ part ∷ more)
part_first (Some after) part ps none some = (between_slashes after.now, some)
part_first None part ps none some = ([], none)

pub at_none : {X P : Type 0} (o : Option X) → is_some o ≡ false → IfNone o P → P
at_none None h p = p
at_none (Some x) h p = cc

pub last_part : (o : Option (Bor (List ℕ))) (part : List ℕ) (ps : List (List ℕ)) → o ≡ None → IfNone o (ps ≡ part ∷ []) → ps ≡ part ∷ []
last_part None part ps h is = is
last_part (Some after) part ps h is = cc

pub part_before : (o : Option (Bor (List ℕ))) (part : List ℕ) (ps : List (List ℕ)) (after : Bor (List ℕ)) → o ≡ Some after
    → IfSome o (λ after. ps ≡ part ∷ between_slashes after.now) → ps ≡ part ∷ between_slashes after.now
part_before None part ps after h is = cc
part_before (Some x) part ps after h is = let same : x ≡ after = cc in is ∙ ap (λ y. part ∷ between_slashes y.now) same

pub some_name : (r : Option (List ℕ)) (part : List ℕ) → is_some r ≡ true → IfSome r (λ n. part ≡ escaped n) → IfSome r IsName
    → (name : List ℕ) × (part ≡ escaped name) × IsName name
some_name (Some name) part h is ok = (name, is, ok)
some_name None part h is ok = cc

-- the names of a path, part by part
pub ruleset name_steps = (part_first, bad_part, last_part, last_name)

-- so a text is that of one path at most

nothing_spelled : (name : List ℕ) → is_name name ≡ true → escaped name ≢ []
nothing_spelled [] h e = cc
nothing_spelled (c ∷ cs) h e = spelling_some c (escaped cs) e

pub empty_path : (path : List (List ℕ)) → All IsName path → path_text path ≡ [] → path ≡ []
empty_path [] h e = refl
empty_path (name ∷ []) h e = absurd (nothing_spelled name (All-head IsName name [] h).allowed e)
empty_path (name ∷ next ∷ names) h e = absurd (omega (arith, ap length e, length-append (escaped name) (47 ∷ path_text (next ∷ names))))

same_names : (a b : List (List ℕ)) → All IsName a → All IsName b → map escaped a ≡ map escaped b → a ≡ b
same_names [] [] x y h = refl
same_names [] (n ∷ ns) x y h = cc
same_names (m ∷ ms) [] x y h = cc
same_names (m ∷ ms) (n ∷ ns) x y h =
    let here : escaped m ≡ escaped n = cc in
    let rest : map escaped ms ≡ map escaped ns = cc in
    ap (λ z. z ∷ ms) (only_spelled m n (All-head IsName m ms x).are_bytes (All-head IsName n ns y).are_bytes here)
    ∙ ap (λ zs. n ∷ zs) (same_names ms ns (All-tail IsName m ms x) (All-tail IsName n ns y) rest)

pub one_path : (text : List ℕ) (path other : List (List ℕ)) → IsPathText text path → IsPathText text other → path ≡ other
one_path [] path other h g = empty_path path h.names (sym h.spells) ∙ sym (empty_path other g.names (sym g.spells))
one_path (c ∷ cs) path other h g =
    same_names path other h.names g.names
    (sym (parts_of_text (c ∷ cs) path (omega arith) h) ∙ parts_of_text (c ∷ cs) other (omega arith) g)

-- where the only bytes that a text spells are no name
pub no_name : (r : Option (List ℕ)) (text bytes : List ℕ) → IsSpelling 30 text bytes → (IsSome r ↔ (is_name bytes ≡ true))
    → IfNone r ((name : List ℕ) → IsName name → text ≢ escaped name)
no_name (Some n) text bytes h allowed = tt
no_name None text bytes h allowed = λ name is e.
    let same : bytes ≡ name = only_spelled bytes name h.are_bytes is.are_bytes (sym h.spells ∙ e) in
    let some : IsSome {T = List ℕ} None = allowed.1 (ap is_name same ∙ is.allowed) in
    cc

-- the text of a path with one name more
pub path_text_more : (path : List (List ℕ)) (name : List ℕ) → path_text (path ++ name ∷ []) ≡ with_name (path_text path) name (length path == 0)
path_text_more [] name = refl
path_text_more (first ∷ []) name = sym (append_assoc (escaped first) (47 ∷ []) (escaped name))
path_text_more (first ∷ next ∷ names) name = grind (arith, common_steps, ne_eqb, append_assoc, (path_text_more (next ∷ names) name))

pub path_text_step : (path : List (List ℕ)) (i : ℕ) (name text : List ℕ) → i < length path → name ≡ get_or path i name
    → text ≡ with_name (path_text (take i path)) name (i == 0) → text ≡ path_text (take (i + 1) path)
path_text_step path i name text lt at is = grind (arith, common_steps, take_more, path_text_more, length-take-le)

-- the empty text is that of the empty path
pub empty_is_path : (text : List ℕ) → (length text == 0) ≡ true → IsPathText text []
empty_is_path [] h = record { spells = refl; names = All-nil IsName }
empty_is_path (c ∷ cs) h = absurd (omega (arith, eqb-true (length (c ∷ cs)) 0 h))
