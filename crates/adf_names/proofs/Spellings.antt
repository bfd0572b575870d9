-- A text is the escape form of at most one list of bytes.
use Rattle.std.proofs.Common.{◌≡◌, ◌≢◌, ℕ, ◌/◌, ◌%◌, ◌<◌, List, [], ◌∷◌, ◌++◌, length, get_or, true, false, arith, sym, refl, ◌∙◌, ap, if◌then◌else◌}
use Rattle.std.proofs.{lemmas.Bool.cases_Bool, lemmas.Bool.Decides.nat_tests, Math.Seq.get_or-append_seam}
use Rattle.std.proofs.lemmas.List.{append_assoc, append-nil, length-append, Elements.All-head, Elements.All-tail}
use Rattle.std.proofs.lemmas.Grind.{flat_map-append, common_steps}
use Rattle.std.specs.List.{All}
use Rattle.adf_names.specs.Escapes.{is_plain, hex_digit, escape_of, escaped, IsSpelling}

hex_apart : (a b : ℕ) → hex_digit a ≡ hex_digit b → a < 16 → b < 16 → a ≡ b
hex_apart a b h x y = grind (arith, nat_tests)

-- the digits of a byte are of no other
pub same_digits : (c d : ℕ) → c < 256 → d < 256 → hex_digit (c / 16) ≡ hex_digit (d / 16) → hex_digit (c % 16) ≡ hex_digit (d % 16) → c ≡ d
same_digits c d small other high low = grind (arith, common_steps, hex_apart)

plain_not_escape : (c : ℕ) → is_plain c ≡ true → c ≢ 92
plain_not_escape c h e = grind (arith, nat_tests)

pub spelled_plain : (c : ℕ) → is_plain c ≡ true → escape_of c ≡ c ∷ []
spelled_plain c h = ap (λ b. if b then c ∷ [] else 92 ∷ 120 ∷ hex_digit (c / 16) ∷ hex_digit (c % 16) ∷ []) h

pub spelled_escape : (c : ℕ) → is_plain c ≡ false → escape_of c ≡ 92 ∷ 120 ∷ hex_digit (c / 16) ∷ hex_digit (c % 16) ∷ []
spelled_escape c h = ap (λ b. if b then c ∷ [] else 92 ∷ 120 ∷ hex_digit (c / 16) ∷ hex_digit (c % 16) ∷ []) h

-- two spellings at the head of one text are of one byte
pub one_spelling : (c d : ℕ) (u v : List ℕ) → c < 256 → d < 256 → escape_of c ++ u ≡ escape_of d ++ v → (c ≡ d) × (u ≡ v)
one_spelling c d u v cs ds h = grind (arith, common_steps, cases_Bool, plain_not_escape, same_digits)

pub spelling_some : (c : ℕ) (u : List ℕ) → escape_of c ++ u ≢ []
spelling_some c u h = grind (arith, common_steps, cases_Bool, spelled_plain, spelled_escape)

-- what was read of a text is the head of what it spells
pub rest_spelled : (done bytes rest : List ℕ) → All (λ c. c < 256) done → All (λ c. c < 256) bytes → escaped bytes ≡ escaped done ++ rest
    → (more : List ℕ) × (bytes ≡ done ++ more) × (escaped more ≡ rest)
rest_spelled [] bytes rest x y h = (bytes, refl, h)
rest_spelled (c ∷ cs) [] rest x y h = absurd (spelling_some c (escaped cs ++ rest) (sym (append_assoc (escape_of c) (escaped cs) rest) ∙ sym h))
rest_spelled (c ∷ cs) (d ∷ ds) rest x y h =
    let both = one_spelling d c (escaped ds) (escaped cs ++ rest) (All-head (λ k. k < 256) d ds y) (All-head (λ k. k < 256) c cs x)
    (h ∙ append_assoc (escape_of c) (escaped cs) rest) in
    let more = rest_spelled cs ds rest (All-tail (λ k. k < 256) c cs x) (All-tail (λ k. k < 256) d ds y) both.1 in
    (more.0, ap (λ k. k ∷ ds) both.0 ∙ ap (λ zs. c ∷ zs) more.1, more.2)

-- one byte more is read
pub read_more : (text done rest after : List ℕ) (c : ℕ) → text ≡ escaped done ++ rest → rest ≡ escape_of c ++ after
    → text ≡ escaped (done ++ c ∷ []) ++ after
read_more text done rest after c h g = grind (arith, common_steps, flat_map-append, append-nil, append_assoc)

some_more : (done rest bytes more : List ℕ) → 0 < length rest → bytes ≡ done ++ more → escaped more ≡ rest
    → (c : ℕ) × (after : List ℕ) × (bytes ≡ done ++ c ∷ after) × (rest ≡ escape_of c ++ escaped after)
some_more done rest bytes [] some is spells = absurd (omega (arith, some, ap length spells))
some_more done rest bytes (c ∷ after) some is spells = (c, after, is, sym spells)

-- a text spells more than was read of it
more_spelled : (most : ℕ) (text done rest bytes : List ℕ) → text ≡ escaped done ++ rest → All (λ c. c < 256) done → 0 < length rest
    → IsSpelling most text bytes → (c : ℕ) × (more : List ℕ) × (bytes ≡ done ++ c ∷ more) × (rest ≡ escape_of c ++ escaped more)
more_spelled most text done rest bytes h x some spelling =
    let tail = rest_spelled done bytes rest x spelling.are_bytes (sym spelling.spells ∙ h) in
    some_more done rest bytes tail.0 some tail.1 tail.2

-- no bytes are spelled where no byte's spelling comes next
pub no_spelling : (most : ℕ) (text done rest : List ℕ) → text ≡ escaped done ++ rest → All (λ c. c < 256) done → 0 < length rest
    → ((c : ℕ) (after : List ℕ) → c < 256 → rest ≢ escape_of c ++ after) → (bytes : List ℕ) → ¬ IsSpelling most text bytes
no_spelling most text done rest h x some none bytes spelling =
    let next = more_spelled most text done rest bytes h x some spelling in
    let in_bytes : length done < length bytes = omega (arith, ap length next.2, length-append done (next.0 ∷ next.1)) in
    let here : get_or bytes (length done) 0 ≡ next.0 = ap (λ bs. get_or bs (length done) 0) next.2 ∙ get_or-append_seam done next.0 next.1 0 in
    none next.0 (escaped next.1) (omega (arith, spelling.are_bytes (length done) 0 in_bytes, here)) next.3

-- nor where there are too many
pub too_many : (most : ℕ) (text done rest : List ℕ) → text ≡ escaped done ++ rest → All (λ c. c < 256) done → 0 < length rest → length done ≡ most
    → (bytes : List ℕ) → ¬ IsSpelling most text bytes
too_many most text done rest h x some full bytes spelling =
    let next = more_spelled most text done rest bytes h x some spelling in
    omega (arith, spelling.short, full, ap length next.2, length-append done (next.0 ∷ next.1))

nothing_more : (more : List ℕ) → escaped more ≡ [] → more ≡ []
nothing_more [] h = refl
nothing_more (c ∷ cs) h = absurd (spelling_some c (escaped cs) h)

-- a text is the escape form of one list of bytes at most
pub only_spelled : (a b : List ℕ) → All (λ c. c < 256) a → All (λ c. c < 256) b → escaped a ≡ escaped b → a ≡ b
only_spelled a b x y h =
    let tail = rest_spelled b a [] y x (h ∙ sym (append-nil (escaped b))) in
    tail.1 ∙ rw (nothing_more tail.0 tail.2, append-nil b)
