-- The keys of names.
use Rattle.std.proofs.Common.{◌≡◌, ◌==◌, ◌||◌, inl, inr, ℕ, ◌+◌, ◌-◌, ◌<◌, ◌≤◌, List, [], ◌∷◌, ◌++◌, length, take, drop, get_or, set, true, false, arith}
use Rattle.std.proofs.Common.{nat_lt, nat_le, ◌&&◌, sym, refl, suc, ◌∙◌, ap, length-append, replicate}
use Rattle.std.specs.{Int.to_be_bytes, Int.w64, List.All, List.list_all, declared.cmp.Ordering.Ordering, Str.bytes_eq, Cmp.both_ways}
use Rattle.std.specs.Ordering.{is_eq, nat_cmp, ordering_then}
use Rattle.std.proofs.lemmas.Bool.{cases_Bool, cases_lt, and_parts, eq-eqb, eqb-true, false_from_ne_true, le-leb, leb-true, ltb-true, Decides.nat_tests}
use Rattle.std.proofs.{lemmas.List.Elements.All-drop, lemmas.List.Elements.All-take, Math.ListN.get_or-eq_default, lemmas.Nat.be_bytes_8}
use Rattle.std.proofs.{lemmas.Slice.Eq.bytes_eq-Decides, Math.Seq.take-append_seam, Math.Seq.take-suc, lemmas.Grind.common_steps}
use Rattle.std.proofs.lemmas.List.{map-append, length-map, length-take-le, take_all, take-append-drop, drop-drop, length-replicate, length-drop}
use Rattle.adf_base.specs.Hash.{upper_of}
use Rattle.adf_names.specs.Texts.{uppers}
use Rattle.adf_tree.specs.{declared.name_key.NameKey.NameKey, NameSet.has, NameSet.is_among, NameSet.IsWith, NameSet.Names}
use Rattle.adf_tree.specs.NameKeys.{by_words, is_short, key_of_name, padded, name_word}

upper_small : (c : ℕ) → c < 256 → nat_lt (upper_of c) 256 ≡ true
upper_small c h = grind (arith, nat_tests)

upper_bytes : (xs : List ℕ) → ((i : ℕ) → get_or xs i 0 < 256) → list_all (λ c. nat_lt c 256) (uppers xs) ≡ true
upper_bytes [] h = refl
upper_bytes (x ∷ xs) h = ap (λ b. b && list_all (λ c. nat_lt c 256) (uppers xs)) (upper_small x (h 0)) ∙ upper_bytes xs (λ i. h (suc i))

pub short_name : (xs : List ℕ) → length xs ≤ 30 → ((i : ℕ) → get_or xs i 0 < 256) → is_short (uppers xs) ≡ true
short_name xs le h = rw (upper_bytes xs h, length-map xs upper_of, le-leb (length xs) 30 le)

-- the next byte of a name, at the first of the zeros
put_next : (xs : List ℕ) (n v : ℕ) → set (xs ++ replicate (suc n) 0) (length xs) v ≡ (xs ++ v ∷ []) ++ replicate n 0
put_next [] n v = refl
put_next (x ∷ xs) n v = ap (λ ys. x ∷ ys) (put_next xs n v)

pub next_byte : (name text : List ℕ) (i : ℕ) → i < length name → length name ≤ 30 → text ≡ 0 ∷ (uppers (take i name) ++ replicate (31 - i) 0)
    → set text (i + 1) (upper_of (get_or name i 0)) ≡ 0 ∷ (uppers (take (i + 1) name) ++ replicate (31 - (i + 1)) 0)
next_byte name text i lt le is =
    let v : ℕ = upper_of (get_or name i 0) in
    let long : length (uppers (take i name)) ≡ i = length-map (take i name) upper_of ∙ length-take-le i name (omega arith) in
    let fewer : 31 - i ≡ suc (31 - suc i) = omega arith in
    let one : i + 1 ≡ suc i = omega arith in
    rw (one, is, fewer, take-suc name i 0 lt, map-append upper_of (take i name) (get_or name i 0 ∷ []))
    (ap (λ ys. 0 ∷ ys) (ap (λ n. set (uppers (take i name) ++ replicate (suc (31 - suc i)) 0) n v) (sym long) ∙ put_next (uppers (take i name))
    (31 - suc i) v))

pub whole : (name text : List ℕ) (i : ℕ) → i ≡ length name → length name ≤ 30 → text ≡ 0 ∷ (uppers (take i name) ++ replicate (31 - i) 0)
    → set text 0 (length name) ≡ padded (uppers name)
whole name text i all le is = rw (is, all, take_all (length name) name (omega arith), length-map name upper_of)

-- all numbers of a list are bytes
abbrev pub AreBytes : List ℕ → Type 0
AreBytes xs = All (λ c. c < 256) xs

few : (xs : List ℕ) → is_short xs ≡ true → length xs ≤ 30
few xs h = leb-true (length xs) 30 (and_parts (nat_le (length xs) 30) (list_all (λ c. nat_lt c 256) xs) h).0

padded_bytes : (xs : List ℕ) → is_short xs ≡ true → AreBytes (padded xs)
padded_bytes xs h = grind (arith, common_steps, nat_lt, and_parts, nat_le, few, ltb-true)

padded_long : (xs : List ℕ) → is_short xs ≡ true → length (padded xs) ≡ 32
padded_long xs h = omega (arith, few xs h, length-append xs (replicate (31 - length xs) 0), length-replicate {A = ℕ} (31 - length xs) 0)

-- 8 bytes have one number
bytes_of_word : (p : List ℕ) (i : ℕ) → AreBytes p → length p ≡ 32 → i ≤ 24 → to_be_bytes w64 (name_word p i) ≡ take 8 (drop i p)
bytes_of_word p i bytes long le =
    be_bytes_8 (take 8 (drop i p)) (name_word p i) (length-take-le 8 (drop i p) (omega (arith, length-drop i p)))
    (λ k. elim (cases_lt k (length (take 8 (drop i p)))) [
      | inl lt ↦ All-take (λ c. c < 256) 8 (drop i p) (All-drop (λ c. c < 256) i p bytes) k 0 lt
      | inr past ↦ rw (get_or-eq_default (take 8 (drop i p)) 0 past) (omega arith)
    ]) refl

-- 32 bytes in four parts
in_parts : (t : List ℕ) → length t ≡ 32 → take 8 (drop 0 t) ++ (take 8 (drop 8 t) ++ (take 8 (drop 16 t) ++ take 8 (drop 24 t))) ≡ t
in_parts t long = grind (arith, common_steps, take_all, length-drop, drop-drop, take-append-drop)

-- a name has one key, and a key is of one name
same_text : (p q : List ℕ) → AreBytes p → AreBytes q → length p ≡ 32 → length q ≡ 32 → name_word p 0 ≡ name_word q 0 → name_word p 8 ≡ name_word q 8
    → name_word p 16 ≡ name_word q 16 → name_word p 24 ≡ name_word q 24 → p ≡ q
same_text p q bp bq lp lq a b c d =
    let part : (i : ℕ) → i ≤ 24 → name_word p i ≡ name_word q i → take 8 (drop i p) ≡ take 8 (drop i q) =
    λ i le h. sym (bytes_of_word p i bp lp le) ∙ (ap (to_be_bytes w64) h ∙ bytes_of_word q i bq lq le) in
    sym (in_parts p lp) ∙ rw (part 0 (omega arith) a, part 8 (omega arith) b, part 16 (omega arith) c, part 24 (omega arith) d) (in_parts q lq)

unpadded : (x y : List ℕ) → padded x ≡ padded y → x ≡ y
unpadded x y h = grind (arith, common_steps, take-append_seam x (replicate (31 - length x) 0), take-append_seam y (replicate (31 - length y) 0))

pub then_is : (o p : Ordering) → is_eq (ordering_then o p) ≡ (is_eq o && is_eq p)
then_is o p = grind (arith, common_steps)

pub same_number : (a b : ℕ) → is_eq (nat_cmp a b) ≡ (a == b)
same_number a b = grind (arith, nat_tests)

pub same_words : (a b : NameKey)
    → is_eq (by_words a b) ≡ ((a.first == b.first) && ((a.second == b.second) && ((a.third == b.third) && (a.fourth == b.fourth))))
same_words a b = simp (then_is, same_number)

pub same_itself : (a : NameKey) → is_eq (by_words a a) ≡ true
same_itself a = grind (arith, common_steps, same_words, eq-eqb)

pub equal_words : (a b : NameKey) → is_eq (by_words a b) ≡ true
    → (a.first ≡ b.first) × (a.second ≡ b.second) × (a.third ≡ b.third) × (a.fourth ≡ b.fourth)
equal_words a b h = grind (arith, common_steps, and_parts, same_words, eqb-true)

one_name : (x y : List ℕ) → is_short x ≡ true → is_short y ≡ true → is_eq (by_words (key_of_name x) (key_of_name y)) ≡ true → x ≡ y
one_name x y sx sy h =
    let w = equal_words (key_of_name x) (key_of_name y) h in
    unpadded x y (same_text (padded x) (padded y) (padded_bytes x sx) (padded_bytes y sy) (padded_long x sx) (padded_long y sy) w.0 w.1 w.2 w.3)

pub same_names : (x y : List ℕ) → is_short x ≡ true → is_short y ≡ true → is_eq (by_words (key_of_name x) (key_of_name y)) ≡ bytes_eq x y
same_names x y sx sy =
    both_ways (is_eq (by_words (key_of_name x) (key_of_name y))) (bytes_eq x y) (λ t. (bytes_eq-Decides x y).1 (one_name x y sx sy t))
    (λ t. rw ((bytes_eq-Decides x y).0 t) (same_itself (key_of_name y)))

-- a name is no text that is none
pub not_short : (x y : List ℕ) → is_short x ≡ true → is_short y ≡ false → bytes_eq x y ≡ false
not_short x y sx ny = grind (arith, common_steps, false_from_ne_true, bytes_eq-Decides)

-- a name in a set
pub has_key : (names : Names) (bytes : List ℕ) → is_short bytes ≡ true → has names bytes ≡ is_among names (key_of_name bytes)
unfolding has
has_key names bytes short = rw short

-- a set with one name more
pub has_more : (old new : Names) (bytes x : List ℕ) → is_short bytes ≡ true → IsWith old new (key_of_name bytes)
    → has new x ≡ (bytes_eq bytes x || has old x)
unfolding has
has_more old new bytes x short more = grind (arith, common_steps, cases_Bool, same_names, not_short)

-- equal keys are one
same_fields : (a b : NameKey) → a.first ≡ b.first → a.second ≡ b.second → a.third ≡ b.third → a.fourth ≡ b.fourth → a ≡ b
same_fields a b p q r s = grind (arith, common_steps)

pub one_key : (a b : NameKey) → is_eq (by_words a b) ≡ true → a ≡ b
one_key a b h = let w = equal_words a b h in same_fields a b w.0 w.1 w.2 w.3

-- which of two keys comes first does not count
pub same_either : (a b : NameKey) → is_eq (by_words a b) ≡ is_eq (by_words b a)
same_either a b = grind (arith, common_steps, one_key, same_itself)
