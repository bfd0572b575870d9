-- Laws of known bytes.
use Rattle.std.proofs.Common.{◌≡◌, ◌≤◌, ◌+◌, ◌-◌, ◌++◌, ap, length-drop, ◌∙◌, ℕ, List, Option, Some, None, IfSome, min, inl, inr, refl, sym, length, take, drop}
use Rattle.std.proofs.Common.{arith, append_assoc, length-append, length-take, length-take-le}
use Rattle.std.specs.Io.KnownBytes.{Appends, Consumes, Keeps}
use Rattle.std.proofs.{Math.Seq.take-add, Math.Seq.take-append-add, Math.Seq.drop-append_seam, lemmas.Bool.cases_lt, Math.ListN.drop_of_length-le}
use Rattle.std.proofs.lemmas.List.{take_all, take-append-le, nil_from_length}
use Rattle.adf_runs.specs.Streams.{IsExcerpt, PassesOver, TakesAtMost, TakesCount, TakesFirst}

pub appends_two : (a b c : Option (List ℕ)) (bs cs all : List ℕ) → all ≡ bs ++ cs → Appends a b bs → Appends b c cs → Appends a c all
appends_two None b c bs cs all e p q = tt
appends_two (Some x) None c bs cs all e p q = absurd p
appends_two (Some x) (Some y) None bs cs all e p q = absurd q
appends_two (Some x) (Some y) (Some z) bs cs all e p q = rw (e, q, p, append_assoc)

-- a write of the rest adds to the prefix that was written
pub appends_more : (a b c : Option (List ℕ)) (at n : ℕ) (bytes part : List ℕ) → part ≡ drop at bytes → Appends a b (take at bytes)
    → Appends b c (take n part)
    → Appends a c (take (at + n) bytes)
appends_more a b c at n bytes part e p q = appends_two a b c _ _ _ (rw e (take-add at n bytes)) p q

pub consumes_more : (a b c : Option (List ℕ)) (bs cs all : List ℕ) → all ≡ bs ++ cs → Consumes a b bs → Consumes b c cs → Consumes a c all
consumes_more None b c bs cs all e p q = tt
consumes_more (Some x) None c bs cs all e p q = absurd p
consumes_more (Some x) (Some y) None bs cs all e p q = absurd q
consumes_more (Some x) (Some y) (Some z) bs cs all e p q = rw (p, q, e, append_assoc)

-- what was read before, and then what a read put behind it
pub read_front : (filled n : ℕ) (before part rest : List ℕ) → filled ≡ length before → n ≤ length part
    → take (filled + n) (before ++ (part ++ rest)) ≡ before ++ take n part
read_front filled n before part rest e h =
    ap (λ k. take (k + n) (before ++ (part ++ rest))) e ∙ take-append-add before (part ++ rest) n
    ∙ ap (λ l. before ++ l) (take-append-le n part rest h)

-- more is taken
pub more_counted : (n k : ℕ) (a b c : Option (List ℕ)) (part : List ℕ) → TakesCount n a b → k ≤ length part
    → Consumes b c (take k part) → TakesCount (n + k) a c
more_counted n k a b c part (bs, len, taken) few more = (
  bs ++ take k part,
  omega (arith, len, length-append bs (take k part), length-take-le k part few),
  consumes_more a b c bs (take k part) _ refl taken more,
)

-- what was taken, where no more is
still_taken : (a b c : Option (List ℕ)) (bs : List ℕ) → Consumes a b bs → Keeps b c → Consumes a c bs
still_taken None b c bs p q = tt
still_taken (Some x) None c bs p q = absurd p
still_taken (Some x) (Some y) None bs p q = absurd q
still_taken (Some x) (Some y) (Some z) bs p q = p ∙ ap (λ (l : List ℕ). bs ++ l) (sym q)

pub still_at_most : (n : ℕ) (a b c : Option (List ℕ)) → TakesAtMost n a b → Keeps b c → TakesAtMost n a c
still_at_most n a b c (bs, l, x) kept = (bs, l, still_taken a b c bs x kept)

pub counted_at_most : (n k : ℕ) (a b : Option (List ℕ)) → k ≤ n → TakesCount k a b → TakesAtMost n a b
counted_at_most n k a b few (bs, l, x) = (bs, omega arith, x)

pub front_at_most : (n k : ℕ) (a b : Option (List ℕ)) (bytes : List ℕ) → k ≤ n → Consumes a b (take k bytes) → TakesAtMost n a b
front_at_most n k a b bytes few x = (take k bytes, omega (arith, length-take k bytes), x)

pub two_at_most : (n m k : ℕ) (a b c : Option (List ℕ)) → n + m ≤ k → TakesAtMost n a b → TakesAtMost m b c → TakesAtMost k a c
two_at_most n m k a b c few (bs, l, x) (cs, r, y) = (bs ++ cs, omega (arith, length-append bs cs), consumes_more a b c bs cs _ refl x y)

pub fewer_at_most : (n k : ℕ) (a b : Option (List ℕ)) → n ≤ k → TakesAtMost n a b → TakesAtMost k a b
fewer_at_most n k a b few (bs, l, x) = (bs, omega arith, x)

-- what is left behind the first bytes
pub left_over : (n : ℕ) (x y bytes : List ℕ) → TakesFirst n (Some x) (Some y) bytes → y ≡ drop n x
left_over n x y bytes (first, taken) =
    let e : x ≡ take n x ++ y = taken ∙ ap (λ (l : List ℕ). l ++ y) first in
    elim (cases_lt (length x) n) [
      | inl short ↦
          let all : take n x ≡ x = take_all n x (omega arith) in
          let len : length x ≡ length x + length y = ap length e ∙ ap (λ (l : List ℕ). length (l ++ y)) all ∙ length-append x y in
          nil_from_length y (omega (arith, len)) ∙ sym (drop_of_length-le x (omega arith))
      | inr long ↦
          let front : length (take n x) ≡ n = length-take-le n x long in
          sym (ap (drop n) e ∙ ap (λ (m : ℕ). drop m (take n x ++ y)) (sym front) ∙ drop-append_seam (take n x) y)
    ]

-- how many bytes the first n are
first_length : (n : ℕ) (x bytes : List ℕ) → bytes ≡ take n x → length bytes ≡ min n (length x)
first_length n x bytes e = ap length e ∙ length-take n x

-- bytes that are passed over, bytes that are held, and bytes that are passed over again
pub part_read : (from to limit : ℕ) (a b c d : Option (List ℕ)) (before held after : ℕ) (bytes : List ℕ)
    → held ≡ length bytes → from ≤ to → to ≤ limit → PassesOver from a b before
    → TakesFirst (to - from) b c bytes → PassesOver (limit - to) c d after → IfSome a (λ all. IsExcerpt from to limit all bytes (before + held + after))
part_read from to limit None b c d before held after bytes count order inside p q r = tt
part_read from to limit (Some x) None c d before held after bytes count order inside (u, f, l) q r = absurd f.1
part_read from to limit (Some x) (Some y) None d before held after bytes count order inside p q r = absurd q.1
part_read from to limit (Some x) (Some y) (Some z) None before held after bytes count order inside p q (v, g, m) = absurd g.1
part_read from to limit (Some x) (Some y) (Some z) (Some w) before held after bytes count order inside (u, f, l) q (v, g, m) =
    let at_from : y ≡ drop from x = left_over from x y u f in
    let at_to : z ≡ drop (to - from) y = left_over (to - from) y z bytes q in
    let first : length u ≡ min from (length x) = first_length from x u f.0 in
    let middle : length bytes ≡ min (to - from) (length y) = first_length (to - from) y bytes q.0 in
    let rest : length v ≡ min (limit - to) (length z) = first_length (limit - to) z v g.0 in
    let left : length y ≡ length x - from = ap length at_from ∙ length-drop from x in
    let past : length z ≡ length y - (to - from) = ap length at_to ∙ length-drop (to - from) y in
    (q.0 ∙ ap (take (to - from)) at_from, omega (arith, count, first, middle, rest, left, past, l, m))
