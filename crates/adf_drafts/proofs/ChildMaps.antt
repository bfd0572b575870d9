-- Maps from parent and name to number.
use Rattle.std.proofs.Common.{◌≡◌, ◌≢◌, ℕ, ◌<◌, ◌≤◌, inl, inr, List, [], ◌∷◌, ◌++◌, length, set, get_or, Some, None, Option, cond, true, arith, ◌==◌, ◌&&◌}
use Rattle.std.proofs.Common.{refl, zero, suc, sym, subst, ◌∙◌, ap}
use Rattle.std.specs.{List.slice_get, Ordering.is_eq, Str.bytes_eq, Map.lookup}
use Rattle.std.specs.BTreeMap.{BTreeMap, get, is_at, IsEmpty, IsUnchanged, Updates}
use Rattle.std.proofs.lemmas.Bool.{and_parts, cases_Bool, cases_eq, eqb-true, false_from_ne_true, cond-false}
use Rattle.std.proofs.{lemmas.Option.slice_get-get_or, Math.Bool.and_comm, lemmas.Grind.common_steps}
use Rattle.adf_drafts.specs.declared.child_map.ChildKey.{ChildKey}
use Rattle.adf_tree.specs.NameKeys.{is_short}
use Rattle.adf_drafts.specs.ChildMap.{bucket_of, by_child, child_key, number_in_bucket, number_in, AddsNumber, Numbers}
use Rattle.adf_tree.proofs.NameKeys.{equal_words, not_short, same_names, same_number, then_is}

same_key : (m p : ℕ) (k x : List ℕ) → is_short k ≡ true → is_short x ≡ true
    → is_eq (by_child (child_key m k) (child_key p x)) ≡ ((m == p) && bytes_eq k x)
same_key m p k x sk sx = grind (arith, then_is, same_names, same_number, and_comm)

-- one bucket more, with nothing in it
empty_none : (bucket : BTreeMap ChildKey ℕ) (k : ChildKey) → IsEmpty bucket → get by_child bucket k ≡ None
empty_none bucket k h = ap (lookup (is_at (by_child k))) h

none_more : (numbers : Numbers) (bucket : BTreeMap ChildKey ℕ) (i : ℕ) (k : ChildKey) → IsEmpty bucket
    → number_in_bucket (slice_get (numbers ++ bucket ∷ []) i) k ≡ number_in_bucket (slice_get numbers i) k
none_more [] bucket zero k h = empty_none bucket k h
none_more [] bucket (suc i) k h = refl
none_more (b ∷ bs) bucket zero k h = refl
none_more (b ∷ bs) bucket (suc i) k h = none_more bs bucket i k h

pub no_more : (numbers : Numbers) (bucket : BTreeMap ChildKey ℕ) (p : ℕ) (x : List ℕ) → IsEmpty bucket
    → number_in (numbers ++ bucket ∷ []) p x ≡ number_in numbers p x
unfolding number_in
no_more numbers bucket p x h = rw (none_more numbers bucket (bucket_of (child_key p x)) (child_key p x) h)

-- one more number
set_at : (numbers : Numbers) (i j : ℕ) (new : BTreeMap ChildKey ℕ) (k : ChildKey) → j ≢ i
    → number_in_bucket (slice_get (set numbers i new) j) k ≡ number_in_bucket (slice_get numbers j) k
set_at [] i j new k ne = refl
set_at (b ∷ bs) zero zero new k ne = absurd (ne refl)
set_at (b ∷ bs) zero (suc j) new k ne = refl
set_at (b ∷ bs) (suc i) zero new k ne = refl
set_at (b ∷ bs) (suc i) (suc j) new k ne = set_at bs i j new k (λ e. ne (ap (λ n. suc n) e))

set_here : (numbers : Numbers) (i : ℕ) (new : BTreeMap ChildKey ℕ) (k : ChildKey) → i < length numbers
    → number_in_bucket (slice_get (set numbers i new) i) k ≡ get by_child new k
set_here [] i new k lt = absurd (omega arith)
set_here (b ∷ bs) zero new k lt = refl
set_here (b ∷ bs) (suc i) new k lt = set_here bs i new k (omega arith)

get_here : (numbers : Numbers) (i : ℕ) (old : BTreeMap ChildKey ℕ) (k : ChildKey) → i < length numbers → old ≡ get_or numbers i old
    → number_in_bucket (slice_get numbers i) k ≡ get by_child old k
get_here numbers i old k lt is = rw (slice_get-get_or numbers i old lt, ← is)

-- a key in its bucket
key_there : (numbers : Numbers) (p : ℕ) (x : List ℕ) (bucket : BTreeMap ChildKey ℕ) → is_short x ≡ true → bucket_of (child_key p x) < length numbers
    → bucket ≡ get_or numbers (bucket_of (child_key p x)) bucket → get by_child bucket (child_key p x) ≡ number_in numbers p x
unfolding number_in
key_there numbers p x bucket short lt at = rw short (sym (get_here numbers (bucket_of (child_key p x)) bucket (child_key p x) lt at))

pub in_bucket : (numbers : Numbers) (p i : ℕ) (x : List ℕ) (k : ChildKey) (bucket : BTreeMap ChildKey ℕ) → k ≡ child_key p x → is_short x ≡ true
    → i ≡ bucket_of k → i < length numbers → bucket ≡ get_or numbers i bucket → get by_child bucket k ≡ number_in numbers p x
in_bucket numbers p i x k bucket key short is lt at =
    let here : i ≡ bucket_of (child_key p x) = is ∙ ap bucket_of key in
    ap (get by_child bucket) key
    ∙ key_there numbers p x bucket short (subst (λ j. j < length numbers) here lt) (subst (λ j. bucket ≡ get_or numbers j bucket) here at)

-- a key whose bucket is missing
past_all : (numbers : Numbers) (i : ℕ) (k : ChildKey) → length numbers ≤ i → number_in_bucket (slice_get numbers i) k ≡ None
past_all [] i k le = refl
past_all (b ∷ bs) zero k le = absurd (omega arith)
past_all (b ∷ bs) (suc i) k le = past_all bs i k (omega arith)

key_missing : (numbers : Numbers) (p : ℕ) (x : List ℕ) → is_short x ≡ true → length numbers ≤ bucket_of (child_key p x) → None ≡ number_in numbers p x
unfolding number_in
key_missing numbers p x short le = rw short (sym (past_all numbers (bucket_of (child_key p x)) (child_key p x) le))

pub no_bucket : (numbers : Numbers) (p i : ℕ) (x : List ℕ) (k : ChildKey) → k ≡ child_key p x → is_short x ≡ true → i ≡ bucket_of k
    → length numbers ≤ i → None ≡ number_in numbers p x
no_bucket numbers p i x k key short is le = key_missing numbers p x short (subst (λ j. length numbers ≤ j) (is ∙ ap bucket_of key) le)

-- what a bucket says after it was written
written : (numbers : Numbers) (i : ℕ) (old new : BTreeMap ChildKey ℕ) (q : ChildKey) (f : Option ℕ → Option ℕ) → i < length numbers
    → old ≡ get_or numbers i old → get by_child new q ≡ f (get by_child old q)
    → (bucket_of q ≢ i → number_in_bucket (slice_get numbers (bucket_of q)) q ≡ f (number_in_bucket (slice_get numbers (bucket_of q)) q))
    → number_in_bucket (slice_get (set numbers i new) (bucket_of q)) q ≡ f (number_in_bucket (slice_get numbers (bucket_of q)) q)
written numbers i old new q f lt is here there = grind (arith, common_steps, cases_eq, set_here, get_here, set_at)

-- keys that compare equal are in one bucket
same_bucket : (k q : ChildKey) → is_eq (by_child k q) ≡ true → bucket_of q ≡ bucket_of k
same_bucket k q h = grind (arith, common_steps, and_parts, then_is, equal_words, eqb-true, same_number)

-- one number more in a bucket
one_bucket : (numbers : Numbers) (i : ℕ) (old new : BTreeMap ChildKey ℕ) (k q : ChildKey) (n : ℕ) → i < length numbers → old ≡ get_or numbers i old
    → i ≡ bucket_of k → Updates by_child old new k (Some n)
    → number_in_bucket (slice_get (set numbers i new) (bucket_of q)) q
    ≡ cond (is_eq (by_child k q)) (Some n) (number_in_bucket (slice_get numbers (bucket_of q)) q)
one_bucket numbers i old new k q n lt is at up =
    written numbers i old new q (λ o. cond (is_eq (by_child k q)) (Some n) o) lt is (up.0 q)
    (λ ne. sym (cond-false (is_eq (by_child k q)) (Some n) (number_in_bucket (slice_get numbers (bucket_of q)) q)
    (false_from_ne_true (is_eq (by_child k q)) (λ t. ne (same_bucket k q t ∙ sym at)))))

-- one number more
pub has_number : (old numbers : Numbers) (i m : ℕ) (x : List ℕ) (bucket new : BTreeMap ChildKey ℕ) (k : ChildKey) (n : ℕ)
    → ((p : ℕ) (y : List ℕ) → number_in numbers p y ≡ number_in old p y) → i < length numbers → bucket ≡ get_or numbers i bucket → i ≡ bucket_of k
    → k ≡ child_key m x → is_short x ≡ true → Updates by_child bucket new k (Some n) → AddsNumber old (set numbers i new) m x n
unfolding number_in
has_number old numbers i m x bucket new k n same lt is at key short up p y =
    elim (cases_Bool (is_short y)) [
      | inl t ↦ rw (← same p y, t, one_bucket numbers i bucket new k (child_key p y) n lt is at up, key, same_key m p x y short t)
      | inr f ↦ rw (f, and_comm (m == p) (bytes_eq x y), not_short x y short f)
    ]

-- a bucket that was not changed
pub same_number_in : (old numbers : Numbers) (i : ℕ) (bucket new : BTreeMap ChildKey ℕ) (p : ℕ) (y : List ℕ)
    → ((p : ℕ) (y : List ℕ) → number_in numbers p y ≡ number_in old p y) → i < length numbers → bucket ≡ get_or numbers i bucket
    → IsUnchanged bucket new → number_in (set numbers i new) p y ≡ number_in old p y
unfolding number_in
same_number_in old numbers i bucket new p y same lt is un =
    rw (written numbers i bucket new (child_key p y) (λ o. o) lt is (ap (lookup (is_at (by_child (child_key p y)))) un) (λ ne. refl)) (same p y)
