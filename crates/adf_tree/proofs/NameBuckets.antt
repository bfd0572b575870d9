-- The buckets of names.
use Rattle.std.proofs.Common.{◌≡◌, ◌==◌, ◌&&◌, ◌||◌, ◌⊎◌, inl, inr, ℕ, ◌+◌, ◌-◌, ◌<◌, ◌≤◌, List, [], ◌∷◌, ◌++◌, length, get_or, set, take, Bool, true, false}
use Rattle.std.proofs.Common.{Option, Some, None, arith, sym, refl, zero, suc, ◌∙◌, ap, get_or-set_same, get_or-set_other, ◌^◌}
use Rattle.std.specs.{Ordering.is_eq, List.slice_get}
use Rattle.std.proofs.{Math.Seq.take-suc, lemmas.Option.get_or_from_slice_get, lemmas.Option.slice_get_within, lemmas.Grind.common_steps}
use Rattle.std.proofs.lemmas.Bool.{cases_Bool, false_from_ne_true, lt-ltb, ltb-true}
use Rattle.std.proofs.lemmas.List.{length-set, Folds.list_any-append, Folds.list_any_at}
use Rattle.adf_tree.specs.{declared.name_key.NameKey.NameKey, NameKeys.by_words, NameSet.is_among, NameSet.IsUnion, NameSet.IsWith, NameSet.Names}
use Rattle.adf_tree.specs.declared.name_set.Probe.{Probe, TheVariants.Stored, TheVariants.Vacant, TheVariants.Full}
use Rattle.adf_tree.specs.NameBuckets.{holder_of, first_bucket_in, probe_at, probe_from, probe_of, probe_buckets, while_few, AreStored}
use Rattle.adf_tree.proofs.{NameKeys.one_key, NameKeys.same_either, NameKeys.same_itself, NameKeys.same_words, Lists.get_last}

-- names and their places
at_more : (xs ys : Names) (i : ℕ) (k : NameKey) → slice_get xs i ≡ Some k → slice_get (xs ++ ys) i ≡ Some k
at_more [] ys i k h = cc
at_more (x ∷ xs) ys zero k h = h
at_more (x ∷ xs) ys (suc i) k h = at_more xs ys i k h

at_among : (xs : Names) (i : ℕ) (h k : NameKey) → slice_get xs i ≡ Some h → is_eq (by_words k h) ≡ true → is_among xs k ≡ true
at_among xs i h k at same = grind (arith, common_steps, list_any_at, slice_get_within xs i h at, get_or_from_slice_get xs i h h at)

-- what the next bucket tells
pub next_bucket : (names : Names) (buckets : List ℕ) (k : NameKey) (bucket end : ℕ) → bucket < end → probe_from names buckets k bucket (end - bucket)
    ≡ probe_at bucket k (holder_of names buckets bucket) (probe_from names buckets k (bucket + 1) (end - (bucket + 1)))
next_bucket names buckets k bucket end lt =
    let more : end - bucket ≡ suc (end - (bucket + 1)) = omega arith in
    rw more refl

-- the buckets of a name, one after the other
pub probe_start : (names : Names) (buckets : List ℕ) (k : NameKey) (first : ℕ) → first ≡ first_bucket_in (length buckets - 8) k
    → probe_buckets names buckets k ≡ probe_from names buckets k first (first + 8 - first)
unfolding probe_buckets
probe_start names buckets k first is =
    let all : first + 8 - first ≡ 8 = omega arith in
    rw (all, is) refl

module _ (names : Names) (buckets : List ℕ) (k : NameKey) (answer : Probe) (bucket end : ℕ)
    (same : answer ≡ probe_from names buckets k bucket (end - bucket)) where
  pub probe_vacant : bucket < end → holder_of names buckets bucket ≡ None → answer ≡ Vacant bucket
  probe_vacant lt none = same ∙ (next_bucket names buckets k bucket end lt ∙ rw none refl)

  pub probe_stored : (h : NameKey) → bucket < end → holder_of names buckets bucket ≡ Some h → is_eq (by_words k h) ≡ true → answer ≡ Stored
  probe_stored h lt at is = same ∙ (next_bucket names buckets k bucket end lt ∙ rw (at, is) refl)

  pub probe_next : (h : NameKey) → bucket < end → holder_of names buckets bucket ≡ Some h → is_eq (by_words k h) ≡ false
      → answer ≡ probe_from names buckets k (bucket + 1) (end - (bucket + 1))
  probe_next h lt at is = same ∙ (next_bucket names buckets k bucket end lt ∙ rw (at, is) refl)

  pub probe_end : end ≤ bucket → answer ≡ Full
  probe_end le = grind (arith, common_steps)

-- equal words are those of one name
pub same_name : (h k : NameKey) (words answer : Bool)
    → words ≡ ((h.first == k.first) && ((h.second == k.second) && ((h.third == k.third) && (h.fourth == k.fourth)))) → words ≡ answer
    → is_eq (by_words k h) ≡ answer
same_name h k words answer are at = rw (← same_either h k, same_words h k, ← are) at

-- the search, bucket by bucket
pub ruleset bucket_steps = (probe_start, probe_vacant, probe_stored, probe_next, probe_end, same_name)

-- a name with a bucket is among the names
stored_step : (names : Names) (i bucket : ℕ) (k : NameKey) (o : Option NameKey) (further : Probe) → slice_get names i ≡ o
    → (further ≡ Stored → is_among names k ≡ true) → probe_at bucket k o further ≡ Stored → is_among names k ≡ true
stored_step names i bucket k None further at more e = cc
stored_step names i bucket k (Some h) further at more e = grind (arith, common_steps, cases_Bool, at_among)

stored_from : (names : Names) (buckets : List ℕ) (k : NameKey) (bucket n : ℕ) → probe_from names buckets k bucket n ≡ Stored → is_among names k ≡ true
stored_from names buckets k bucket zero e = cc
stored_from names buckets k bucket (suc n) e = grind (arith, common_steps, stored_step, (stored_from names buckets k (bucket + 1) n))

-- where few names have buckets, the buckets tell all
all_told : (count : ℕ) (s : Probe) → count < 2 ^ 32 → while_few count s ≡ s
all_told count s h = grind (arith, common_steps, lt-ltb)

stored_told : (count : ℕ) (s : Probe) → while_few count s ≡ Stored → s ≡ Stored
stored_told count s h = grind (arith, common_steps, cases_Bool)

-- a bucket is vacant only where few names have one
few_told : (count : ℕ) (s : Probe) (bucket : ℕ) → while_few count s ≡ Vacant bucket → count < 2 ^ 32
few_told count s bucket h = grind (arith, common_steps, cases_Bool, ltb-true)

pub few_stored : (names : Names) (buckets : List ℕ) (k : NameKey) (bucket : ℕ) → probe_of names buckets k ≡ Vacant bucket → length names < 2 ^ 32
few_stored names buckets k bucket e = few_told (length names) (probe_buckets names buckets k) bucket e

pub stored_among : (names : Names) (buckets : List ℕ) (overflow : Names) (k : NameKey) → probe_of names buckets k ≡ Stored
    → is_among (names ++ overflow) k ≡ true
unfolding probe_buckets
stored_among names buckets overflow k e =
    let told : probe_buckets names buckets k ≡ Stored = stored_told (length names) (probe_buckets names buckets k) e in
    rw (list_any-append (λ n. is_eq (by_words k n)) names overflow, stored_from names buckets k (first_bucket_in (length buckets - 8) k) 8 told) refl

-- a vacant bucket is one of those that were looked at, and none has it
record IsVacant (names : Names) (buckets : List ℕ) (from n bucket : ℕ) : Type 0 where
  none : holder_of names buckets bucket ≡ None
  after : from ≤ bucket
  before : bucket < from + n

vacant_step : (names : Names) (buckets : List ℕ) (k : NameKey) (from n bucket : ℕ) (o : Option NameKey) (further : Probe)
    → holder_of names buckets from ≡ o → (further ≡ Vacant bucket → IsVacant names buckets (from + 1) n bucket)
    → probe_at from k o further ≡ Vacant bucket → IsVacant names buckets from (suc n) bucket
vacant_step names buckets k from n bucket None further at more e = grind (arith, common_steps)
vacant_step names buckets k from n bucket (Some h) further at more e = grind (arith, common_steps, cases_Bool)

vacant_from : (names : Names) (buckets : List ℕ) (k : NameKey) (from n bucket : ℕ) → probe_from names buckets k from n ≡ Vacant bucket
    → IsVacant names buckets from n bucket
vacant_from names buckets k from zero bucket e = cc
vacant_from names buckets k from (suc n) bucket e = search (arith, vacant_step, vacant_from names buckets k (from + 1) n bucket)

-- a vacant bucket is given to a new name: who had a bucket has it still
had : (names : Names) (buckets : List ℕ) (bucket from : ℕ) (name h : NameKey) → holder_of names buckets bucket ≡ None
    → holder_of names buckets from ≡ Some h
    → holder_of (names ++ name ∷ []) (set buckets bucket (length names)) from ≡ Some h
had names buckets bucket from name h free at = grind (arith, common_steps, free, get_or-set_other, at_more)

-- what is found at buckets of which none is vacant
abbrev IsTaken : Probe → Type 0
IsTaken Stored = Unit
IsTaken (Vacant bucket) = ⊥
IsTaken Full = Unit

stays_step : (bucket : ℕ) (k : NameKey) (o p : Option NameKey) (old new answer : Probe) → ((h : NameKey) → o ≡ Some h → p ≡ Some h)
    → (old ≡ answer → new ≡ answer) → IsTaken answer → probe_at bucket k o old ≡ answer → probe_at bucket k p new ≡ answer
stays_step bucket k o p old new answer l m n q = search (arith, cases_Bool)

stays_from : (names : Names) (buckets : List ℕ) (bucket : ℕ) (name : NameKey) → holder_of names buckets bucket ≡ None
    → (answer : Probe) → IsTaken answer → (k : NameKey) (from n : ℕ) → probe_from names buckets k from n ≡ answer
    → probe_from (names ++ name ∷ []) (set buckets bucket (length names)) k from n ≡ answer
stays_from names buckets bucket name free answer taken k from zero e = e
stays_from names buckets bucket name free answer taken k from (suc n) e =
    search (arith, stays_step, set, had, stays_from names buckets bucket name free answer taken k (from + 1) n)

-- and the new name has it
gains_step : (names : Names) (buckets : List ℕ) (bucket from : ℕ) (name : NameKey) (o : Option NameKey) (old new : Probe)
    → holder_of names buckets from ≡ o → bucket < length buckets → holder_of names buckets bucket ≡ None
    → (old ≡ Vacant bucket → new ≡ Stored) → probe_at from name o old ≡ Vacant bucket
    → probe_at from name (holder_of (names ++ name ∷ []) (set buckets bucket (length names)) from) new ≡ Stored
gains_step names buckets bucket from name None old new at inside free more e = grind (arith, common_steps, get_or-set_same, get_last, same_itself)
gains_step names buckets bucket from name (Some h) old new at inside free more e = grind (arith, common_steps, had, cases_Bool (is_eq (by_words name h)))

gains_from : (names : Names) (buckets : List ℕ) (bucket : ℕ) (name : NameKey) → bucket < length buckets → holder_of names buckets bucket ≡ None
    → (from n : ℕ) → probe_from names buckets name from n ≡ Vacant bucket
    → probe_from (names ++ name ∷ []) (set buckets bucket (length names)) name from n ≡ Stored
gains_from names buckets bucket name inside free from zero e = cc
gains_from names buckets bucket name inside free from (suc n) e = search (arith, gains_step, set, gains_from names buckets bucket name inside free (from + 1) n)

or_swap : (a b c : Bool) → ((a || (b || false)) || c) ≡ (b || (a || c))
or_swap a b c = grind (arith, common_steps)

pub with_new : (names overflow : Names) (name : NameKey) → IsWith (names ++ overflow) ((names ++ name ∷ []) ++ overflow) name
with_new names overflow name = grind (arith, common_steps, list_any-append, same_either, or_swap)

-- a name that is there once more
pub with_same : (names : Names) (name : NameKey) → is_among names name ≡ true → IsWith names names name
with_same names name there = grind (arith, common_steps, cases_Bool, one_key)

-- what may be found
told : (answer : Probe) → (answer ≡ Stored) ⊎ ((answer ≡ Full) ⊎ ((bucket : ℕ) × (answer ≡ Vacant bucket)))
told Stored = inl refl
told (Vacant bucket) = inr (inr (bucket, refl))
told Full = inr (inl refl)

or_right : (a b : Bool) → (a || b) ≡ false → b ≡ false
or_right true b h = cc
or_right false b h = h

module _ (names : Names) (buckets : List ℕ) (overflow : Names) (bucket : ℕ) (name : NameKey) (s : AreStored names buckets overflow)
    (inside : bucket < length buckets)
    (found : probe_of names buckets name ≡ Vacant bucket) where
  taken_told : (answer : Probe) → IsTaken answer → while_few (length (names ++ name ∷ [])) answer ≡ answer
  taken_told answer h = grind (arith, common_steps)

  few : length names < 2 ^ 32
  few = few_stored names buckets name bucket found

  found_there : probe_buckets names buckets name ≡ Vacant bucket
  found_there = sym (all_told (length names) (probe_buckets names buckets name) few) ∙ found

  free : holder_of names buckets bucket ≡ None
  unfolding probe_buckets
  free = (vacant_from names buckets name (first_bucket_in (length buckets - 8) name) 8 bucket found_there).none

  -- buckets that are not vacant tell the same
  stay_told : (answer : Probe) → IsTaken answer → (k : NameKey) → probe_buckets names buckets k ≡ answer
      → probe_buckets (names ++ name ∷ []) (set buckets bucket (length names)) k ≡ answer
  unfolding probe_buckets
  stay_told answer taken k e = search (arith, length-set, stays_from, free)

  stays : (answer : Probe) → IsTaken answer → (k : NameKey) → probe_of names buckets k ≡ answer
      → probe_of (names ++ name ∷ []) (set buckets bucket (length names)) k ≡ answer
  stays answer taken k e = grind (arith, common_steps, stay_told, all_told, few, taken_told)

  gain_told : (k : NameKey) → is_eq (by_words name k) ≡ true → probe_buckets (names ++ name ∷ []) (set buckets bucket (length names)) k ≡ Stored
  unfolding probe_buckets
  gain_told k same =
      rw (← one_key name k same, length-set buckets bucket (length names))
      (gains_from names buckets bucket name inside free (first_bucket_in (length buckets - 8) name) 8 found_there)

  gains : (k : NameKey) → is_eq (by_words name k) ≡ true → probe_of (names ++ name ∷ []) (set buckets bucket (length names)) k ≡ Stored
  gains k same = rw (gain_told k same) refl

  was_vacant : (k : NameKey) (other : ℕ) → probe_of (names ++ name ∷ []) (set buckets bucket (length names)) k ≡ Vacant other
      → is_among (names ++ overflow) k ≡ false
  was_vacant k other e = grind (arith, common_steps, told, stays)

  was_full : (k : NameKey) → probe_of (names ++ name ∷ []) (set buckets bucket (length names)) k ≡ Full
      → is_among (names ++ overflow) k ≡ is_among overflow k
  was_full k e = grind (arith, common_steps, told, stays, or_right, list_any-append)

  -- a name that has no bucket then is not the new one
  pub stored_new : AreStored (names ++ name ∷ []) (set buckets bucket (length names)) overflow
  stored_new = record {
    vacant = λ k other e.
        let new : is_eq (by_words name k) ≡ false = false_from_ne_true _ (λ t. cc (sym (gains k t) ∙ e)) in
        rw (with_new names overflow name k, new) (was_vacant k other e);
    full = λ k e.
        let new : is_eq (by_words name k) ≡ false = false_from_ne_true _ (λ t. cc (sym (gains k t) ∙ e)) in
        rw (with_new names overflow name k, new) (was_full k e);
  }

either_way : (a b c : Bool) → (a || c) ≡ c → (a || (b || c)) ≡ (b || c)
either_way a b c h = grind (arith, common_steps)

-- a name whose buckets are full is put into the overflow
pub stored_overflow : (names : Names) (buckets : List ℕ) (old new : Names) (name : NameKey) → AreStored names buckets old
    → probe_of names buckets name ≡ Full → IsWith old new name → AreStored names buckets new
stored_overflow names buckets old new name s full with = record {
  vacant = λ k bucket e.
      let other : is_eq (by_words name k) ≡ false =
      false_from_ne_true _ (λ t. let same : name ≡ k = one_key name k t in
      cc (sym full ∙ (ap (λ (x : NameKey). probe_of names buckets x) same ∙ e))) in
      rw (list_any-append (λ n. is_eq (by_words k n)) names new, with k, other, ← list_any-append (λ n. is_eq (by_words k n)) names old)
      (s.vacant k bucket e);
  full = λ k e.
      rw (list_any-append (λ n. is_eq (by_words k n)) names new, with k)
      (either_way (is_among names k) (is_eq (by_words name k)) (is_among old k)
      (sym (list_any-append (λ n. is_eq (by_words k n)) names old) ∙ s.full k e));
}

-- one name more of many that are put in
pub with_one : (old now new more : Names) (i : ℕ) (d : NameKey) → i < length more → IsUnion old (take i more) now → IsWith now new (get_or more i d)
    → IsUnion old (take (i + 1) more) new
with_one old now new more i d lt union with = grind (arith, common_steps, take-suc, list_any-append, same_either, or_swap)
