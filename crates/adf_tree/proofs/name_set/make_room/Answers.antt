use Rattle.std.proofs.Common.{◌≡◌, ◌++◌, ◌||◌, [], ℕ, List, Bool, true, false, Result, Ok, Err, OnOk, arith, rules, refl}
use Rattle.std.proofs.{lemmas.List.Folds.list_any-append, lemmas.Grind.common_steps}
use Rattle.adf_tree.specs.{declared.name_key.NameKey.NameKey, NameSet.is_among, NameSet.IsUnion, NameSet.Names, NameBuckets.AreStored}
use Rattle.adf_tree.proofs.BucketWrites.{stored_back, whole_back}
use Rattle.adf_tree.proofs.name_set.make_room.Goals as goal

or_turned : (a b : Bool) → (a || (b || false)) ≡ (b || a)
or_turned true true = refl
or_turned true false = refl
or_turned false true = refl
or_turned false false = refl

-- the names are put in again, and then the overflow
put_again : {T E : Type 0} (r : Result T E) (names overflow stored lost start middle new : Names) → stored ≡ names → lost ≡ overflow → start ≡ []
    → IsUnion start stored middle → OnOk r (IsUnion middle lost new) → OnOk r ((k : NameKey) → is_among new k ≡ is_among (names ++ overflow) k)
put_again (Err e) names overflow stored lost start middle new is are none first rest = tt
put_again (Ok x) names overflow stored lost start middle new is are none first rest = grind (arith, common_steps, or_turned, list_any-append)

-- no name has a bucket
none_stored : (names : Names) (buckets : List ℕ) (overflow : Names) → names ≡ [] → overflow ≡ [] → AreStored names buckets overflow
none_stored names buckets overflow e f = rw (e, f) (record { vacant = λ k bucket h. refl; full = λ k h. refl })

on_any : {T E P : Type 0} (r : Result T E) → P → OnOk r P
on_any (Ok x) p = p
on_any (Err e) p = tt

pub returns-in_err-double_buckets-clause-stored : goal.returns-in_err-double_buckets-clause-stored
returns-in_err-double_buckets-clause-stored c = none_stored _ _ _ (search rules) (search rules)

pub place_all-requires-clause-stored : goal.place_all-requires-clause-stored
place_all-requires-clause-stored c = none_stored _ _ _ (search rules) (search rules)

pub returns-in_err-place_all-clause-stored : goal.returns-in_err-place_all-clause-stored
returns-in_err-place_all-clause-stored c = grind (arith, common_steps, stored_back)

pub place_overflow-requires-clause-stored : goal.place_overflow-requires-clause-stored
place_overflow-requires-clause-stored c = grind (arith, common_steps, stored_back)

pub returns-clause-stored : goal.returns-clause-stored
returns-clause-stored c = grind (arith, common_steps, stored_back)

pub returns-clause-some : goal.returns-clause-some
returns-clause-some c = grind (arith, common_steps, on_any, whole_back)

pub returns-clause-same : goal.returns-clause-same
returns-clause-same c = grind (arith, common_steps, put_again)
