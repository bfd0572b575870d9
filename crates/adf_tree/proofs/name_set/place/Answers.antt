use Rattle.std.proofs.Common.{◌≡◌, ◌++◌, ◌||◌, Bool, true, false, Result, Ok, Err, OnErr, OnOk, refl, arith}
use Rattle.std.proofs.{lemmas.List.Folds.list_any-append, lemmas.Grind.common_steps}
use Rattle.adf_tree.specs.{declared.name_key.NameKey.NameKey, NameSet.IsWith, NameSet.Names}
use Rattle.adf_tree.proofs.NameBuckets.{stored_among, stored_overflow, with_new, with_same}
use Rattle.adf_tree.proofs.name_set.place.Goals as goal

-- what holds on both sides
on_both : {X Y P Q R : Type 0} (r : Result X Y) → OnOk r P → OnErr r Q → (P → R) → (Q → R) → R
on_both (Ok x) p q f g = f p
on_both (Err e) p q f g = g q

-- what follows on one
on_ok : {X Y P Q : Type 0} (r : Result X Y) → (P → Q) → OnOk r P → OnOk r Q
on_ok (Ok x) f p = f p
on_ok (Err e) f p = tt

or_shift : (a b c : Bool) → (a || (b || c)) ≡ (b || (a || c))
or_shift true true c = refl
or_shift true false c = refl
or_shift false true c = refl
or_shift false false c = refl

-- one name more behind others
with_behind : (names old new : Names) (name : NameKey) → IsWith old new name → IsWith (names ++ old) (names ++ new) name
with_behind names old new name with k = grind (arith, common_steps, list_any-append, or_shift)

pub returns-in-Stored-clause-new : goal.returns-in-Stored-clause-new
returns-in-Stored-clause-new c = grind (arith, common_steps, stored_among)

pub returns-in-Stored-clause-more : goal.returns-in-Stored-clause-more
returns-in-Stored-clause-more c = grind (arith, common_steps, with_same, stored_among)

pub returns-in_ok-fill_bucket-in-Vacant-clause-new : goal.returns-in_ok-fill_bucket-in-Vacant-clause-new
returns-in_ok-fill_bucket-in-Vacant-clause-new c = grind (arith, common_steps)

pub returns-in_ok-fill_bucket-in-Vacant-clause-more : goal.returns-in_ok-fill_bucket-in-Vacant-clause-more
returns-in_ok-fill_bucket-in-Vacant-clause-more c = grind (arith, common_steps, with_new)

pub returns-in-Full-clause-stored : goal.returns-in-Full-clause-stored
returns-in-Full-clause-stored c = grind (arith, common_steps, on_both, stored_overflow)

pub returns-in-Full-clause-new : goal.returns-in-Full-clause-new
returns-in-Full-clause-new c = grind (arith, common_steps)

pub returns-in-Full-clause-more : goal.returns-in-Full-clause-more
returns-in-Full-clause-more c = grind (arith, common_steps, on_ok, with_behind)
