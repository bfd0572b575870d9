use Rattle.std.proofs.Common.{◌≡◌, ◌∙◌, ◌++◌, ◌||◌, Bool, List, Ok, Err, Result, IfOk, OnOk, ℕ, ap, arith, not, subst, sym, true}
use Rattle.std.specs.Ordering.{is_eq}
use Rattle.std.proofs.lemmas.Grind.{common_steps}
use Rattle.adf_base.specs.declared.NoMemory.{NoMemory}
use Rattle.adf_names.specs.Texts.{uppers_by}
use Rattle.adf_tree.specs.{declared.name_key.NameKey.NameKey, NameKeys.by_words, NameKeys.is_short, NameKeys.key_of_name}
use Rattle.adf_tree.specs.NameSet.{has, is_among, HasMore, IsWith, Names}
use Rattle.adf_tree.proofs.{BucketWrites.stored_back, NameKeys.has_key, NameKeys.has_more}
use Rattle.adf_tree.proofs.name_set.NameSet.put_by.Goals as goal

-- a name is put by its key into a set with the same names
module _ (old now : Names) (x : List ℕ) (k : NameKey) (short : is_short x ≡ true) (key : k ≡ key_of_name x)
    (same : (q : NameKey) → is_among now q ≡ is_among old q) where
  is_new_there : (r : Result Bool NoMemory) → IfOk r (λ n. n ≡ not (is_among now k)) → IfOk r (λ n. n ≡ not (has old x))
  is_new_there (Ok n) h = h ∙ ap not (same k ∙ (ap (is_among old) key ∙ sym (has_key old x short)))
  is_new_there (Err e) h = tt

  is_more_there : (r : Result Bool NoMemory) (new : Names) → OnOk r (IsWith now new k) → OnOk r (HasMore old new x)
  is_more_there (Ok n) new h = λ y. has_more old new x y short (subst (IsWith old new) key (λ q. h q ∙ ap (λ b. is_eq (by_words k q) || b) (same q)))
  is_more_there (Err e) new h = tt

pub invariant_of-self : goal.invariant_of-self
invariant_of-self c = c.make_room.ensures.stored

pub place-requires-clause-stored : goal.place-requires-clause-stored
place-requires-clause-stored c = rw c.deref_mut.ensures.value c.make_room.ensures.stored

pub invariant_of-self-2 : goal.invariant_of-self-2
invariant_of-self-2 c = grind (arith, common_steps, stored_back)

pub returns-clause-new : goal.returns-clause-new
returns-clause-new c =
    is_new_there c.args.self.now (c.make_room.new.names.items ++ c.make_room.new.overflow.keys) (uppers_by c.args.letters c.args.name.now)
    c.of_by-key.result c.of_by-key.ensures.short c.of_by-key.ensures.key (λ q. rw (← c.self.view_is) (c.in_ok-make_room.ensures.same q))
    c.place.result c.place.ensures.new

pub returns-clause-more : goal.returns-clause-more
returns-clause-more c = grind (arith, is_more_there)
