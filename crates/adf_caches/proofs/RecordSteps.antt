-- The records of a block, one after another.
-- Letters: c the bytes of a cache block; at the byte of a record; k those passed, e all; f what a record names; r a record; n an entry, d a directory.
use Rattle.std.specs.Prelude.{◌&&◌, ◌==◌, Option, Some, None, cond, map, not, nat_lt}
use Rattle.std.specs.Option.{option_and_then}
use Rattle.std.proofs.Common.{◌≡◌, ◌<◌, ◌≤◌, ◌∙◌, ◌+◌, ◌-◌, ℕ, suc, Bool, true, false, List, ap, arith, inl, inr, length, refl, set, subst, sym}
use Rattle.std.proofs.lemmas.Bool.{and_parts, eqb-true, Decides.eqb_tells}
use Rattle.std.proofs.lemmas.{List.get_or-set_other, List.length-set, Option.cond_some}
use Rattle.adf_volume.specs.Walk.{Walk, node_block}
use Rattle.adf_findings.specs.Members.{has_mark, parent_node}
use Rattle.adf_caches.specs.Entries.{has_entry, headed_at}
use Rattle.adf_caches.specs.Caches.{entry_recorded, if_recorded, is_record_of}
use Rattle.adf_caches.specs.Marking.{KeepsOthers, mark_each, mark_one}
use Rattle.adf_caches.specs.Records.{RecordValue, record_at, record_fits, record_next, records_fit, records_from}

one_less : (k e : ℕ) → k < e → e - k ≡ suc (e - (k + 1))
one_less k e lt = omega (arith, lt)

none_left : (k e : ℕ) → e ≤ k → e - k ≡ 0
none_left k e h = omega (arith, h)

module _ (c : List ℕ) (k e at : ℕ) where
  pub fits_more : k < e → records_fit c (e - k) at ≡ (record_fits c at && records_fit c (e - (k + 1)) (record_next c at))
  fits_more lt = ap (λ n. records_fit c n at) (one_less k e lt)

  pub fits_end : e ≤ k → records_fit c (e - k) at ≡ true
  fits_end h = ap (λ n. records_fit c n at) (none_left k e h)

  pub named_more : (f : RecordValue → Option ℕ) (marks : List Bool) → k < e → mark_each (map f (records_from c (e - k) at)) marks
      ≡ option_and_then (mark_each (map f (records_from c (e - (k + 1)) (record_next c at)))) (mark_one (f (record_at c at)) marks)
  named_more f marks lt = ap (λ n. mark_each (map f (records_from c n at)) marks) (one_less k e lt)

  pub named_end : (f : RecordValue → Option ℕ) (marks : List Bool) → e ≤ k → mark_each (map f (records_from c (e - k) at)) marks ≡ Some marks
  named_end f marks h = ap (λ n. mark_each (map f (records_from c n at)) marks) (none_left k e h)

module _ (c : List ℕ) (k e at next : ℕ) (lt : k < e) (is : next ≡ record_next c at) where
  pub fit_step : records_fit c (e - k) at ≡ true → records_fit c (e - (k + 1)) next ≡ true
  fit_step h =
      let parts = and_parts (record_fits c at) (records_fit c (e - (k + 1)) (record_next c at)) (sym (fits_more c k e at lt) ∙ h) in
      subst (λ n. records_fit c (e - (k + 1)) n ≡ true) (sym is) parts.1

  pub named_step : (f : RecordValue → Option ℕ) (marks more : List Bool) (o : Option ℕ) (end : Option (List Bool)) → o ≡ f (record_at c at)
      → mark_one o marks ≡ Some more → mark_each (map f (records_from c (e - k) at)) marks ≡ end
      → mark_each (map f (records_from c (e - (k + 1)) next)) more ≡ end
  named_step f marks more o end names marked h =
      let rest = λ (n : ℕ). mark_each (map f (records_from c (e - (k + 1)) n)) in
      let one : mark_one (f (record_at c at)) marks ≡ Some more = ap (λ p. mark_one p marks) (sym names) ∙ marked in
      subst (λ n. rest n more ≡ end) (sym is)
      (sym (ap (option_and_then (rest (record_next c at))) one) ∙ (sym (named_more c k e at f marks lt) ∙ h))

-- a record that names nothing, or what has a mark
pub named_none : (c : List ℕ) (k e at : ℕ) (f : RecordValue → Option ℕ) (marks : List Bool) (o : Option ℕ) (end : Option (List Bool)) → k < e
    → o ≡ f (record_at c at) → mark_one o marks ≡ None → mark_each (map f (records_from c (e - k) at)) marks ≡ end → end ≡ None
named_none c k e at f marks o end lt names none h =
    let one : mark_one (f (record_at c at)) marks ≡ None = ap (λ p. mark_one p marks) (sym names) ∙ none in
    sym h ∙ (named_more c k e at f marks lt
    ∙ ap (option_and_then (mark_each (map f (records_from c (e - (k + 1)) (record_next c at))))) one)

-- a step that leads to something begins with something
leads_from : (f : ℕ → Option ℕ) (o : Option ℕ) (n : ℕ) → option_and_then f o ≡ Some n → (k : ℕ) × (f k ≡ Some n)
leads_from f (Some k) n e = (k, e)
leads_from f None n e = cc

-- what a record names is an entry of the directory
pub recorded_in : (image : List ℕ) (w : Walk) (d : ℕ) (r : RecordValue) (n : ℕ) → entry_recorded image w d r ≡ Some n
    → (has_entry w n ≡ true) × (parent_node w n ≡ d)
unfolding entry_recorded
recorded_in image w d r n e =
    let step = leads_from (if_recorded image w d r) (headed_at w r.header) n e in
    let m = step.0 in
    let pass = cond_some (has_entry w m && ((parent_node w m == d) && is_record_of image (node_block w m) r)) m n step.1 in
    let parts : (has_entry w m ≡ true) × (((parent_node w m == d) && is_record_of image (node_block w m) r) ≡ true) = and_parts _ _ pass.0 in
    let more : ((parent_node w m == d) ≡ true) × (is_record_of image (node_block w m) r ≡ true) = and_parts _ _ parts.1 in (
      subst (λ i. has_entry w i ≡ true) pass.1 parts.0,
      subst (λ i. parent_node w i ≡ d) pass.1 (eqb-true (parent_node w m) d more.0),
    )

module _ (w : Walk) (d : ℕ) where
  pub keeps_none : (old : List Bool) → KeepsOthers w d old old
  keeps_none old = record { size = refl; others = λ n h. refl }

  pub keeps_both : (old mid new : List Bool) → KeepsOthers w d old mid → KeepsOthers w d mid new → KeepsOthers w d old new
  keeps_both old mid new h k = record { size = k.size ∙ h.size; others = λ n out. k.others n out ∙ h.others n out }

  pub keeps_same : (old new : List Bool) → new ≡ old → KeepsOthers w d old new
  keeps_same old new e = subst (KeepsOthers w d old) (sym e) (keeps_none old)

  -- a mark of an entry in the directory
  pub keeps_marked : (o : Option ℕ) (old new : List Bool) → mark_one o old ≡ Some new → ((n : ℕ) → o ≡ Some n → parent_node w n ≡ d)
      → KeepsOthers w d old new
  keeps_marked None old new e inside = cc
  keeps_marked (Some k) old new e inside =
      let pass = cond_some (nat_lt k (length old) && not (has_mark old k)) (set old k true) new e in
      subst (KeepsOthers w d old) pass.1 (record {
        size = length-set old k true;
        others = λ n out. elim (eqb_tells n k) [
          | inl y ↦ absurd (out (subst (λ i. parent_node w i ≡ d) (sym y.1) (inside k refl)))
          | inr y ↦ get_or-set_other old k n true false y.1
        ];
      })
