-- Runs of marks, block by block.
use Rattle.std.proofs.Common.{◌≡◌, ◌+◌, ◌∙◌, ℕ, suc, Bool, true, false, List, [], add-one, ap, refl, subst, sym}
use Rattle.std.proofs.lemmas.Bool.{cond-false, cond-true}
use Rattle.adf_unread.specs.{Dropped.unread_at, Runs.joined_runs, Runs.runs_among, declared.runs.UnreadRun.UnreadRun}

module _ (marks : List Bool) where
  pub no_runs : runs_among marks 0 ≡ []
  unfolding runs_among
  no_runs = refl

  next_marked : (k : ℕ) → unread_at marks k ≡ true → runs_among marks (suc k) ≡ joined_runs (runs_among marks k) k
  unfolding runs_among
  next_marked k is = cond-true (unread_at marks k) (joined_runs (runs_among marks k) k) (runs_among marks k) is

  next_read : (k : ℕ) → unread_at marks k ≡ false → runs_among marks (suc k) ≡ runs_among marks k
  unfolding runs_among
  next_read k is = cond-false (unread_at marks k) (joined_runs (runs_among marks k) k) (runs_among marks k) is

  pub one_marked : (k : ℕ) (old new : List UnreadRun) → old ≡ runs_among marks k → unread_at marks k ≡ true → new ≡ joined_runs old k
      → new ≡ runs_among marks (k + 1)
  one_marked k old new before is step =
      subst (λ n. new ≡ runs_among marks n) (sym (add-one k)) (step ∙ (ap (λ l. joined_runs l k) before ∙ sym (next_marked k is)))

  pub none_marked : (k : ℕ) (old : List UnreadRun) → old ≡ runs_among marks k → unread_at marks k ≡ false → old ≡ runs_among marks (k + 1)
  none_marked k old before is = subst (λ n. old ≡ runs_among marks n) (sym (add-one k)) (before ∙ sym (next_read k is))

pub ruleset runs_steps = (no_runs, one_marked, none_marked)
