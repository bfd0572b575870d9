-- What words tell of a map, word by word.
use Rattle.std.proofs.Common.{◌≡◌, ◌<◌, ◌+◌, ◌∙◌, ℕ, zero, suc, List, Option, Some, None, add-one, ap, arith, inl, inr, refl, subst, sym}
use Rattle.std.proofs.lemmas.Bool.{cases_lt}
use Rattle.std.proofs.lemmas.List.{get_or-map, map-set}
use Rattle.std.specs.Prelude.{IfSome}
use Rattle.adf_runs.specs.Streams.{AreFirst}
use Rattle.adf_survey_cmd.specs.MapWords.{told_by_word, told_by_words}

abbrev keep : Option (Option ℕ) → Option (Option ℕ) → Option (Option ℕ)
keep (Some told) next = Some told
keep None next = next

module _ (ws : List (List ℕ)) where
  step : (k : ℕ) → told_by_words ws (suc k) ≡ keep (told_by_words ws k) (told_by_word ws k)
  unfolding told_by_words
  step k = by_first (told_by_words ws k)
    where
      by_first : (o : Option (Option ℕ)) → (elim o [ Some told ↦ Some told | None ↦ told_by_word ws k ]) ≡ keep o (told_by_word ws k)
      by_first (Some told) = refl
      by_first None = refl

  pub none_told_first : told_by_words ws 0 ≡ None
  unfolding told_by_words
  none_told_first = refl

  pub none_told_more : (k : ℕ) → told_by_words ws k ≡ None → told_by_word ws k ≡ None → told_by_words ws (k + 1) ≡ None
  none_told_more k before here =
      subst (λ n. told_by_words ws n ≡ None) (sym (add-one k)) (step k ∙ (ap (λ o. keep o (told_by_word ws k)) before ∙ here))

  pub one_told : (k n : ℕ) (told : Option ℕ) → told_by_words ws k ≡ None → told_by_word ws k ≡ Some told → k < n → told_by_words ws n ≡ Some told
  one_told k zero told before here lt = absurd (omega arith)
  one_told k (suc n) told before here lt = elim (cases_lt k n) [
    | inl less ↦ step n ∙ ap (λ o. keep o (told_by_word ws n)) (one_told k n told before here less)
    | inr from ↦
        let last : k ≡ n = omega arith in
        subst (λ m. told_by_words ws (suc m) ≡ Some told) last (step k ∙ (ap (λ o. keep o (told_by_word ws k)) before ∙ here))
  ]

pub ruleset text_put = (map-set)

pub ruleset word_at = (get_or-map)

pub ruleset word_steps = (none_told_first, none_told_more, one_told)

-- the first bytes of what is left of a file are those of the file
pub known_first : (known left : Option (List ℕ)) (n : ℕ) (bytes : List ℕ) → IfSome known (λ all. left ≡ Some all) → AreFirst n left bytes
    → AreFirst n known bytes
known_first None left n bytes same first = tt
known_first (Some all) left n bytes same first = subst (λ o. AreFirst n o bytes) same first
