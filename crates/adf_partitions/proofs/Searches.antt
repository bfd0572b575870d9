-- The search for lost partition blocks, one block after the other. ps are the partitions before it, `found` those after k blocks.
use Rattle.std.proofs.Common.{◌≡◌, ◌≢◌, ◌≤◌, ◌<◌, ◌+◌, ◌++◌, ◌∷◌, [], ℕ, zero, suc, List, Bool, true, false, ap, arith, inl, inr, length, refl, subst}
use Rattle.std.proofs.{lemmas.Bool.cases_lt, lemmas.List.length_push, lemmas.Grind.common_steps}
use Rattle.std.specs.Prelude.{if◌then◌else◌}
use Rattle.adf_partitions.specs.{Disks.partition_at, declared.partition.Partition.Partition, declared.tables.Tables.Tables}
use Rattle.adf_partitions.specs.Searches.{is_lost_partition, with_all_lost, with_lost_partition}

pub pushed : (found : List Partition) (p : Partition) → found ++ p ∷ [] ≢ []
pushed found p e = absurd (omega (arith, ap length e, length_push found p))

module _ (bytes : List ℕ) (n : ℕ) (t : Tables) (ps : List Partition) where
  pub none_searched : ps ≡ with_all_lost bytes n t ps 0
  unfolding with_all_lost
  none_searched = refl

  one_searched : (k : ℕ) → with_all_lost bytes n t ps (k + 1) ≡ with_lost_partition bytes n t (with_all_lost bytes n t ps k) k
  unfolding with_all_lost
  one_searched k = let next : k + 1 ≡ suc k = omega arith in ap (with_all_lost bytes n t ps) next

  -- block k is lost
  pub put_lost : (k : ℕ) (found : List Partition) → found ≡ with_all_lost bytes n t ps k → is_lost_partition bytes t found k ≡ true
      → found ++ partition_at bytes n t found k ∷ [] ≡ with_all_lost bytes n t ps (k + 1)
  put_lost k found h e = grind (arith, common_steps, one_searched)

  -- or it is not
  pub put_none : (k : ℕ) (found : List Partition) → found ≡ with_all_lost bytes n t ps k → is_lost_partition bytes t found k ≡ false
      → found ≡ with_all_lost bytes n t ps (k + 1)
  put_none k found h e = grind (arith, common_steps, one_searched)

  some_kept : (found : List Partition) (k : ℕ) (lost : Bool) → found ≢ []
      → (if lost then found ++ partition_at bytes n t found k ∷ [] else found) ≢ []
  some_kept found k true some = pushed found (partition_at bytes n t found k)
  some_kept found k false some = some

  -- what is put stays
  some_later : (k m : ℕ) → k ≤ m → with_all_lost bytes n t ps k ≢ [] → with_all_lost bytes n t ps m ≢ []
  unfolding with_all_lost
  some_later k zero le some = let e : k ≡ 0 = omega arith in subst (λ i. with_all_lost bytes n t ps i ≢ []) e some
  some_later k (suc m) le some = elim (cases_lt m k) [
    | inl lt ↦ let e : k ≡ suc m = omega arith in subst (λ i. with_all_lost bytes n t ps i ≢ []) e some
    | inr ge ↦
        let found = with_all_lost bytes n t ps m in
        some_kept found m (is_lost_partition bytes t found m) (some_later k m ge some)
  ]

  -- so does what was found before
  pub some_before : (m : ℕ) → ps ≢ [] → with_all_lost bytes n t ps m ≢ []
  some_before m some = some_later 0 m (omega arith) (subst (λ (qs : List Partition). qs ≢ []) none_searched some)

  -- and a lost block is put
  pub some_lost : (k m : ℕ) (found : List Partition) → found ≡ with_all_lost bytes n t ps k → is_lost_partition bytes t found k ≡ true → k < m
      → with_all_lost bytes n t ps m ≢ []
  some_lost k m found h e lt =
      some_later (k + 1) m (omega arith) (subst (λ (qs : List Partition). qs ≢ []) (put_lost k found h e)
      (pushed found (partition_at bytes n t found k)))
