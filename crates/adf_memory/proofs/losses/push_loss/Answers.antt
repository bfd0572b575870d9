use Rattle.std.proofs.Common.{All, List, [], arith, ◌++◌, ◌∷◌, ◌≤◌, ℕ}
use Rattle.std.proofs.lemmas.List.Elements.{All-push}
use Rattle.adf_memory.specs.{Rescuing.IsPathWithin, declared.losses.TableLoss.TableLoss}

-- paths that are within a text are within a longer one, and so is one more
within_more : (rows : List TableLoss) (row : TableLoss) (n m : ℕ) → n ≤ m → IsPathWithin m row → All (IsPathWithin n) rows → All (IsPathWithin m) (rows ++ row ∷ [])
within_more rows row n m le here all = All-push (IsPathWithin m) rows row (λ i d lt. omega (arith, all i d lt)) here
