-- Numbers that lead from one to the next.
-- Letters: right the numbers that may be on the way, next the number behind one; a, b, c numbers; bs those on the way; k the most of them.
use Rattle.std.specs.Prelude.{◌≡◌, ◌==◌, ℕ, Bool, true, cond, List, [], ◌∷◌, Option, Some, None, option_map}
use Rattle.std.proofs.Common.{zero, suc}

-- the way from b to 0, if each number on it is right, and there are k at most
abbrev pub way_by : (right : ℕ → Bool) → (next : ℕ → ℕ) → (k b : ℕ) → Option (List ℕ)
way_by right next zero b = cond (b == 0) (Some []) None
way_by right next (suc k) b =
    cond (b == 0) (Some []) (cond (right b) (option_map (λ bs. b ∷ bs) (way_by right next k (next b))) None)

-- the numbers on the way from b to c, each of them right
pub data IsPath (right : ℕ → Bool) (next : ℕ → ℕ) : (b : ℕ) → List ℕ → (c : ℕ) → Type 0 where
  ends : {b : ℕ} → IsPath right next b [] b
  goes : {b c : ℕ} {bs : List ℕ} → right b ≡ true → IsPath right next (next b) bs c → IsPath right next b (b ∷ bs) c
