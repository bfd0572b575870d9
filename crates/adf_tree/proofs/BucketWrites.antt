-- The buckets of a set of names, written back as a whole.
use Rattle.std.proofs.Common.{◌≡◌, ◌++◌, ℕ, List, append-nil, arith, drop, length, take}
use Rattle.std.proofs.{lemmas.List.drop_all, lemmas.List.take_all, lemmas.Grind.common_steps}
use Rattle.adf_tree.specs.{NameSet.Names, NameBuckets.AreStored}

-- what was lent is all that was held, and keeps its length
pub whole_back : (len : ℕ) (old lent new : List ℕ) → lent ≡ old → length lent ≡ len → length new ≡ length lent
    → take len (new ++ drop (length new) old) ≡ new
whole_back len old lent new all long kept = grind (arith, common_steps, drop_all, append-nil, take_all)

pub stored_back : (names overflow : Names) (len : ℕ) (old lent new : List ℕ) → lent ≡ old → length lent ≡ len → length new ≡ length lent
    → AreStored names new overflow → AreStored names (take len (new ++ drop (length new) old)) overflow
stored_back names overflow len old lent new all long kept stored = rw (whole_back len old lent new all long kept) stored
