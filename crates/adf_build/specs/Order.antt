-- The order of the entries of a tree.
use Rattle.std.specs.Prelude.{◌≤◌, ℕ, List, [], ◌∷◌}
use Rattle.adf_base.specs.declared.hash.Letters.{Letters}
use Rattle.adf_tree.specs.{declared.entry.Entry.Entry, Tree.rank_by}

-- the ranks of entries by these letters never decrease, and none is below r
abbrev pub RisesFromBy : Letters → ℕ → List Entry → Type 0
RisesFromBy letters r [] = Unit {0}
RisesFromBy letters r (e ∷ es) = (r ≤ rank_by letters e) × RisesFromBy letters (rank_by letters e) es
