-- The parent of an entry comes before it.
-- Letters: l the letters whose case is ignored; es the entries of a tree, e one of them, n its number.
use Rattle.std.proofs.Common.{◌≡◌, ◌-◌, ◌<◌, ℕ, List, Some, arith}
use Rattle.adf_base.specs.declared.hash.Letters.{Letters}
use Rattle.adf_tree.specs.{declared.entry.Entry.Entry, Tree.IsTreeBy, Tree.entry}
use Rattle.adf_tree.proofs.PathContents.{entry_says}

-- the parent of an entry has a smaller number
pub parent_smaller : {l : Letters} (es : List Entry) (n : ℕ) (e : Entry) → IsTreeBy l es → entry es n ≡ Some e → e.parent < n
parent_smaller es n e t h =
    let says = entry_says es n e h in
    let small = rw (says.2 e) at (t.parents (n - 1) e (omega (arith, says.0, says.1))) in
    omega (arith, small, says.0)
