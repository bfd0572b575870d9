-- The chains of a tree.
use Rattle.std.specs.Prelude.{ℕ, ◌==◌, ◌&&◌, Bool, List}
use Rattle.std.specs.List.{filter}
use Rattle.adf_base.specs.{Hash.slot_by, declared.hash.Letters.Letters, declared.hash.Letters.TheVariants.Ascii}
use Rattle.adf_tree.specs.declared.entry.Entry.{Entry}

-- whether an entry has this parent and slot
abbrev pub in_chain_by : Letters → ℕ → ℕ → Entry → Bool
in_chain_by letters p s e = (e.parent == p) && (slot_by letters e.name == s)

-- the entries with this parent and slot, in order
abbrev pub chain_by : Letters → List Entry → ℕ → ℕ → List Entry
chain_by letters es p s = filter (in_chain_by letters p s) es

-- by ASCII letters

abbrev pub chain : List Entry → ℕ → ℕ → List Entry
chain = chain_by Ascii
