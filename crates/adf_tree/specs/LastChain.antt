-- The set of names in the last chain of a tree.
use Rattle.std.specs.Prelude.{◌≡◌, ℕ, ◌==◌, ◌&&◌, Bool, List, true}
use Rattle.std.specs.List.{list_any}
use Rattle.adf_base.specs.{Hash.slot_by, declared.hash.Letters.Letters}
use Rattle.adf_names.specs.Texts.{uppers_by}
use Rattle.adf_tree.specs.{NameSet.has, NameSet.HasMore, Tree.is_child_by, declared.entry.Entry.Entry, declared.last_chain.LastChain.LastChain}

-- whether the names of this parent and slot are known
abbrev pub knows : LastChain → ℕ → ℕ → Bool
knows c parent slot = c.is_known && (c.parent == parent) && (c.slot == slot)

-- the known names are those of the entries there
pub record IsOfBy (letters : Letters) (c : LastChain) (es : List Entry) : Type 0 where
  pub names : (name : List ℕ) → c.is_known ≡ true → slot_by letters name ≡ c.slot
      → has c.names (uppers_by letters name) ≡ list_any (is_child_by letters c.parent name) es

-- the known names are the old ones and one more
pub record Puts (old new : LastChain) (bytes : List ℕ) : Type 0 where
  pub was_known : new.is_known ≡ true → old.is_known ≡ true
  pub parent : new.parent ≡ old.parent
  pub slot : new.slot ≡ old.slot
  pub names : new.is_known ≡ true → HasMore old.names new.names bytes
